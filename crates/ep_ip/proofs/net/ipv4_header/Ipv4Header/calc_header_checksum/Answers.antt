use Rattle.std.proofs.Common.{rules, ◌≡◌}
use Rattle.ep_ip.specs.Ipv4Checksum.{right_checksum}
use Rattle.ep_ip.proofs.Ipv4Sum.{right_checksum_below}
use Rattle.ep_ip.proofs.net.ipv4_header.Ipv4Header.calc_header_checksum.Goals as goal

pub returns-clause-below : goal.returns-clause-below
returns-clause-below c =
    let value : c.swap_bytes.result ≡ right_checksum c.args.self.now = search rules in
    rw value (right_checksum_below c.args.self.now)
