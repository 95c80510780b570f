use Rattle.std.proofs.Common.{rules}
use Rattle.ep_link.proofs.EthernetEncoding.{put_together}
use Rattle.ep_link.proofs.link.ethernet2_header.Ethernet2Header.encoded.Goals as goal

pub returns-clause-bytes : goal.returns-clause-bytes
returns-clause-bytes c =
    let h = c.args.self.now in
    rw c.to_be_bytes-ether_type.ensures
    (put_together h.destination h.source _ _ (search rules) (search rules))
