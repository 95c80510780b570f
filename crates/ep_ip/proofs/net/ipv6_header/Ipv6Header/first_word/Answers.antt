use Rattle.std.proofs.Common.{arith}
use Rattle.ep_ip.proofs.Ipv6Bits.{or-first_word}
use Rattle.ep_ip.proofs.net.ipv6_header.Ipv6Header.first_word.Goals as goal

pub returns-clause-value : goal.returns-clause-value
returns-clause-value c =
    let h = c.args.self.now in
    rw (c.from-class.ensures, c.value.ensures.value)
    (or-first_word h.traffic_class h.flow_label (omega arith) (omega arith))
