use Rattle.ep_ip.proofs.Ipv6Bits.{dscp_in-or, ecn_in-or}
use Rattle.ep_ip.proofs.net.ipv6_header.traffic_class_with.Goals as goal

pub returns-clause-dscp : goal.returns-clause-dscp
returns-clause-dscp c =
    rw (c.value-2.ensures, c.value.ensures.value)
    (dscp_in-or c.args.dscp c.args.ecn (rw c.value.ensures.value at c.value.ensures.small))

pub returns-clause-ecn : goal.returns-clause-ecn
returns-clause-ecn c =
    rw (c.value-2.ensures, c.value.ensures.value)
    (ecn_in-or c.args.dscp c.args.ecn (rw c.value.ensures.value at c.value.ensures.small))
