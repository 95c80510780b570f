use Rattle.etherparse.proofs.packet_builder.ip_layer.IpHeadersIpLayer.seal.Goals as goal

pub returns-in-Ipv4-clause-refusal : goal.returns-in-Ipv4-clause-refusal
returns-in-Ipv4-clause-refusal c =
    rw c.in-Ipv4.is (c.seal_over_ipv4.ensures.refusal c.in-Ipv4.field-1)

pub returns-in-Ipv4-clause-ok : goal.returns-in-Ipv4-clause-ok
returns-in-Ipv4-clause-ok c = rw c.in-Ipv4.is (c.seal_over_ipv4.ensures.ok c.in-Ipv4.field-1)

pub returns-in-Ipv6-clause-ok : goal.returns-in-Ipv6-clause-ok
returns-in-Ipv6-clause-ok c = rw c.in-Ipv6.is (c.seal_over_ipv6.ensures.ok c.in-Ipv6.field-1)
