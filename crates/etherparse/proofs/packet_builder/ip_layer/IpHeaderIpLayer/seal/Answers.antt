use Rattle.std.proofs.Common.{[], None}
use Rattle.ep_ext.specs.Ipv4Exts.{ipv4_exts_of}
use Rattle.ep_ext.specs.Value.{value_of}
use Rattle.etherparse.proofs.packet_builder.ip_layer.IpHeaderIpLayer.seal.Goals as goal

pub returns-in-Ipv4-clause-refusal : goal.returns-in-Ipv4-clause-refusal
returns-in-Ipv4-clause-refusal c =
    rw c.in-Ipv4.is (c.seal_over_ipv4.ensures.refusal (ipv4_exts_of None))

pub returns-in-Ipv4-clause-ok : goal.returns-in-Ipv4-clause-ok
returns-in-Ipv4-clause-ok c = rw c.in-Ipv4.is (c.seal_over_ipv4.ensures.ok (ipv4_exts_of None))

pub returns-in-Ipv6-clause-ok : goal.returns-in-Ipv6-clause-ok
returns-in-Ipv6-clause-ok c = rw c.in-Ipv6.is (c.seal_over_ipv6.ensures.ok (value_of []))
