use Rattle.std.proofs.Common.{ℕ, ◌+◌, ◌<◌, ◌^◌, IfErr, length, subst}
use Rattle.ep_packet.specs.SliceFault.{fault_offset}
use Rattle.ep_packet.proofs.layer_headers.LayerHeaders.from_ether_payload.Goals as goal
use Rattle.ep_tag.specs.Ether.{EtherPayload}

pub returns-in-IPV4-clause-offset : goal.returns-in-IPV4-clause-offset
returns-in-IPV4-clause-offset c =
    subst (λ (p : EtherPayload). IfErr c.from_ipv4.result (λ e. (n : ℕ)
    → length p.payload + n < 2 ^ 64 → fault_offset e + n < 2 ^ 64)) c.payload.view_is
    c.from_ipv4.ensures.offset

pub returns-in-IPV6-clause-offset : goal.returns-in-IPV6-clause-offset
returns-in-IPV6-clause-offset c =
    subst (λ (p : EtherPayload). IfErr c.from_ipv6.result (λ e. (n : ℕ)
    → length p.payload + n < 2 ^ 64 → fault_offset e + n < 2 ^ 64)) c.payload.view_is
    c.from_ipv6.ensures.offset
