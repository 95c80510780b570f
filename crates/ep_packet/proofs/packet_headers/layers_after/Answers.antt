use Rattle.std.proofs.Common.{ℕ, ◌+◌, ◌<◌, ◌^◌, IfErr, IfSome, Option, length, subst, sym}
use Rattle.ep_packet.specs.SliceFault.{fault_offset}
use Rattle.ep_packet.proofs.packet_headers.layers_after.Goals as goal
use Rattle.ep_tag.specs.Ether.{EtherPayload}

pub returns-in-Some-clause-offset : goal.returns-in-Some-clause-offset
returns-in-Some-clause-offset c =
    let here = subst (λ (p : EtherPayload). IfErr c.from_ether_payload.result (λ e. (n : ℕ)
    → length p.payload + n < 2 ^ 64 → fault_offset e + n < 2 ^ 64)) c.payload.view_is
    c.from_ether_payload.ensures.offset in
    subst (λ (o : Option EtherPayload). IfErr c.from_ether_payload.result
    (λ e. IfSome o (λ q. (n : ℕ) → length q.payload + n < 2 ^ 64 → fault_offset e + n < 2 ^ 64)))
    (sym c.in-Some.is) here
