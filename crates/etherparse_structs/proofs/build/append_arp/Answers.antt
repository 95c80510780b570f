use Rattle.std.proofs.Common.{◌≡◌, ◌∙◌, ◌++◌, OnOk, subst, sym}
use Rattle.etherparse.specs.Built.{built_arp}
use Rattle.etherparse.specs.PacketImpl.{PacketImpl}
use Rattle.etherparse_structs.specs.PlannedArp.{arp_headers_in, wrong_in_arp}
use Rattle.etherparse_structs.proofs.PlanLemmas.{there}
use Rattle.etherparse_structs.proofs.build.append_arp.Goals as goal

pub returns-in-Ok-clause-bytes : goal.returns-in-Ok-clause-bytes
returns-in-Ok-clause-bytes c =
    let plan = c.args.plan.now in
    let arp = c.args.arp.now in
    let bytes = c.args.bytes.now in
    let same = (there (wrong_in_arp plan arp bytes) (arp_headers_in plan arp bytes) c.in-Ok.step
    (sym c.arp_headers.ensures ∙ c.in-Ok.is)).1 in
    subst (λ (step : PacketImpl). OnOk c.append_arp_packet.result
    (c.append_arp_packet.new.packet.items ≡ c.args.packet.now.items ++ built_arp step))
    same c.append_arp_packet.ensures.bytes
