use Rattle.std.proofs.Common.{[], refl, sym, subst}
use Rattle.ep_base.specs.Prefixes.{TakesPrefix}
use Rattle.ep_link.specs.Arp.{IsArpPacket}
use Rattle.ep_packet.proofs.layer_slices.LayerSlices.from_arp.Goals as goal

pub returns-in-Ok-clause-parts : goal.returns-in-Ok-clause-parts
returns-in-Ok-clause-parts c =
    let takes = subst (TakesPrefix IsArpPacket c.args.slice.now) (sym c.in-Ok.ensures.exact)
    (c.packets_are_found.ensures c.args.slice.now) in
    let found = takes.found in
    record { net = record { before = []; after = found.1.0; here = refl; parts = found.1.1 }; transport = tt }
