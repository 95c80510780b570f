use Rattle.std.proofs.Common.{◌∙◌}
use Rattle.packets.proofs.source_route.ipv6_destination.Goals as goal

pub loop-header-init : goal.loop-header-init
loop-header-init c =
    let whole = c.extensions.ensures.whole in
    let there = c.extensions_of_a_packet.ensures _ _ whole in
    let left = c.iter-header-items.ensures.headers _ whole.pieces whole.last whole.row
    (c.extensions.ensures.value ∙ whole.exts) in
    (tt, tt, cc (there, left, c.into_iter-header-iterator.ensures.into_iter_gives, c.destination-destination.ensures, c.header.ensures))
