use Rattle.std.proofs.Common.{sym}
use Rattle.ep_ipslice.proofs.Packets.{ipv4_found}
use Rattle.ep_packet.proofs.layer_slices.LayerSlices.from_ipv4.Goals as goal

pub in_ipv4-requires : goal.in_ipv4-requires
in_ipv4-requires c = ipv4_found c.args.slice.now c.in-Ok.packet (sym c.in-Ok.ensures.exact)
