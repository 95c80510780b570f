use Rattle.std.proofs.Common.{sym, subst}
use Rattle.ep_packet.specs.Parts.{TagsIn}
use Rattle.ep_packet.specs.Tags.{Tagged}
use Rattle.ep_packet.proofs.HeaderLemmas.{named_after}
use Rattle.ep_packet.proofs.SlicedLemmas.{layer_fits}
use Rattle.ep_packet.proofs.packet_headers.PacketHeaders.after_link.Goals as goal

pub moved-requires-in-Err-layers_after : goal.moved-requires-in-Err-layers_after
moved-requires-in-Err-layers_after c =
    let t : Tagged =
    record {
      tags = c.tagged.inside.tags.items;
      len = c.tagged.inside.len;
      last = c.tagged.inside.last;
    } in
    layer_fits c.args.payload.payload c.args.link_len t c.in-Err-layers_after.error
    (subst (TagsIn c.args.payload.payload 0) (sym c.tagged.view_is) c.in-Ok.ensures.parts)
    c.in-Err-layers_after.ensures.offset
    (named_after t.tags t.last c.in-Err-layers_after.error c.in-Err-layers_after.ensures.layers)
    c.requires
