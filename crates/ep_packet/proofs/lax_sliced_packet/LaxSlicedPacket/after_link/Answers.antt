use Rattle.std.proofs.Common.{◌∙◌, IfSome, ap, arith, length, subst, sym}
use Rattle.ep_packet.specs.LaxFits.{Moves, TagsFit}
use Rattle.ep_packet.specs.LaxSliced.{LaxLayers}
use Rattle.ep_packet.proofs.LaxLayersLemmas.{layers_later, tagged_of}
use Rattle.ep_packet.proofs.lax_sliced_packet.LaxSlicedPacket.after_link.Goals as goal
use Rattle.ep_tag.specs.Ether.{LaxEtherPayload}

pub stop_moved-stop_err-requires : goal.stop_moved-stop_err-requires
stop_moved-stop_err-requires c =
    let t = tagged_of c.tagged.inside.tags.items c.tagged.inside.len c.tagged.inside.last
    c.tagged.inside.stop in
    let layers : LaxLayers =
    record {
      net = c.layers.inside.net;
      transport = c.layers.inside.transport;
      stop = c.layers.inside.stop;
    } in
    layers_later (length c.from.result.payload) c.args.link_len t layers
    (subst (TagsFit (length c.from.result.payload)) (sym c.tagged.view_is)
    c.from_ether_payload-tagged.ensures.fits)
    (c.layers.view_is ∙ c.from_ether_payload-layers.ensures.layers)
    (subst (λ (l : LaxLayers). IfSome t.last (λ p. IfSome l.stop (Moves (length p.payload))))
    (sym c.layers.view_is) c.from_ether_payload-layers.ensures.offset)
    (omega (arith, c.requires, ap (λ (p : LaxEtherPayload). length p.payload) c.from.ensures))
