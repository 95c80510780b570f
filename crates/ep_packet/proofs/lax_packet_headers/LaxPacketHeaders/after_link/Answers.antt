use Rattle.std.proofs.Common.{◌≡◌, ◌∙◌, ◌+◌, IfSome, ap, arith, length, refl, subst, sym}
use Rattle.std.specs.Option.{option_map}
use Rattle.ep_packet.specs.LaxFits.{Moves, TagsFit}
use Rattle.ep_packet.specs.LaxPacketHeaders.{LaxHeaderLayers, lax_after_tags, lax_last_of, lax_named_after}
use Rattle.ep_packet.specs.LaxSliced.{first_stop}
use Rattle.ep_packet.specs.LaxTags.{stop_by}
use Rattle.ep_packet.proofs.LaxHeadersLemmas.{header_layers_of, headers_later, none_first, some_first, tagged_is}
use Rattle.ep_packet.proofs.LaxLayersLemmas.{tagged_of}
use Rattle.ep_packet.proofs.lax_packet_headers.LaxPacketHeaders.after_link.Goals as goal
use Rattle.ep_packet.proofs.lax_packet_headers.LaxPacketHeaders.after_link.Goals.{in-Some, in-None}
use Rattle.ep_tag.specs.Ether.{LaxEtherPayload, complete_ether}

pub stop_moved-stop_err-requires : goal.stop_moved-stop_err-requires
stop_moved-stop_err-requires c =
    let t = tagged_of c.tagged.inside.tags.items c.tagged.inside.len c.tagged.inside.last
    c.tagged.inside.stop in
    let l = header_layers_of c.layers.inside.net c.layers.inside.transport c.layers.inside.payload
    c.layers.inside.stop in
    headers_later (length c.from.result.payload) c.args.link_len t l
    (subst (TagsFit (length c.from.result.payload)) (sym c.tagged.view_is)
    c.from_ether_payload-tagged.ensures.fits)
    (c.layers.view_is ∙ c.from_ether_payload-layers.ensures.layers)
    (subst (λ (h : LaxHeaderLayers). IfSome t.last (λ p. IfSome h.stop (Moves (length p.payload))))
    (sym c.layers.view_is) c.from_ether_payload-layers.ensures.offset)
    (omega (arith, c.requires, ap (λ (p : LaxEtherPayload). length p.payload) c.from.ensures))

pub returns : goal.returns
returns c =
    let t = tagged_of c.tagged.inside.tags.items c.tagged.inside.len c.tagged.inside.last
    c.tagged.inside.stop in
    let l = header_layers_of c.layers.inside.net c.layers.inside.transport c.layers.inside.payload
    c.layers.inside.stop in
    let first = option_map (stop_by c.args.link_len) t.stop in
    let later = option_map (stop_by (c.args.link_len + t.len)) l.stop in
    let stopped : c.match-stop_moved.stop_err ≡ first_stop first later =
    elim c.match-stop_moved.branch [
      | in-Some w ↦ w.stop_err-is ∙ some_first c.stop_moved.result first later _ c.stop_moved.ensures w.in-Some.is
      | in-None w ↦ w.stop_err-is ∙ none_first c.stop_moved.result first _ later c.stop_moved.ensures
          w.in-None.is w.stop_moved-stop_err.ensures
    ] in
    tagged_is c.args.link_len c.args.link c.args.payload c.from.result t l c.layers.inside.payload
    c.after_tags.result c.unwrap_or.result c.headers_of.result.items c.match-stop_moved.stop_err
    c.from.ensures (c.tagged.view_is ∙ c.from_ether_payload-tagged.ensures.tags)
    (c.layers.view_is ∙ c.from_ether_payload-layers.ensures.layers) c.headers_of.ensures refl
    (c.after_tags.ensures ∙ ap (λ p. lax_after_tags t.tags (lax_named_after (complete_ether p)
    (lax_last_of t.tags))) c.payload.view_is) c.unwrap_or.ensures stopped
