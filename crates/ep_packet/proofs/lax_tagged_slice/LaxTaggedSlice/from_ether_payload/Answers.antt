use Rattle.std.proofs.Common.{◌∙◌, ◌≤◌, length, subst, sym}
use Rattle.ep_packet.specs.LaxFits.{TagsFit}
use Rattle.ep_packet.specs.LaxTags.{LaxTagged}
use Rattle.ep_packet.proofs.LaxFitsLemmas.{tags_fit}
use Rattle.ep_packet.proofs.LaxTagsLemmas.{found_lax, stops_can_move}
use Rattle.ep_packet.proofs.lax_tagged_slice.LaxTaggedSlice.from_ether_payload.Goals as goal

pub stop_moved-requires : goal.stop_moved-requires
stop_moved-requires c =
    stops_can_move c.args.payload _ (c.found.view_is ∙ c.from_payload-found.ensures.tags)
    (subst (λ (f : LaxTagged). f.len ≤ 48) (sym c.found.view_is) c.from_payload-found.ensures.most)

pub returns-clause-tags : goal.returns-clause-tags
returns-clause-tags c =
    found_lax c.args.payload _ c.stop_moved.result (c.found.view_is ∙ c.from_payload-found.ensures.tags)
    c.stop_moved.ensures

pub returns-clause-fits : goal.returns-clause-fits
returns-clause-fits c =
    subst (TagsFit (length c.args.payload.payload)) (sym (returns-clause-tags c)) (tags_fit 3 c.args.payload)
