use Rattle.std.proofs.Common.{◌∙◌, Bool, List, ap, arith, false, get_or, length, sym}
use Rattle.ep_base.specs.declared.len_source.LenSource.{LenSource}
use Rattle.ep_base.specs.declared.len_source.LenSource.TheVariants.{Slice}
use Rattle.ep_packet.specs.LaxView.{bound_by}
use Rattle.ep_packet.proofs.LaxViewLemmas.{bound_more}
use Rattle.ep_packet.proofs.lax_tagged_slice.bound_after.Goals as goal
use Rattle.ep_tag.specs.declared.link.lax_link_ext_slice.LaxLinkExtSlice.{LaxLinkExtSlice}

pub loop-tag-preserved : goal.loop-tag-preserved
loop-tag-preserved c =
    c.bound_by-bound.ensures
    ∙ ap (λ (b : Bool × LenSource). bound_by b c.tag-item.result) c.loop-tag.invariant
    ∙ sym (bound_more (false, Slice) c.args.tags.now.items c.loop-tag.tag-index c.tag-item.result
    (omega (arith, ap length c.as_slice-tag-items.ensures.value))
    (c.tag-item.is ∙ ap (λ (xs : List LaxLinkExtSlice). get_or xs c.loop-tag.tag-index c.tag-item.result)
    c.as_slice-tag-items.ensures.value))
