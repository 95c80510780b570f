use Rattle.std.proofs.Common.{◌∙◌, Bool, ap, arith, false, sym, take}
use Rattle.etherparse.specs.base.declared.len_source.LenSource.{LenSource}
use Rattle.etherparse.specs.base.declared.len_source.LenSource.TheVariants.{Slice}
use Rattle.etherparse.specs.packet.LaxView.{bound_after, bound_by}
use Rattle.etherparse_structs.proofs.CutTags.{after_one_more}
use Rattle.etherparse_structs.proofs.lax_packet.is_cut_after.Goals as goal

pub loop-tag-preserved : goal.loop-tag-preserved
loop-tag-preserved c =
    let before : Bool × LenSource = bound_after (false, Slice) (take c.loop-tag.tag-index c.args.tags.now) in
    c.is_cut_by-is_cut.ensures before.1
    ∙ ap (λ (is_cut : Bool). (bound_by (is_cut, before.1) c.tag-item.result).0) c.loop-tag.invariant
    ∙ sym (ap (λ (b : Bool × LenSource). b.0) (after_one_more (false, Slice) c.args.tags.now c.loop-tag.tag-index
    c.tag-item.result (omega arith) c.tag-item.is))
