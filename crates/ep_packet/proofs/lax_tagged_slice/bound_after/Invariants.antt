use Rattle.std.proofs.Common.{◌≡◌, false, take}
use Rattle.ep_base.specs.declared.len_source.LenSource.TheVariants.{Slice}
use Rattle.ep_packet.specs.LaxView.{bound_after}
use Rattle.ep_packet.proofs.lax_tagged_slice.bound_after.Given as goal

abbrev pub invariant-loop-tag : goal.invariant-loop-tag
invariant-loop-tag l = l.bound ≡ bound_after (false, Slice) (take l.tag-index l.tags.items)
