use Rattle.std.proofs.Common.{◌≡◌, false, take}
use Rattle.etherparse.specs.base.declared.len_source.LenSource.TheVariants.{Slice}
use Rattle.etherparse.specs.packet.LaxView.{bound_after}
use Rattle.etherparse_structs.proofs.lax_packet.is_cut_after.Given as goal

abbrev pub invariant-loop-tag : goal.invariant-loop-tag
invariant-loop-tag l = l.is_cut ≡ (bound_after (false, Slice) (take l.tag-index l.tags)).0
