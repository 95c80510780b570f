use Rattle.std.proofs.Common.{length, ◌-◌, ◌≤◌}
use Rattle.std.specs.List.{AllWithin}
use Rattle.etherparse.proofs.Sharing.{NoneShared}
use Rattle.etherparse.proofs.defrag.sections.shares_offset.Given as goal

abbrev pub invariant-loop-at : goal.invariant-loop-at
invariant-loop-at l = (l.at ≤ length l.sections)
    × AllWithin (NoneShared l.range) l.sections 0 l.at

abbrev pub decreases-loop-at : goal.decreases-loop-at
decreases-loop-at l = length l.sections - l.at
