use Rattle.std.proofs.Common.{length, ◌-◌, ◌≤◌}
use Rattle.std.specs.List.{AllWithin}
use Rattle.etherparse.specs.declared.defrag.ip_frag_range.IpFragRange.{IpFragRange}
use Rattle.etherparse.proofs.defrag.sections.count_up_to.Given as goal

abbrev pub invariant-loop-count : goal.invariant-loop-count
invariant-loop-count l = (l.count ≤ length l.sections)
    × AllWithin (λ (s : IpFragRange). s.start ≤ l.range.end) l.sections 0 l.count

abbrev pub decreases-loop-count : goal.decreases-loop-count
decreases-loop-count l = length l.sections - l.count
