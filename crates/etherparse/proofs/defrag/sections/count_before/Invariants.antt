use Rattle.std.proofs.Common.{◌<◌, ◌≤◌, length, ◌+◌, ◌^◌}
use Rattle.std.specs.List.{AllWithin}
use Rattle.etherparse.specs.declared.defrag.ip_frag_range.IpFragRange.{IpFragRange}
use Rattle.etherparse.proofs.defrag.sections.count_before.Given as goal

abbrev pub invariant-loop-bits : goal.invariant-loop-bits
invariant-loop-bits l = (l.bits < 64) × (l.count + 2 ^ l.bits ≤ length l.sections)
    × AllWithin (λ (s : IpFragRange). s.end < l.start) l.sections 0 l.count
    × AllWithin (λ (s : IpFragRange). l.start ≤ s.end) l.sections (l.count + 2 ^ l.bits)
    (length l.sections)

abbrev pub decreases-loop-bits : goal.decreases-loop-bits
decreases-loop-bits l = l.bits
