use Rattle.std.proofs.Common.{◌<◌, ◌≤◌, arith}
use Rattle.etherparse.specs.declared.defrag.ip_frag_range.IpFragRange.{IpFragRange}
use Rattle.etherparse.proofs.Ordered.{starts_before, starts_from, prefix_all, back_all}
use Rattle.etherparse.proofs.defrag.sections.count_up_to.Goals as goal

pub loop-count-init : goal.loop-count-init
loop-count-init c = (
  c.requires.within,
  starts_before c.args.sections.now c.args.range.start c.args.range.end c.args.first
      c.requires.ordered c.requires.range c.requires.within c.requires.first.0,
)

pub returns-else-sections-count-clause-up_to : goal.returns-else-sections-count-clause-up_to
returns-else-sections-count-clause-up_to c =
    let inv = c.loop-count.invariant in (
      prefix_all (λ (s : IpFragRange). s.start ≤ c.args.range.end) _ _ inv.0 inv.1,
      back_all (λ (s : IpFragRange). c.args.range.end < s.start) _ _
          (starts_from c.args.sections.now c.loop-count.count c.args.range.end _
          c.requires.ordered c.loop-count-test.true c.if-sections-count.false),
    )

pub returns-after-loop-count-clause-up_to : goal.returns-after-loop-count-clause-up_to
returns-after-loop-count-clause-up_to c =
    let inv = c.loop-count.invariant in (
      prefix_all (λ (s : IpFragRange). s.start ≤ c.args.range.end) _ _ inv.0 inv.1,
      back_all (λ (s : IpFragRange). c.args.range.end < s.start) c.args.sections.now
          c.loop-count.count
          (λ k d low high. absurd (omega (arith, low, high, c.loop-count-test.false))),
    )
