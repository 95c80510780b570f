use Rattle.std.proofs.Common.{arith, refl}
use Rattle.etherparse.proofs.Sharing.{none_before, none_more, shared_at, none_at_all, none_after, none_past}
use Rattle.etherparse.proofs.defrag.sections.shares_offset.Goals as goal

pub returns-then-sections-len : goal.returns-then-sections-len
returns-then-sections-len c = (
  (λ h. cc),
  (λ h. absurd (none_past c.args.sections.now c.args.range _ c.requires c.if-len-gt0.true
      c.if-sections-len.true h)),
)

pub loop-at-init : goal.loop-at-init
loop-at-init c = (
  c.count_before-at.ensures.bound,
  none_before c.args.sections.now c.args.range c.count_before-at.result
      c.count_before-at.ensures.bound c.count_before-at.ensures.before.0,
)

pub loop-at-preserved : goal.loop-at-preserved
loop-at-preserved c =
    let inv = c.loop-at.invariant in (
      omega (arith, c.loop-at-test.true),
      none_more c.args.sections.now c.args.range c.loop-at.at _ c.max.result c.min.result
          c.loop-at-test.true c.max.ensures c.min.ensures c.if-max-min.false inv.1,
    )

pub returns-then-max-min : goal.returns-then-max-min
returns-then-max-min c = (
  (λ h. shared_at c.args.sections.now c.args.range c.loop-at.at _ c.max.result c.min.result
      c.loop-at-test.true c.max.ensures c.min.ensures c.if-max-min.true),
  (λ h. refl),
)

pub returns-else-sections-at : goal.returns-else-sections-at
returns-else-sections-at c =
    let inv = c.loop-at.invariant in (
      (λ h. cc),
      (λ h. absurd (none_after c.args.sections.now c.args.range c.loop-at.at _ c.requires
          c.loop-at-test.true c.if-sections-at.false inv.1 h)),
    )

pub returns-after-loop-at : goal.returns-after-loop-at
returns-after-loop-at c =
    let inv = c.loop-at.invariant in (
      (λ h. cc),
      (λ h. absurd (none_at_all c.args.sections.now c.args.range c.loop-at.at
          c.loop-at-test.false inv.1 h)),
    )
