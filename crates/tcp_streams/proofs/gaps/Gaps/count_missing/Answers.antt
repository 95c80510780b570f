use Rattle.std.proofs.Common.{◌∙◌, ◌-◌, arith, sym}
use Rattle.tcp_streams.specs.Gaps.{is_missing}
use Rattle.tcp_streams.proofs.CountLemmas.{count_from-most}
use Rattle.tcp_streams.proofs.RunLemmas.{counted_on, counted_rest, missing_is, missing_none}
use Rattle.tcp_streams.proofs.gaps.Gaps.count_missing.Goals as goal

pub returns-in_default : goal.returns-in_default
returns-in_default c =
    counted_rest (is_missing c.args.self.now) c.args.start c.loop.position c.args.end c.loop.count
    c.loop.invariant.low c.loop.invariant.within (missing_none c.loop.position c.args.end c.args.self.now c.requires.gaps (sym c.in_default.ensures.gap))
    c.loop.invariant.count

pub overflow_add-count : goal.overflow_add-count
overflow_add-count c =
    let gap = missing_is c.loop.position c.args.end c.args.self.now c.in-Some.gap c.requires.gaps
    (sym c.missing_from.ensures.gap ∙ c.in-Some.is) in
    omega (
      arith,
      c.loop.invariant.count,
      c.loop.invariant.low,
      gap.start,
      gap.some,
      gap.end,
      c.ranges.end,
      count_from-most (is_missing c.args.self.now) c.args.start (c.loop.position - c.args.start),
    )

pub loop-preserved : goal.loop-preserved
loop-preserved c =
    let gap = missing_is c.loop.position c.args.end c.args.self.now c.in-Some.gap c.requires.gaps
    (sym c.missing_from.ensures.gap ∙ c.in-Some.is) in
    record {
      low = omega (arith, c.loop.invariant.low, gap.start, gap.some);
      passed = omega (arith, c.loop.invariant.passed, gap.start, gap.some);
      within = gap.end;
      count = counted_on (is_missing c.args.self.now) c.args.start c.loop.position c.in-Some.gap.start c.in-Some.gap.end
          c.loop.count c.loop.invariant.low gap.start (omega (arith, gap.some)) gap.before gap.missing
          c.loop.invariant.count;
    }
