use Rattle.std.proofs.Common.{◌∙◌, ◌-◌, arith, refl, sym}
use Rattle.tcp_streams.proofs.RunLemmas.{missing_is, missing_none}
use Rattle.tcp_streams.proofs.FillLemmas.{fills_all, fills_none, fills_put, fills_rest}
use Rattle.tcp_streams.proofs.sparse_bytes.write_missing.Goals as goal

pub loop-init : goal.loop-init
loop-init c = record {
  low = omega arith;
  more = omega arith;
  fills = fills_none c.args.gaps.now c.args.position c.args.held.now c.args.bytes.now;
}

pub returns-in_default : goal.returns-in_default
returns-in_default c =
    fills_rest c.args.gaps.now c.args.position c.loop.written c.args.held.now c.loop.held c.args.bytes.now
    c.loop.invariant.fills (sym c.requires.same) (missing_none c.loop.written _ c.args.gaps.now c.requires.gaps (sym c.in_default.ensures.gap))

pub loop-preserved : goal.loop-preserved
loop-preserved c =
    let gap = c.in-Some.gap in
    let is = missing_is c.loop.written _ c.args.gaps.now gap c.requires.gaps (sym c.missing_from.ensures.gap ∙ c.in-Some.is) in
    let start = is.start in
    let some = is.some in record {
      low = omega (arith, c.loop.invariant.low);
      more = omega (arith, c.loop.invariant.more);
      fills = fills_put c.args.gaps.now gap c.args.position c.loop.written c.args.held.now c.loop.held
          c.copy_from_slice.new.self c.args.bytes.now (gap.start - c.args.position)
          (gap.end - c.args.position - (gap.start - c.args.position)) c.loop.invariant.fills c.requires.same
          c.loop.invariant.low is refl refl c.copy_from_slice.ensures.after;
    }

pub returns : goal.returns
returns c =
    fills_all c.args.gaps.now c.args.position c.loop.written c.args.held.now c.loop.held c.args.bytes.now
    c.loop.invariant.fills (omega (arith, c.loop.invariant.more, c.loop-test.false, c.requires.same))
