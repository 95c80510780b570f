use Rattle.std.proofs.Common.{arith, sym}
use Rattle.tcp_streams.proofs.RunLemmas.{after_ends, after_own}
use Rattle.tcp_streams.proofs.gaps.Gaps.missing_from.Goals as goal

pub returns-clause-within : goal.returns-clause-within
returns-clause-within c =
    let ends = after_ends c.args.position c.args.self.now c.in-Some.gap (sym c.in-Some.ensures) in
    let own = after_own 0 _ c.args.position c.args.self.now c.in-Some.gap c.requires (sym c.in-Some.ensures) in
    (omega arith, omega (arith, ends, own.1), omega arith)
