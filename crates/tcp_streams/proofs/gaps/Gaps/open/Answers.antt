use Rattle.std.proofs.Common.{◌^◌, arith}
use Rattle.tcp_streams.proofs.RunLemmas.{with_gap_runs}
use Rattle.tcp_streams.proofs.gaps.Gaps.open.Goals as goal

pub split-requires : goal.split-requires
split-requires c =
    rw c.in_ok-push_last.ensures.ok
    (with_gap_runs 0 (2 ^ 64) c.args.start c.args.end c.args.self.now c.requires.gaps (omega arith) (omega arith))
