use Rattle.std.proofs.Common.{◌≡◌, ◌+◌, ◌≤◌, ◌^◌, length, false}
use Rattle.tcp_streams.specs.Gaps.{AreRunsIn, crosses_one, without}
use Rattle.tcp_streams.proofs.gap_tree.GapTree.close.Given as goal

abbrev pub invariant-loop : goal.invariant-loop
invariant-loop l = record {
  order : AreRunsIn 0 (2 ^ 64) l.self;
  whole : crosses_one l.fn.start l.self ≡ false;
  same : without l.fn.start l.fn.end l.self ≡ without l.fn.start l.fn.end l.fn.self;
  most : l.counter + length l.self ≤ length l.fn.self;
}
