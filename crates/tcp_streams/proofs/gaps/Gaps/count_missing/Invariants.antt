use Rattle.std.proofs.Common.{◌≡◌, ◌-◌, ◌≤◌}
use Rattle.tcp_streams.specs.Gaps.{is_missing}
use Rattle.tcp_streams.specs.PlacedSegments.{count_from}
use Rattle.tcp_streams.proofs.gaps.Gaps.count_missing.Given as goal

abbrev pub invariant-loop : goal.invariant-loop
invariant-loop l = record {
  low : l.start ≤ l.position;
  passed : l.counter ≤ l.position;
  within : l.position ≤ l.end;
  count : l.count ≡ count_from (is_missing l.self) l.start (l.position - l.start);
}
