use Rattle.std.proofs.Common.{◌≤◌}
use Rattle.tcp_streams.proofs.FillLemmas.{FillsTo}
use Rattle.tcp_streams.proofs.sparse_bytes.write_missing.Given as goal

abbrev pub invariant-loop : goal.invariant-loop
invariant-loop l = record {
  low : l.position ≤ l.written;
  more : l.counter ≤ l.written;
  fills : FillsTo l.gaps l.position l.written l.fn.held l.held l.bytes;
}
