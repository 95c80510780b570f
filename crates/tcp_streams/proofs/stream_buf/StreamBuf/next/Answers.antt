use Rattle.std.proofs.Common.{arith}
use Rattle.tcp_streams.proofs.SparseLemmas.{available_bounds}
use Rattle.tcp_streams.proofs.stream_buf.StreamBuf.next.Goals as goal

pub overflow_add-result : goal.overflow_add-result
overflow_add-result c =
    let bounds = available_bounds _ c.self.invariant.sparse in
    omega (arith, bounds.1, c.self.invariant.sparse.short, c.available_end-end.ensures)
