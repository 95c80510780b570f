use Rattle.tcp_streams.proofs.SparseLemmas.{available_fits}
use Rattle.tcp_streams.proofs.sparse_bytes.SparseBytes.available.Goals as goal

pub slice_bounds-result-end : goal.slice_bounds-result-end
slice_bounds-result-end c =
    let end = rw (← c.self.view_is) at c.available_end.ensures in
    available_fits _ c.available_end.result c.as_slice.result.now c.self.invariant end c.as_slice.ensures
