use Rattle.std.proofs.Common.{arith}
use Rattle.tcp_streams.proofs.CountLemmas.{counted_most_of}
use Rattle.tcp_streams.proofs.stream_buf.StreamBuf.accept.Goals as goal

pub overflow_add-result : goal.overflow_add-result
overflow_add-result c =
    omega (arith, c.requires.fits, counted_most_of _ _ _ c.count_held-repeated.result c.count_held-repeated.ensures)
