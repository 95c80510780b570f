use Rattle.std.proofs.Common.{arith, subst}
use Rattle.tcp_streams.specs.StreamBuf.{IsSound}
use Rattle.tcp_streams.proofs.BufLemmas.{next_bounds}
use Rattle.tcp_streams.proofs.stream_buf.StreamBuf.location.Goals as goal

pub location_at-requires-clause-short : goal.location_at-requires-clause-short
location_at-requires-clause-short c =
    let sound = subst IsSound c.self.view_is c.self.invariant in
    let bounds = next_bounds c.args.self.now sound.sparse in
    omega (arith, bounds.1, c.next-next.ensures)
