use Rattle.tcp_streams.proofs.AfterGapLemmas.{after_gap_result, first_result, last_result}
use Rattle.tcp_streams.proofs.stream_buf.StreamBuf.gap_after.Goals as goal

pub returns-clause-bytes : goal.returns-clause-bytes
returns-clause-bytes c ss shows =
    let was = rw (← c.self.view_is) at shows in
    after_gap_result _ ss c.self.invariant.sparse was c.args.position c.gap_after.result c.gap_after.ensures.gap
    c.gap_after.ensures.bytes

pub returns-clause-first : goal.returns-clause-first
returns-clause-first c ss shows =
    let was = rw (← c.self.view_is) at shows in
    rw (← c.self.view_is)
    (first_result _ ss c.self.invariant.sparse was c.args.position c.gap_after.result c.gap_after.ensures.gap)

pub returns-clause-last : goal.returns-clause-last
returns-clause-last c ss shows =
    let was = rw (← c.self.view_is) at shows in
    rw (← c.self.view_is)
    (last_result _ ss c.self.invariant.sparse was c.args.position c.gap_after.result c.gap_after.ensures.none)
