use Rattle.tcp_streams.proofs.BufLemmas.{shows_gap_result, shows_no_gap_result}
use Rattle.tcp_streams.proofs.stream_buf.StreamBuf.gap.Goals as goal

pub returns-clause-gap : goal.returns-clause-gap
returns-clause-gap c ss shows =
    let was = rw (← c.self.view_is) at shows in
    shows_gap_result _ ss c.self.invariant.sparse was c.first_gap.result c.first_gap.ensures

pub returns-clause-none : goal.returns-clause-none
returns-clause-none c ss shows =
    let was = rw (← c.self.view_is) at shows in
    shows_no_gap_result _ ss c.self.invariant.sparse was c.first_gap.result c.first_gap.ensures
