use Rattle.std.proofs.Common.{◌∙◌}
use Rattle.tcp_streams.proofs.AfterGapLemmas.{text_from}
use Rattle.tcp_streams.proofs.stream_buf.StreamBuf.available_from.Goals as goal

pub returns-clause-text : goal.returns-clause-text
returns-clause-text c ss shows after =
    let was = rw (← c.self.view_is) at shows in
    let low = rw (← c.self.view_is) at after in
    c.available_from.ensures ∙ text_from _ ss c.self.invariant.sparse was c.args.position low
