use Rattle.std.proofs.Common.{◌∙◌, sym}
use Rattle.tcp_streams.proofs.BufLemmas.{shows_text}
use Rattle.tcp_streams.proofs.stream_buf.StreamBuf.available.Goals as goal

pub returns-clause-text : goal.returns-clause-text
returns-clause-text c ss shows =
    let was = rw (← c.self.view_is) at shows in
    rw (← c.self.view_is) (c.available.ensures ∙ sym (shows_text _ ss c.self.invariant.sparse was))
