use Rattle.std.proofs.Common.{◌∙◌, sym}
use Rattle.tcp_streams.proofs.BufLemmas.{shows_length}
use Rattle.tcp_streams.proofs.stream_buf.StreamBuf.available_end.Goals as goal

pub returns : goal.returns
returns c ss shows =
    let was = rw (← c.self.view_is) at shows in
    c.available_end.ensures ∙ sym (shows_length _ ss c.self.invariant.sparse was)
