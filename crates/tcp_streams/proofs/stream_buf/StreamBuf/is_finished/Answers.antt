use Rattle.std.proofs.Common.{◌∙◌, ap, ℕ, Some}
use Rattle.std.specs.Prelude.{nat_eq}
use Rattle.std.specs.Option.{option_eq}
use Rattle.tcp_streams.proofs.BufLemmas.{shows_finished}
use Rattle.tcp_streams.proofs.stream_buf.StreamBuf.is_finished.Goals as goal

pub returns : goal.returns
returns c ss shows =
    let was = rw (← c.self.view_is) at shows in
    let is = c.eq.ensures ∙ ap (λ (n : ℕ). option_eq nat_eq c.self.inside.fin (Some n)) c.available_end.ensures in
    rw is (shows_finished _ ss c.self.invariant.sparse was)
