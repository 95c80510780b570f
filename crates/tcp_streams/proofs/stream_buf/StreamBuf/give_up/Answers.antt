use Rattle.std.proofs.Common.{◌∙◌, refl, sym}
use Rattle.std.specs.Prelude.{slice_get}
use Rattle.tcp_streams.proofs.LossLemmas.{lost_position, shows_first, shows_lost, shows_lost_given_up}
use Rattle.tcp_streams.proofs.stream_buf.StreamBuf.give_up.Goals as goal

pub skip_to-requires : goal.skip_to-requires
skip_to-requires c =
    rw (← c.self.view_is) at (lost_position c.args.self.now c.args.number c.in-Some.gap c.lost.ensures.sound.sparse
    (sym c.lost.ensures.lost ∙ c.in-Some.is)).2

pub returns-in-Some-clause-lost : goal.returns-in-Some-clause-lost
returns-in-Some-clause-lost c ss shows =
    let first = slice_get c.args.self.now.held.gaps 0 in (
      first,
      shows_first c.args.self.now ss c.lost.ensures.sound.sparse shows,
      sym c.in-Some.is ∙ c.lost.ensures.lost
          ∙ sym (shows_lost c.args.self.now ss c.lost.ensures.sound.sparse shows first c.args.number),
    )

pub returns-in-None-clause-lost : goal.returns-in-None-clause-lost
returns-in-None-clause-lost c ss shows =
    let first = slice_get c.args.self.now.held.gaps 0 in (
      first,
      shows_first c.args.self.now ss c.lost.ensures.sound.sparse shows,
      sym c.in-None.is ∙ c.lost.ensures.lost
          ∙ sym (shows_lost c.args.self.now ss c.lost.ensures.sound.sparse shows first c.args.number),
    )

pub returns-in-Some-clause-shows : goal.returns-in-Some-clause-shows
returns-in-Some-clause-shows c ss shows =
    let was = rw (← c.self.view_is) at shows in
    let lost = rw (← c.self.view_is) at (sym c.lost.ensures.lost ∙ c.in-Some.is) in
    shows_lost_given_up _ _ ss c.args.number c.in-Some.gap c.self.invariant.sparse was lost c.skip_to.ensures.skips refl refl
    refl
