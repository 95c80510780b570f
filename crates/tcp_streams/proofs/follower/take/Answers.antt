use Rattle.std.proofs.Common.{◌∙◌, sym}
use Rattle.tcp_streams.specs.Segments.{segment}
use Rattle.tcp_streams.proofs.FollowLemmas.{kept_with, of_segment, shows_with, shows_without, taken_with, taken_without}
use Rattle.tcp_streams.proofs.follower.take.Goals as goal

pub returns-in-Ok : goal.returns-in-Ok
returns-in-Ok c earlier was =
    let mid = c.forget.ensures.shows earlier was in
    let at = c.forget.ensures.taken earlier was in
    let s = segment c.args.sequence_number c.args.flags c.args.payload.now in
    let none = c.in-Ok.ensures.refused earlier.segments mid.shows in
    let accepted = c.in-Ok.ensures.accepted earlier.segments mid.shows in (
      shows_with c.args.kept c.forget.new.buf earlier s mid at c.add.new.self accepted none c.in-Ok.ensures.start
          c.in-Ok.ensures.joined_late c.add.ensures.taken c.add.ensures.window,
      rw (c.new_gap.ensures, c.gap_begins.ensures) (taken_with c.args.kept c.forget.new.buf earlier s mid at c.add.new.self
          accepted none c.available_end-position.result c.gap-before.result c.gap-after.result c.in-Ok.added.conflicts
          c.in-Ok.added.repeated (c.available_end-position.ensures earlier.segments mid.shows)
          (record {
            some = c.gap-before.ensures.gap earlier.segments mid.shows;
            none = c.gap-before.ensures.none earlier.segments mid.shows;
          })
          (record { some = c.gap-after.ensures.gap _ accepted; none = c.gap-after.ensures.none _ accepted })
          (c.in-Ok.ensures.conflicts earlier.segments mid.shows) (c.in-Ok.ensures.repeated earlier.segments mid.shows)),
      kept_with c.args.kept c.forget.new.buf earlier mid at c.add.new.self c.available_end-position.result
          c.add.ensures.taken (c.available_end-position.ensures earlier.segments mid.shows),
    )

pub returns-in-Err : goal.returns-in-Err
returns-in-Err c earlier was =
    let mid = c.forget.ensures.shows earlier was in
    let at = c.forget.ensures.taken earlier was in
    let s = segment c.args.sequence_number c.args.flags c.args.payload.now in
    let is = of_segment _ c.in-Err.refused (sym c.is_of_segment.ensures ∙ c.if-is_of_segment.true)
    (c.in-Err.ensures.refused earlier.segments mid.shows) in (
      shows_without c.args.kept c.forget.new.buf earlier s mid at c.in-Err.refused is c.add.new.self c.in-Err.ensures.err,
      rw c.none.ensures (taken_without c.args.kept c.forget.new.buf earlier s mid at c.in-Err.refused is
          c.available_end-position.result c.gap-before.result (c.available_end-position.ensures earlier.segments mid.shows)
          (record {
            some = c.gap-before.ensures.gap earlier.segments mid.shows;
            none = c.gap-before.ensures.none earlier.segments mid.shows;
          })),
      kept_with c.args.kept c.forget.new.buf earlier mid at c.add.new.self c.available_end-position.result
          c.add.ensures.taken (c.available_end-position.ensures earlier.segments mid.shows),
    )
