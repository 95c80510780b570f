use Rattle.std.proofs.Common.{◌≡◌, ◌+◌, ◌≤◌, ◌++◌, drop, length, map, None}
use Rattle.std.specs.Prelude.{vec_len, vec_capacity}
use Rattle.netlines.specs.Posted.{frame, fragments_from, posted_frames}
use Rattle.netlines.specs.PostRefusal.{bad_cut_from, long_fragment_from, room}
use Rattle.netlines.proofs.messages.post_message.frames.Given as goal

abbrev pub invariant-loop-cut : goal.invariant-loop-cut
invariant-loop-cut l = record {
  len : vec_len l.frames ≡ l.cut-index;
  capacity : length l.cuts + 1 ≤ vec_capacity l.frames;
  rest : length l.rest + l.start ≡ length l.message;
  good : bad_cut_from (length l.message) l.start l.cut-index (drop l.cut-index l.cuts) ≡ None;
  fits : long_fragment_from (room l.letter.version_id l.in_fragments) l.cut-index
      (fragments_from l.start (drop l.cut-index l.cuts) l.rest) ≡ None;
  so_far : map (λ frame. frame.items) l.frames.items
      ++ map (frame l.letter l.in_fragments) (fragments_from l.start (drop l.cut-index l.cuts) l.rest)
      ≡ posted_frames l.letter l.message l.cuts;
}
