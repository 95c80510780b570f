use Rattle.std.proofs.Common.{◌≡◌, ◌+◌, drop, length, None}
use Rattle.netlines.specs.Posted.{fragments_from}
use Rattle.netlines.specs.PostRefusal.{bad_cut_from, long_fragment_from}
use Rattle.netlines.proofs.messages.post_message.long_fragment.Given as goal

abbrev pub invariant-loop-cut : goal.invariant-loop-cut
invariant-loop-cut l = record {
  index : l.index ≡ l.cut-index;
  rest : length l.rest + l.start ≡ length l.message;
  good : bad_cut_from (length l.message) l.start l.index (drop l.cut-index l.cuts) ≡ None;
  so_far : long_fragment_from l.room l.index (fragments_from l.start (drop l.cut-index l.cuts) l.rest)
      ≡ long_fragment_from l.room 0 (fragments_from 0 l.cuts l.message);
}
