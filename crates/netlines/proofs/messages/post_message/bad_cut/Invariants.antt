use Rattle.std.proofs.Common.{◌≡◌, drop}
use Rattle.netlines.specs.PostRefusal.{bad_cut_from}
use Rattle.netlines.proofs.messages.post_message.bad_cut.Given as goal

abbrev pub invariant-loop-cut : goal.invariant-loop-cut
invariant-loop-cut l = record {
  index : l.index ≡ l.cut-index;
  so_far : bad_cut_from l.len l.before l.index (drop l.cut-index l.cuts)
      ≡ bad_cut_from l.len 0 0 l.cuts;
}
