use Rattle.std.proofs.Common.{◌∙◌, ap, List, ℕ, length}
use Rattle.tcp_streams.specs.declared.conflicts.Conflicts.{Conflicts}
use Rattle.etherparse_structs.specs.StreamAdded.{conflicts_struct}
use Rattle.etherparse_structs.proofs.StreamLemmas.{reports}
use Rattle.etherparse_structs.proofs.stream_progress.EpStreamProgress.of.Goals as goal

pub returns : goal.returns
returns c s h = reports _ s _ h (record {
  available = ap (λ (xs : List ℕ). length xs) (c.available.ensures.text s.segments h.shows);
  consumed = c.consumed.ensures;
  gap = c.gap.result;
  gap_numbers = c.gap_struct.ensures;
  is_first = c.gap.ensures.gap s.segments h.shows;
  no_gap = c.gap.ensures.none s.segments h.shows;
  conflicts = c.of.ensures ∙ ap (λ (k : Conflicts). conflicts_struct k) (c.conflicts.ensures s.segments h.shows);
  is_finished = c.is_finished.ensures s.segments h.shows;
  is_reset = c.is_reset.ensures s.segments h.shows;
  joined_late = c.joined_late.ensures;
})
