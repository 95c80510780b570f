use Rattle.std.proofs.Common.{ℕ, ◌≡◌, ◌+◌, ◌<◌}
use Rattle.std.specs.Prelude.{slice_index}
use Rattle.etherparse.proofs.defrag.deferred_bytes.has_bytes_or_zeros.Given as goal

abbrev pub invariant-loop-index : goal.invariant-loop-index
invariant-loop-index l = (k : ℕ) → k < l.index
    → slice_index l.there (l.start + k) ≡ slice_index l.bytes k
