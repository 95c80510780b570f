use Rattle.std.proofs.Common.{ℕ, ◌≡◌, ◌<◌, ◌≤◌, length, take, vec_capacity}
use Rattle.std.specs.Prelude.{slice_index}
use Rattle.etherparse.specs.DeferredBytes.{byte_after}
use Rattle.etherparse.proofs.defrag.deferred_bytes.write_all.Given as goal

abbrev pub invariant-loop-write : goal.invariant-loop-write
invariant-loop-write l = record {
  all : length l.written.items ≡ l.len;
  so_far : (p : ℕ) → p < l.len → slice_index l.written.items p
      ≡ byte_after (take l.write-index l.fn.writes) l.fn.written.items p;
  room : vec_capacity l.fn.written ≤ vec_capacity l.written;
}
