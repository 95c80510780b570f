use Rattle.std.proofs.Common.{◌≡◌, ◌+◌, min, take}
use Rattle.etherparse.specs.DeferredBytes.{late_len}
use Rattle.etherparse.proofs.defrag.deferred_bytes.late_len.Given as goal

abbrev pub invariant-loop-write : goal.invariant-loop-write
invariant-loop-write l = l.len
    ≡ min (l.fn.more + late_len (take l.write-index l.writes)) 18446744073709551615
