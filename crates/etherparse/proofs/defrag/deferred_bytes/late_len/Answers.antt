use Rattle.std.proofs.Common.{arith, ap, length}
use Rattle.etherparse.specs.DeferredBytes.{Write}
use Rattle.etherparse.proofs.LateWrites.{late_len-more}
use Rattle.etherparse.proofs.defrag.deferred_bytes.late_len.Goals as goal

pub loop-write-preserved : goal.loop-write-preserved
loop-write-preserved c =
    omega (
      arith,
      c.loop-write.invariant,
      c.saturating_add-len.ensures,
      c.len.ensures,
      c.write.inside.bytes.ok.0,
      ap (λ (w : Write). length w.bytes) c.write.view_is,
      late_len-more c.args.writes.now c.loop-write.write-index c.write-item.result (omega arith) c.write-item.is,
    )
