use Rattle.std.proofs.Common.{arith, ap, List, ◌∙◌}
use Rattle.std.proofs.lemmas.List.{take_all}
use Rattle.etherparse.specs.DeferredBytes.{Write, byte_after}
use Rattle.etherparse.proofs.LateWrites.{after_is, one_more_written}
use Rattle.etherparse.proofs.defrag.deferred_bytes.write_all.Goals as goal

pub loop-write-preserved : goal.loop-write-preserved
loop-write-preserved c =
    let i = c.loop-write.invariant in
    record {
      all = c.write_within.ensures.len ∙ i.all;
      so_far = λ p below.
          one_more_written c.args.writes.now c.loop-write.write-index c.write-item.result
          c.args.written.now.items c.loop-write.written.items c.write_within.new.written.items p
          (omega arith) c.write-item.is (i.so_far p below)
          (c.write_within.ensures.bytes p (omega (arith, below, i.all)));
      room = omega (arith, i.room, c.write_within.ensures.room);
    }

pub returns-clause-bytes : goal.returns-clause-bytes
returns-clause-bytes c =
    let i = c.loop-write.invariant in
    let all = take_all c.loop-write.write-index c.args.writes.now (omega arith) in
    after_is c.args.writes.now c.args.written.now.items c.loop-write.written.items c.args.len i.all
    (λ p below. i.so_far p below
    ∙ ap (λ (ws : List Write). byte_after ws c.args.written.now.items p) all)
