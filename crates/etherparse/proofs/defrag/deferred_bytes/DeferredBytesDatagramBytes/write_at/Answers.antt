use Rattle.std.proofs.Common.{ap, ◌∙◌}
use Rattle.etherparse.specs.DeferredBytes.{BytesInRoom}
use Rattle.etherparse.proofs.LateWrites.{is_none_by, with_none, writes_now}
use Rattle.etherparse.proofs.defrag.deferred_bytes.DeferredBytesDatagramBytes.write_at.Goals as goal

pub returns-then-start-len-clause-writes : goal.returns-then-start-len-clause-writes
returns-then-start-len-clause-writes c =
    let none = is_none_by c.self.inside.late c.is_none.result c.is_none.ensures c.if-is_none.true in
    rw none (writes_now c.args.self.now.bytes c.self.inside.written.items c.write_at.new.buffer.items
    c.args.bytes.now c.args.start
    (with_none c.self.inside.late c.self.inside.written.items none ∙ ap (λ (b : BytesInRoom). b.bytes) c.self.view_is)
    c.write_at.ensures.writes)
