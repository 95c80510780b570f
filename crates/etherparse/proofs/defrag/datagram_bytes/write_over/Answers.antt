use Rattle.std.proofs.Common.{arith, ◌∙◌, ◌≡◌, length}
use Rattle.etherparse.proofs.Written.{written}
use Rattle.etherparse.proofs.defrag.datagram_bytes.write_over.Goals as goal

pub returns-clause-writes : goal.returns-clause-writes
returns-clause-writes c =
    let len = rw c.unwrap.ensures at c.resize.ensures.len in
    let had : c.args.buffer.now.len ≡ length c.args.buffer.now.items =
    omega (arith, c.args.buffer.now.ok.0) in
    let items = rw had at rw c.unwrap.ensures at c.resize.ensures.items in
    rw c.copy_from_slice.ensures.after
    (written c.args.buffer.now.items c.deref_mut.result.now c.args.bytes.now c.resize.new.self.items
    c.resize.new.self.len c.args.start _ (len ∙ c.max.ensures ∙ omega arith)
    (rw len items) c.deref_mut.ensures.value (omega arith))
