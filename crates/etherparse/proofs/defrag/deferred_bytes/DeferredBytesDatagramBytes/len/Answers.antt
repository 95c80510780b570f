use Rattle.std.proofs.Common.{arith, ap, sym, ◌∙◌, length}
use Rattle.etherparse.specs.DeferredBytes.{BytesInRoom, late_in}
use Rattle.etherparse.proofs.LateWrites.{with_len}
use Rattle.etherparse.proofs.defrag.deferred_bytes.DeferredBytesDatagramBytes.len.Goals as goal

pub returns-clause-len : goal.returns-clause-len
returns-clause-len c =
    let there = c.self.inside.written.items in
    (rw c.deref.ensures.value at c.len_with.ensures) ∙ sym (with_len (late_in c.self.inside.late there) there)
    ∙ ap (λ (b : BytesInRoom). length b.bytes) c.self.view_is

pub returns-clause-room : goal.returns-clause-room
returns-clause-room c =
    omega (
      arith,
      rw c.deref.ensures.value at c.len_with.ensures,
      c.self.invariant.fits,
      ap (λ (b : BytesInRoom). b.capacity) c.self.view_is,
    )
