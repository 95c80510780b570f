use Rattle.std.proofs.Common.{arith, ap, List, ℕ, ◌∙◌, length}
use Rattle.etherparse.specs.DeferredBytes.{Late, bytes_with, late_in}
use Rattle.etherparse.proofs.LateWrites.{in_room_now, late_ends, with_len, writes_late, writes_now}
use Rattle.etherparse.proofs.defrag.deferred_bytes.write_after_gap.Goals as goal

pub returns-then-push_late-clause-writes : goal.returns-then-push_late-clause-writes
returns-then-push_late-clause-writes c =
    let there = c.args.written.now.items in
    let late = late_in c.args.late.now there in
    let size = rw c.deref.ensures.value at c.len_with.ensures in
    let whole = rw c.deref-2.ensures.value at c.is_late-is_late.ensures.whole in
    rw (c.push_late.ensures.added c.if-push_late.true there)
    (writes_late late.writes record { start = c.args.start; bytes = c.args.bytes.now } there late.len
    c.max-len.result c.requires.sound.written (omega (arith, c.max-len.ensures, size))
    (late_ends late.writes late.len c.max-len.result late.cut c.requires.sound.within
    (omega (arith, c.max-len.ensures, size)) (whole (c.push_late.ensures.requested c.if-push_late.true))))

pub returns-clause-sound : goal.returns-clause-sound
returns-clause-sound c =
    let there = c.args.written.now.items in
    let was = (rw c.take.ensures.value at c.write_late.ensures.bytes)
    ∙ ap (λ (l : Late). bytes_with l there) (c.push_late.ensures.refused c.if-push_late.false there) in
    rw c.take.ensures.after (in_room_now c.write_over.new.buffer.items _
    (omega (arith, c.write_over.new.buffer.ok.0, c.write_over.new.buffer.ok.1))
    (omega (
      arith,
      c.write_over.ensures.writes.size,
      ap (λ (xs : List ℕ). length xs) was,
      with_len (late_in c.args.late.now there) there,
      c.requires.sound.short,
      c.requires.fits,
    )))

pub returns-clause-writes : goal.returns-clause-writes
returns-clause-writes c =
    let there = c.args.written.now.items in
    let was = (rw c.take.ensures.value at c.write_late.ensures.bytes)
    ∙ ap (λ (l : Late). bytes_with l there) (c.push_late.ensures.refused c.if-push_late.false there) in
    rw c.take.ensures.after (writes_now (bytes_with (late_in c.args.late.now there) there)
    c.write_late.new.written.items c.write_over.new.buffer.items c.args.bytes.now c.args.start was
    c.write_over.ensures.writes)
