use Rattle.std.proofs.Common.{arith, ap, length, List, ℕ, Ok, Err, Result}
use Rattle.std.specs.Prelude.{OnErr, OnOk}
use Rattle.etherparse.specs.DeferredBytes.{BytesInRoom, late_in}
use Rattle.etherparse.proofs.LateWrites.{as_long, with_len}
use Rattle.etherparse.proofs.defrag.deferred_bytes.DeferredBytesDatagramBytes.try_reserve.Goals as goal

on_ok : {X E P Q : Type 0} (r : Result X E) → (P → Q) → OnOk r P → OnOk r Q
on_ok (Ok x) then p = then p
on_ok (Err e) then p = tt

pub returns-clause-ok : goal.returns-clause-ok
returns-clause-ok c =
    let there = c.try_reserve.new.self.items in
    let size = rw c.deref.ensures.value at c.len_with.ensures in
    on_ok c.try_reserve.result
    (λ fits. omega (
      arith,
      fits,
      c.try_reserve.ensures.len,
      c.try_reserve.new.self.small,
      c.saturating_add.ensures,
      c.len.ensures,
      c.self.inside.written.ok.0,
      c.self.invariant.written,
      size,
      with_len (late_in c.self.inside.late there) there,
      as_long c.self.inside.late there c.self.inside.written.items
          (ap (λ (xs : List ℕ). length xs) c.try_reserve.ensures.items),
    ))
    c.try_reserve.ensures.ok

on_err : {X E P Q : Type 0} (r : Result X E) → (P → Q) → OnErr r P → OnErr r Q
on_err (Ok x) then p = tt
on_err (Err e) then p = then p

pub returns-clause-full : goal.returns-clause-full
returns-clause-full c =
    let there = c.self.inside.written.items in
    let long = with_len (late_in c.self.inside.late there) there in
    let size = rw c.deref.ensures.value at c.len_with.ensures in
    let same = ap (λ (b : BytesInRoom). length b.bytes) c.self.view_is in
    let room = ap (λ (b : BytesInRoom). b.capacity) c.self.view_is in
    on_err c.try_reserve.result
    (λ more. omega (
      arith,
      more,
      long,
      size,
      same,
      room,
      c.saturating_add.ensures,
      c.len.ensures,
      c.self.inside.written.ok.0,
      c.self.invariant.written,
    ))
    c.try_reserve.ensures.full
