use Rattle.std.proofs.Common.{arith, ap, ◌≡◌, length, drop, min, max, ◌-◌, ◌+◌}
use Rattle.std.proofs.lemmas.List.{length-drop, take_all}
use Rattle.etherparse.specs.DeferredBytes.{Write}
use Rattle.etherparse.proofs.LateWrites.{after_of, all_after, before_of, inside_of, just_so, not_so}
use Rattle.etherparse.proofs.defrag.deferred_bytes.+has_bytes_after.Goals as goal

pub returns-then-not-write_has_bytes : goal.returns-then-not-write_has_bytes
returns-then-not-write_has_bytes t c =
    let start = ap (λ (w : Write). w.start) c.write.view_is in
    let long = ap (λ (w : Write). length w.bytes) c.write.view_is in
    rw c.in-Some.ensures.cases.0 (not_so c.write_has_bytes.result c.if-not-write_has_bytes.true c.write_has_bytes.ensures
    (inside_of c.in-Some.earlier.now c.in-Some.write.now c.args.there.now c.args.bytes.now c.args.start
    c.min-first.result c.saturating_add-end.result c.max-last.result
    (omega (arith, c.min-first.ensures, c.saturating_sub.ensures, start))
    (omega (arith, c.saturating_add-end.ensures, c.len.ensures, c.write.inside.bytes.ok.0, start, long))
    (omega (arith, c.max-last.ensures, c.min.ensures, c.saturating_sub-2.ensures)) c.requires))

pub returns-then-not-has_bytes_after : goal.returns-then-not-has_bytes_after
returns-then-not-has_bytes_after t c =
    let start = ap (λ (w : Write). w.start) c.write.view_is in
    let long = ap (λ (w : Write). length w.bytes) c.write.view_is in
    rw c.in-Some.ensures.cases.0 (not_so c.has_bytes_after.result c.if-not-has_bytes_after.true c.has_bytes_after.ensures
    (before_of c.in-Some.earlier.now c.in-Some.write.now c.args.there.now c.args.bytes.now c.args.start
    c.min-first.result c.saturating_add-end.result c.max-last.result
    (omega (arith, c.min-first.ensures, c.saturating_sub.ensures, start))
    (omega (arith, c.saturating_add-end.ensures, c.len.ensures, c.write.inside.bytes.ok.0, start, long))
    (omega (arith, c.max-last.ensures, c.min.ensures, c.saturating_sub-2.ensures)) c.requires))

pub returns : goal.returns
returns t c =
    let start = ap (λ (w : Write). w.start) c.write.view_is in
    let long = ap (λ (w : Write). length w.bytes) c.write.view_is in
    let first_is : c.min-first.result ≡ min (c.in-Some.write.now.start - c.args.start) (length c.args.bytes.now) =
    omega (arith, c.min-first.ensures, c.saturating_sub.ensures, start) in
    let end_is : c.saturating_add-end.result ≡ min (c.in-Some.write.now.start + length c.in-Some.write.now.bytes) 18446744073709551615 =
    omega (arith, c.saturating_add-end.ensures, c.len.ensures, c.write.inside.bytes.ok.0, start, long) in
    let last_is : c.max-last.result ≡ max (min (c.saturating_add-end.result - c.args.start) (length c.args.bytes.now)) c.min-first.result =
    omega (arith, c.max-last.ensures, c.min.ensures, c.saturating_sub-2.ensures) in
    let rest_is = take_all (length c.args.bytes.now - c.max-last.result) (drop c.max-last.result c.args.bytes.now)
    (omega (arith, length-drop c.max-last.result c.args.bytes.now)) in
    rw c.in-Some.ensures.cases.0 (just_so c.has_bytes_after-2.result (rw rest_is at c.has_bytes_after-2.ensures)
    (all_after c.in-Some.earlier.now c.in-Some.write.now c.args.there.now c.args.bytes.now c.args.start
    c.min-first.result c.saturating_add-end.result c.max-last.result first_is end_is last_is c.requires
    (c.write_has_bytes.ensures.0 c.if-not-write_has_bytes.false)
    (c.has_bytes_after.ensures.0 c.if-not-has_bytes_after.false))
    (after_of c.in-Some.earlier.now c.in-Some.write.now c.args.there.now c.args.bytes.now c.args.start
    c.min-first.result c.saturating_add-end.result c.max-last.result first_is end_is last_is c.requires))
