-- Offsets that a range shares with sections in order.
use Rattle.std.proofs.Common.{◌≡◌, ℕ, zero, suc, ◌+◌, ◌-◌, ◌<◌, ◌≤◌, List, [], ◌∷◌, length, take, get_or, max, min, inl}
use Rattle.std.proofs.Common.{inr, arith, ap, sym, subst}
use Rattle.std.proofs.lemmas.Bool.{cases_lt}
use Rattle.std.proofs.lemmas.List.{get_or_default}
use Rattle.std.specs.List.{AllByRecursion, AllWithin}
use Rattle.etherparse.specs.declared.defrag.ip_frag_range.IpFragRange.{IpFragRange}
use Rattle.etherparse.specs.IpFragRange.{AreOrdered, HasOffset, SharesWith}
use Rattle.etherparse.proofs.Ordered.{ends_rise, starts_rise}

-- no offset is in both
abbrev pub NoneShared : IpFragRange → IpFragRange → Type 0
NoneShared r s = (p : ℕ) → HasOffset s p → HasOffset r p → ⊥

pub none_before : (rs : List IpFragRange) (r : IpFragRange) (count : ℕ) → count ≤ length rs
    → AllByRecursion (λ s. s.end < r.start) (take count rs) → AllWithin (NoneShared r) rs 0 count
none_before rs r zero within h k d low high = absurd (omega arith)
none_before [] r (suc count) within h k d low high = absurd (omega arith)
none_before (s ∷ rs) r (suc count) within h zero d low high = grind arith
none_before (s ∷ rs) r (suc count) within h (suc k) d low high =
    none_before rs r count (omega arith) h.1 k d (omega arith) (omega arith)

-- one more section that shares none
pub none_more : (rs : List IpFragRange) (r : IpFragRange) (at : ℕ) (d : IpFragRange)
    (from to : ℕ) → at < length rs → from ≡ max (get_or rs at d).start r.start
    → to ≡ min (get_or rs at d).end r.end → to ≤ from
    → AllWithin (NoneShared r) rs 0 at → AllWithin (NoneShared r) rs 0 (at + 1)
none_more rs r at d from to within from_is to_is none before k e low high p here own =
    elim (cases_lt k at) [
      | inl b ↦ before k e low b p here own
      | inr b ↦
          grind (arith, get_or_default)
    ]

pub shared_at : (rs : List IpFragRange) (r : IpFragRange) (at : ℕ) (d : IpFragRange)
    (from to : ℕ) → at < length rs → from ≡ max (get_or rs at d).start r.start
    → to ≡ min (get_or rs at d).end r.end → from < to → SharesWith rs r
shared_at rs r at d from to within from_is to_is some = (
  from,
  (omega (arith, from_is), omega (arith, to_is, some)),
  (
    at,
    get_or rs at d,
    within,
    get_or_default rs at (get_or rs at d) d within,
    (omega (arith, from_is), omega (arith, to_is, some)),
  ),
)

pub none_at_all : (rs : List IpFragRange) (r : IpFragRange) (at : ℕ) → length rs ≤ at
    → AllWithin (NoneShared r) rs 0 at → SharesWith rs r → ⊥
none_at_all rs r at long before shared =
    let s = shared.2 in
    before s.0 s.1 (omega arith) (omega (arith, s.2)) shared.0
    (subst (λ t. HasOffset t shared.0) (sym s.3) s.4) shared.1

-- those after one that starts at the range's end or after it share none
pub none_after : (rs : List IpFragRange) (r : IpFragRange) (at : ℕ) (d : IpFragRange)
    → AreOrdered rs → at < length rs → r.end ≤ (get_or rs at d).start
    → AllWithin (NoneShared r) rs 0 at → SharesWith rs r → ⊥
none_after rs r at d ordered within following before shared =
    let t = shared.2 in
    elim (cases_lt t.0 at) [
      | inl b ↦ before t.0 t.1 (omega arith) b shared.0
          (subst (λ u. HasOffset u shared.0) (sym t.3) t.4) shared.1
      | inr b ↦
          let rise = starts_rise rs ordered at t.0 d b t.2 in
          let there = ap (λ (u : IpFragRange). u.start) (get_or_default rs t.0 d t.1 t.2) in
          let own = ap (λ (u : IpFragRange). u.start) t.3 in
          omega (arith, rise, there, own, following, t.4.0, shared.1.1)
    ]

-- one that starts where the last of them ends, or after it, shares none
pub none_past : (rs : List IpFragRange) (r d : IpFragRange) → AreOrdered rs → 0 < length rs
    → (get_or rs (length rs - 1) d).end ≤ r.start → SharesWith rs r → ⊥
none_past rs r d ordered some past shared =
    let t = shared.2 in
    let rise = ends_rise rs ordered t.0 (length rs - 1) d (omega (arith, t.2)) (omega arith) in
    let there = ap (λ (u : IpFragRange). u.end) (get_or_default rs t.0 d t.1 t.2) in
    let own = ap (λ (u : IpFragRange). u.end) t.3 in
    omega (arith, rise, there, own, past, t.4.1, shared.1.0)
