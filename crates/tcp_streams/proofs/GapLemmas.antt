-- Gaps without some positions.
use Rattle.std.proofs.Common.{◌≡◌, ℕ, ◌+◌, ◌-◌, ◌*◌, ◌<◌, ◌≤◌, List, [], ◌∷◌}
use Rattle.std.proofs.Common.{◌++◌, length}
use Rattle.std.proofs.Common.{ltb, leb, not, ◌&&◌, ◌||◌, inl, inr, arith, refl}
use Rattle.std.proofs.lemmas.Bool.{cases_lt}
use Rattle.std.proofs.lemmas.Bool.Decides.{nat_tests}
use Rattle.tcp_streams.specs.declared.gaps.Gap.{Gap}
use Rattle.tcp_streams.specs.Gaps.{is_in, is_missing, AreGapsIn, part_before, part_from, without}

-- ---- which positions are missing

pub is_missing-append : (gs hs : List Gap) (p : ℕ) → is_missing (gs ++ hs) p ≡ (is_missing gs p || is_missing hs p)
is_missing-append [] hs p = refl
is_missing-append (g ∷ gs) hs p = grind (arith, is_missing-append gs hs p)

-- of one gap
part_missing : (s e : ℕ) (g : Gap) (p : ℕ) → s ≤ e
    → (is_missing (part_before s g) p || is_missing (part_from e g) p)
    ≡ (is_in g p && not (leb s p && ltb p e))
part_missing s e g p h = grind (arith, nat_tests)

pub is_missing-without : (s e : ℕ) (gs : List Gap) (p : ℕ) → s ≤ e
    → is_missing (without s e gs) p ≡ (is_missing gs p && not (leb s p && ltb p e))
is_missing-without s e [] p h = refl
is_missing-without s e (g ∷ gs) p h =
    grind (arith, is_missing-append, part_missing, is_missing-without s e gs p h)

-- ---- parts of one gap

no_part_from : (e : ℕ) (g : Gap) → g.end ≤ e → part_from e g ≡ []
no_part_from e g h = grind (arith, nat_tests)

-- ---- order

pub gaps_weaker : (from from' to to' : ℕ) (gs : List Gap) → from' ≤ from → to ≤ to'
    → AreGapsIn from to gs → AreGapsIn from' to' gs
gaps_weaker from from' to to' [] f t h = omega arith
gaps_weaker from from' to to' (g ∷ gs) f t h =
    (omega arith, h.1, gaps_weaker (g.end + 1) (g.end + 1) to to' gs (omega arith) t h.2)

pub gaps_end : (from to : ℕ) (gs : List Gap) → AreGapsIn from to gs → from ≤ to
gaps_end from to [] h = h
gaps_end from to (g ∷ gs) h = omega (arith, gaps_end (g.end + 1) to gs h.2)

parts_ordered : (from to s e : ℕ) (g : Gap) (gs : List Gap) → s < e → from ≤ g.start → g.start < g.end
    → AreGapsIn (g.end + 1) to gs → AreGapsIn from to (part_before s g ++ (part_from e g ++ gs))
parts_ordered from to s e g gs some low own h =
    grind (arith, nat_tests, gaps_weaker)

pub without_ordered : (from to s e : ℕ) (gs : List Gap) → s < e → AreGapsIn from to gs
    → AreGapsIn from to (without s e gs)
without_ordered from to s e [] some h = h
without_ordered from to s e (g ∷ gs) some h =
    parts_ordered from to s e g (without s e gs) some h.0 h.1 (without_ordered (g.end + 1) to s e gs some h.2)

last_without : (from s e : ℕ) (g : Gap) (gs : List Gap) → s < e → from ≤ e → AreGapsIn from (e + 1) (g ∷ gs)
    → e ≤ g.end → AreGapsIn from e (without s e (g ∷ gs))
last_without from s e g [] some low h above =
    rw (no_part_from e g (omega (arith, h.2))) (grind (arith, nat_tests))
last_without from s e g (k ∷ gs) some low h above =
    absurd (omega (arith, h.2.0, h.2.1, gaps_end (k.end + 1) (e + 1) gs h.2.2))

-- the same where the last gap may reach up to `e`
pub without_end : (from s e : ℕ) (gs : List Gap) → s < e → from ≤ e → AreGapsIn from (e + 1) gs
    → AreGapsIn from e (without s e gs)
without_end from s e [] some low h = low
without_end from s e (g ∷ gs) some low h = elim (cases_lt g.end e) [
  | inl below ↦ parts_ordered from e s e g (without s e gs) some h.0 h.1
      (without_end (g.end + 1) s e gs some (omega arith) h.2)
  | inr above ↦ last_without from s e g gs some low h above
]

pub gaps_push : (from to e : ℕ) (gs : List Gap) → AreGapsIn from to gs → to < e
    → AreGapsIn from (e + 1) (gs ++ record { start = to; end = e } ∷ [])
gaps_push from to e [] o h = (o, h, omega arith)
gaps_push from to e (g ∷ gs) o h = (o.0, o.1, gaps_push (g.end + 1) to e gs o.2 h)

-- how many there are
pub gap_count : (from to : ℕ) (gs : List Gap) → AreGapsIn from to gs → from + 2 * length gs ≤ to
gap_count from to [] o = omega arith
gap_count from to (g ∷ gs) o = omega (arith, o.0, o.1, gap_count (g.end + 1) to gs o.2)
