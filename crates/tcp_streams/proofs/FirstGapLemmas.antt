-- Gaps of which the first one may stand beside the others.
use Rattle.std.proofs.Common.{◌≡◌, ℕ, ◌<◌, ◌≤◌, false, List, ◌∷◌, Option, Some, None, arith, sym}
use Rattle.std.proofs.lemmas.Bool.Decides.{nat_tests}
use Rattle.tcp_streams.specs.declared.gaps.Gap.{Gap}
use Rattle.tcp_streams.specs.Gaps.{AreRunsIn, crosses_one, split_at, with_first, without}
use Rattle.tcp_streams.proofs.RunLemmas.{runs_weaker, split_later, without_later}

pub rest_runs : (to : ℕ) (first : Option Gap) (gs : List Gap) → AreRunsIn 0 to (with_first first gs) → AreRunsIn 0 to gs
rest_runs to None gs h = h
rest_runs to (Some g) gs h = runs_weaker g.end 0 to to gs (omega arith) (omega arith) h.2

-- ---- a gap as two

pub split_before : (from to p : ℕ) (g : Gap) (gs : List Gap) → AreRunsIn from to (g ∷ gs) → p ≤ g.start
    → g ∷ gs ≡ split_at p (g ∷ gs)
split_before from to p g gs h before = sym (split_later g.start to p (g ∷ gs) (omega arith, h.1, h.2) before)

pub split_here : (from to p : ℕ) (g : Gap) (gs : List Gap) → AreRunsIn from to (g ∷ gs) → g.start < p → p < g.end
    → record { start = g.start; end = p } ∷ record { start = p; end = g.end } ∷ gs ≡ split_at p (g ∷ gs)
split_here from to p g gs h low high = grind (arith, nat_tests, split_later g.end to p gs h.2)

-- ---- gaps without some positions

pub without_before : (from to s e : ℕ) (g : Gap) (gs : List Gap) → s < e → AreRunsIn from to (g ∷ gs) → e ≤ g.start
    → g ∷ gs ≡ without s e (g ∷ gs)
without_before from to s e g gs some h before =
    sym (without_later g.start to s e (g ∷ gs) some (omega arith, h.1, h.2) before)

whole_start : (s : ℕ) (g : Gap) (gs : List Gap) → crosses_one s (g ∷ gs) ≡ false → s < g.end → s ≤ g.start
whole_start s g gs whole here = grind (arith, nat_tests)

pub without_part : (from to s e : ℕ) (g : Gap) (gs : List Gap) → s < e → AreRunsIn from to (g ∷ gs)
    → crosses_one s (g ∷ gs) ≡ false → s < g.end → g.start < e → e < g.end
    → record { start = e; end = g.end } ∷ gs ≡ without s e (g ∷ gs)
without_part from to s e g gs some h whole here low high =
    grind (arith, nat_tests, whole_start s g gs whole here, without_later g.end to s e gs some h.2)
