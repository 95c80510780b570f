-- Whether a line has started.
use Rattle.std.proofs.Common.{arith, ◌≡◌, sym, ap, refl, ℕ, ◌==◌, not, true, false, List, ◌∷◌, ◌++◌, [], length, Result}
use Rattle.std.proofs.Common.{Ok, Err, append-nil}
use Rattle.std.specs.Prelude.{OnOk}
use Rattle.std.proofs.Math.Dec.{eqb-suc-zero}
use Rattle.lines.specs.Lines.{last_line}

-- what holds in any case
pub on_ok : {T E P : Type 0} (r : Result T E) → P → OnOk r P
on_ok (Ok t) p = p
on_ok (Err x) p = tt

-- nothing is read of a line that hasn't started,
pub nothing_started : (prefix : List ℕ) → false ≡ not (length prefix == 0) → prefix ≡ []
nothing_started [] is = refl
nothing_started (b ∷ prefix) is = grind arith

-- and one that has is the last line
pub started_line : (prefix : List ℕ) → true ≡ not (length prefix == 0)
    → last_line prefix ≡ (prefix ++ []) ∷ []
started_line prefix is = grind (arith, append-nil)

-- it has started where bytes follow
pub begins_more : (prefix bytes : List ℕ) → (length bytes == 0) ≡ false
    → true ≡ not (length (prefix ++ bytes) == 0)
begins_more [] [] some = cc
begins_more [] (b ∷ bytes) some = sym (ap not (eqb-suc-zero (length bytes)))
begins_more (b ∷ prefix) bytes some = sym (ap not (eqb-suc-zero (length (prefix ++ bytes))))

pub no_bytes : (prefix bytes : List ℕ) → (length bytes == 0) ≡ true → prefix ++ bytes ≡ prefix
no_bytes prefix [] none = append-nil prefix
no_bytes prefix (b ∷ bytes) none = grind arith
