-- Tests that passed, and answers that are `Ok`.
use Rattle.std.proofs.Common.{arith, ◌≡◌, ℕ, ◌==◌, Bool, true, false, not, IsTrue, ◌&&◌, ◌||◌, Result, Ok, Err, IsOk}
use Rattle.std.proofs.Common.{IfOk, IsOkAnd}

pub either : (a : Bool) → (a || false) ≡ true → a ≡ true
either a e = grind arith

pub not_true : (b : Bool) → IsTrue (not b) → b ≡ false
not_true b e = grind arith

pub neither : (a b : Bool) → (a || b) ≡ false → (a ≡ false) × (b ≡ false)
neither a b e = grind arith

pub ok_and : {A E : Type 0} (r : Result A E) (P Q : A → Type 0) → IsOk r → IfOk r Q
    → ((a : A) → Q a → P a) → IsOkAnd r P
ok_and (Ok a) P Q ok found step = step a found
ok_and (Err e) P Q ok found step = cc

-- a test of both that passes
pub numbers_are : (a b t c : ℕ) → (a == t && (b == c)) ≡ true → (t ≡ a) × (c ≡ b)
numbers_are a b t c e = grind arith
