-- How a split goes on.
use Rattle.std.proofs.Common.{◌≡◌, sym, ap, refl, ℕ, Bool, true, false, ◌==◌, List, ◌∷◌, ◌++◌, ◌≤◌, length, arith, []}
use Rattle.lines.specs.Lines.{Split, split, with_byte, HasNoNewline}

abbrev pub split_of : List (List ℕ) → List ℕ → Split
split_of lines rest = record { ended = lines; rest = rest }

-- the split of bytes by whether its first byte ends a line
pub split-end : (b : ℕ) (bytes : List ℕ) → (b == 10) ≡ true
    → split (b ∷ bytes) ≡ split_of ([] ∷ (split bytes).ended) (split bytes).rest
unfolding split
split-end b bytes e = rw e refl

pub split-other : (b : ℕ) (bytes : List ℕ) → (b == 10) ≡ false
    → split (b ∷ bytes) ≡ with_byte b (split bytes).ended (split bytes).rest
unfolding split
split-other b bytes e = rw e refl

pub split-nil : split [] ≡ split_of [] []
unfolding split
split-nil = refl

with_byte-count : (b : ℕ) (lines : List (List ℕ)) (rest : List ℕ)
    → length (with_byte b lines rest).ended ≡ length lines
with_byte-count b lines rest = grind arith

-- a line that 0a ends has a byte at least
pub ended_count : (bytes : List ℕ) → length (split bytes).ended ≤ length bytes
ended_count [] = let none = ap (λ (c : Split). length c.ended) split-nil in omega arith
ended_count (b ∷ bytes) = grind (arith, ended_count bytes, split-end, split-other, with_byte-count)

pub HasNoNewline-append : (a b : List ℕ) → HasNoNewline a → HasNoNewline b → HasNoNewline (a ++ b)
HasNoNewline-append [] b p q = q
HasNoNewline-append (x ∷ a) b p q = (p.0, HasNoNewline-append a b p.1 q)

pub split-HasNoNewline : (a : List ℕ) → HasNoNewline a → split a ≡ split_of [] a
split-HasNoNewline [] p = split-nil
split-HasNoNewline (x ∷ a) p = grind (arith, split-HasNoNewline a p.1, split-other)

-- a line and its 0a
pub split-line : (a b : List ℕ) → HasNoNewline a
    → split (a ++ 10 ∷ b) ≡ split_of (a ∷ (split b).ended) (split b).rest
split-line [] b p = split-end 10 b refl
split-line (x ∷ a) b p = grind (arith, split-line a b p.1, split-other)

with_byte-HasNoNewline : (x : ℕ) (lines : List (List ℕ)) (rest : List ℕ) → (x == 10) ≡ false
    → HasNoNewline rest → HasNoNewline (with_byte x lines rest).rest
with_byte-HasNoNewline x lines rest e p = grind arith

HasNoNewline-cases : (t : Bool) (x : ℕ) (a : List ℕ) → (x == 10) ≡ t → HasNoNewline (split a).rest
    → HasNoNewline (split (x ∷ a)).rest
HasNoNewline-cases t x a e p = grind (arith, split-end, split-other, with_byte-HasNoNewline)

-- what comes after the last 0a has none
pub HasNoNewline-rest : (a : List ℕ) → HasNoNewline (split a).rest
HasNoNewline-rest [] = rw split-nil tt
HasNoNewline-rest (x ∷ a) = HasNoNewline-cases (x == 10) x a refl (HasNoNewline-rest a)

-- the split of what goes on after lines and a rest
abbrev pub split_on : List (List ℕ) → List ℕ → List ℕ → Split
split_on lines rest b = split_of (lines ++ (split (rest ++ b)).ended) (split (rest ++ b)).rest

with_byte-split_on : (x : ℕ) (lines : List (List ℕ)) (rest b : List ℕ) → (x == 10) ≡ false
    → with_byte x (split_on lines rest b).ended (split_on lines rest b).rest
    ≡ split_on (with_byte x lines rest).ended (with_byte x lines rest).rest b
with_byte-split_on x lines rest b e = grind (arith, split-other)

split-append-cases : (t : Bool) (x : ℕ) (a b : List ℕ) → (x == 10) ≡ t
    → split (a ++ b) ≡ split_on (split a).ended (split a).rest b
    → split (x ∷ (a ++ b)) ≡ split_on (split (x ∷ a)).ended (split (x ∷ a)).rest b
split-append-cases t x a b e ih = grind (arith, split-end, split-other, with_byte-split_on)

-- a split goes on from what comes after the last 0a
pub split-append : (a b : List ℕ) → split (a ++ b) ≡ split_on (split a).ended (split a).rest b
split-append [] b = ap (λ c. split_on c.ended c.rest b) (sym split-nil)
split-append (x ∷ a) b = split-append-cases (x == 10) x a b refl (split-append a b)
