-- The parts between the 0a bytes, joined by 0a, are the text.
use Rattle.std.proofs.Common.{arith, ◌≡◌, refl, ℕ, Bool, false, ◌==◌, List, ◌∷◌, ◌++◌, []}
use Rattle.std.proofs.lemmas.Bool.{eqb-true}
use Rattle.std.specs.List.{AllByRecursion, join_with_byte}
use Rattle.lines.specs.Lines.{with_byte, HasNoNewline, separated_parts, PartsAreTheText}
use Rattle.lines.proofs.SplitLemmas.{split-end, split-other, split-nil}

-- one line before others
join-cons : (line : List ℕ) (lines : List (List ℕ)) (rest : List ℕ)
    → join_with_byte 10 (line ∷ (lines ++ rest ∷ [])) ≡ line ++ 10 ∷
    join_with_byte 10 (lines ++ rest ∷ [])
join-cons line [] rest = refl
join-cons line (next ∷ lines) rest = refl

joined_byte : (b : ℕ) (lines : List (List ℕ)) (rest bytes : List ℕ)
    → join_with_byte 10 (lines ++ rest ∷ []) ≡ bytes
    → join_with_byte 10 ((with_byte b lines rest).ended ++ (with_byte b lines rest).rest ∷ [])
    ≡ b ∷ bytes
joined_byte b lines rest bytes is = grind arith

without_byte : (b : ℕ) (lines : List (List ℕ)) (rest : List ℕ) → (b == 10) ≡ false
    → AllByRecursion HasNoNewline (lines ++ rest ∷ [])
    → AllByRecursion HasNoNewline ((with_byte b lines rest).ended
    ++ (with_byte b lines rest).rest ∷ [])
without_byte b lines rest e each = grind arith

joined_cases : (t : Bool) (b : ℕ) (bytes : List ℕ) → (b == 10) ≡ t
    → join_with_byte 10 (separated_parts bytes) ≡ bytes
    → join_with_byte 10 (separated_parts (b ∷ bytes)) ≡ b ∷ bytes
joined_cases t b bytes e is =
    grind (arith, eqb-true, split-end, join-cons, split-other, joined_byte)

none_cases : (t : Bool) (b : ℕ) (bytes : List ℕ) → (b == 10) ≡ t
    → AllByRecursion HasNoNewline (separated_parts bytes)
    → AllByRecursion HasNoNewline (separated_parts (b ∷ bytes))
none_cases t b bytes e each = grind (arith, split-end, split-other, without_byte)

pub parts_are_the_text : PartsAreTheText
parts_are_the_text [] = rw split-nil (refl, (tt, tt))
parts_are_the_text (b ∷ bytes) =
    let later = parts_are_the_text bytes in
    (joined_cases (b == 10) b bytes refl later.0, none_cases (b == 10) b bytes refl later.1)
