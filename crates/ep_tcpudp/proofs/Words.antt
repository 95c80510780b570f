-- Numbers as their bytes, high byte first, and back.
use Rattle.std.proofs.Common.{◌≡◌, ℕ, ◌+◌, ◌^◌, ◌<◌, ◌≤◌, List, ◌++◌, length, drop, arith, ap, sym, ◌∙◌}
use Rattle.std.proofs.lemmas.List.{get_or-drop}
use Rattle.std.specs.Int.{w16, w32, to_be_bytes}
use Rattle.ep_base.specs.Bytes.{IsBytes, num}
use Rattle.ep_base.proofs.Cells.{cells, drop-cells}

-- the bytes of a number of two bytes in a list, and of one of four
pub half_cells : (p : ℕ) (xs : List ℕ) → IsBytes xs → to_be_bytes w16 (num xs p 2) ≡ cells 2 p xs
half_cells p xs fits = grind arith

pub word_cells : (p : ℕ) (xs : List ℕ) → IsBytes xs → to_be_bytes w32 (num xs p 4) ≡ cells 4 p xs
word_cells p xs fits = grind arith

pub word_prefix : (p q : ℕ) (xs : List ℕ) → p + 4 ≤ length xs → p + 4 ≡ q → IsBytes xs
    → drop p xs ≡ to_be_bytes w32 (num xs p 4) ++ drop q xs
word_prefix p q xs h e fits =
    drop-cells 4 p xs h ∙ ap (λ (ys : List ℕ). ys ++ drop (p + 4) xs) (sym (word_cells p xs fits))
    ∙ ap (λ n. to_be_bytes w32 (num xs p 4) ++ drop n xs) e

pub word_small : (p : ℕ) (xs : List ℕ) → IsBytes xs → num xs p 4 < 2 ^ 32
word_small p xs fits = omega (arith, fits p, fits (p + 1), fits (p + 2), fits (p + 3))

-- and the bytes from some index on stay below 256
pub drop_fits : (n : ℕ) (xs : List ℕ) → IsBytes xs → IsBytes (drop n xs)
drop_fits n xs fits i = omega (arith, get_or-drop n xs i 0, fits (n + i))
