-- A sum over the blocks of a text, and then over what is left.
use Rattle.std.proofs.Common.{◌≡◌, ℕ, ◌+◌, ◌*◌, ◌/◌, ◌%◌, ◌<◌, ◌≤◌, List, ◌∷◌, length, take, [], ◌==◌, true, eqb-true}
use Rattle.std.proofs.Common.{drop, get_or, sym, ap, ◌∙◌, refl, arith}
use Rattle.std.specs.Simd.{first_chunks}
use Rattle.std.specs.List.{sum_by}
use Rattle.std.proofs.lemmas.List.Sums.{sum_by_more, sum_by-cons, sum_by-take-drop}
use Rattle.std.proofs.lemmas.List.{take_all}
use Rattle.ep_base.specs.Sum.{accumulator_sum, fold, total, total_low}
use Rattle.ep_base.proofs.Folds.{accumulator_sum-add, fold_add, fold_add_right, fold_plus_none}
use Rattle.ep_base.proofs.Totals.{accumulator_sum_total_low, total-first_chunks}

-- one block more
pub block_more : (start sum next : ℕ) (blocks : List (List ℕ)) (i : ℕ) → i < length blocks
    → sum ≡ fold (start + sum_by total (take i blocks))
    → next ≡ fold (sum + total (get_or blocks i []))
    → next ≡ fold (start + sum_by total (take (i + 1) blocks))
block_more start sum next blocks i h so step = grind (arith, sum_by_more, fold_add)

-- all blocks, and then what is left after them
pub blocks_before : (n start sum : ℕ) (xs : List ℕ) (blocks : List (List ℕ)) (rest : List ℕ)
    → 0 < n → n % 2 ≡ 0
    → blocks ≡ first_chunks n (length xs / n) xs
    → rest ≡ drop (length xs / n * n) xs
    → sum ≡ fold (start + sum_by total blocks)
    → fold (sum + total rest) ≡ fold (start + total xs)
blocks_before n start sum xs blocks rest pos even prefix back so =
    grind (arith, total-first_chunks, fold_add)

-- the same after a loop over them
pub blocks_all : (n start sum : ℕ) (xs : List ℕ) (blocks : List (List ℕ)) (rest : List ℕ) (i : ℕ)
    → 0 < n → n % 2 ≡ 0
    → blocks ≡ first_chunks n (length xs / n) xs
    → rest ≡ drop (length xs / n * n) xs → length blocks ≤ i
    → sum ≡ fold (start + sum_by total (take i blocks))
    → fold (sum + total rest) ≡ fold (start + total xs)
blocks_all n start sum xs blocks rest i pos even prefix back done so =
    blocks_before n start sum xs blocks rest pos even prefix back
    (so ∙ ap (λ all. fold (start + sum_by total all)) (take_all i blocks done))

-- ---- blocks whose words are added in lanes, low byte first

accumulator_sum_blocks : (blocks : List (List ℕ))
    → accumulator_sum (sum_by total_low blocks) ≡ fold (sum_by total blocks)
accumulator_sum_blocks [] = refl
accumulator_sum_blocks (block ∷ blocks) =
    grind (
      arith,
      accumulator_sum_blocks blocks,
      sum_by-cons,
      accumulator_sum-add,
      accumulator_sum_total_low,
      fold_add,
      fold_add_right,
    )

-- the first k blocks of those that are left are added at once
pub blocks_more : (goal sum part next : ℕ) (left more : List (List ℕ)) (k : ℕ)
    → fold (sum + sum_by total left) ≡ goal
    → part ≡ sum_by total_low (take k left) → more ≡ drop k left
    → next ≡ fold (sum + accumulator_sum part) → fold (next + sum_by total more) ≡ goal
blocks_more goal sum part next left more k so is rest step =
    grind (arith, sum_by-take-drop, accumulator_sum_blocks, fold_add_right, fold_add)

-- no block is left
pub none_left : (goal sum : ℕ) (left : List (List ℕ)) → (length left == 0) ≡ true
    → fold (accumulator_sum sum + sum_by total left) ≡ goal → accumulator_sum sum ≡ goal
none_left goal sum [] none so = sym (fold_plus_none (256 * sum) 0 refl) ∙ so
none_left goal sum (block ∷ left) none so = absurd (omega (arith, eqb-true _ _ none))

-- ---- what is left after blocks of two bytes

pub total_one : (t : List ℕ) → length t ≡ 1 → total (get_or t 0 0 ∷ 0 ∷ []) ≡ total t
unfolding total
total_one t e = grind arith

pub total_none : (t : List ℕ) → length t ≡ 0 → total t ≡ 0
unfolding total
total_none t e = grind arith
