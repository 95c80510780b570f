-- Sums of words in lanes.
use Rattle.std.proofs.Common.{◌≡◌, ℕ, zero, suc, ◌+◌, ◌*◌, ◌%◌, ◌^◌, ◌<◌, ◌≤◌, List, ◌∷◌, [], length, take, get_or}
use Rattle.std.proofs.Common.{refl, arith, Fits, w8, w32}
use Rattle.std.proofs.lemmas.Simd.{length-zip2, sum-zip2, Each1-from_get_or, sum_bound}
use Rattle.std.specs.List.{sum_by}
use Rattle.std.proofs.lemmas.List.{take_all}
use Rattle.std.proofs.lemmas.List.Sums.{sum_by_more}
use Rattle.std.specs.Simd.Lanes.{sum_l, Each1, Each2, zip2}
use lib.Lanes.{number_l, digits_l}
use Rattle.ep_base.specs.Sum.{total_low}

-- the first word of a number that bytes encode, low byte first, and the number after it
low_word : (a b n : ℕ) → a < 256 → b < 256 → (a + 256 * (b + 256 * n)) % 65536 ≡ a + 256 * b
low_word a b n p q = omega arith

-- the words of the number that a block's bytes encode add up to the block's sum
sum_l-words : (k : ℕ) (block : List ℕ) → length block ≡ 2 * k → Each1 (λ b. b < 256) block
    → sum_l (digits_l 65536 k (number_l 256 block)) ≡ total_low block
unfolding total_low
sum_l-words zero [] e h = refl
sum_l-words zero (a ∷ block) e h = absurd (omega arith)
sum_l-words (suc k) [] e h = absurd (omega arith)
sum_l-words (suc k) (a ∷ []) e h = absurd (omega arith)
sum_l-words (suc k) (a ∷ b ∷ block) e h = grind (arith, sum_l-words k block (omega arith) h.1.1)

-- the same of a block that is loaded from a slice
pub sum_l-words_in : (block : List ℕ) → length block ≡ 32
    → ((i : ℕ) → Fits w8 (get_or block i 0))
    → sum_l (digits_l 65536 16 (number_l 256 (take 32 block))) ≡ total_low block
sum_l-words_in block e fits =
    let whole : take 32 block ≡ block = take_all 32 block (omega (arith, e)) in
    let small : Each1 (λ b. b < 256) block =
    Each1-from_get_or (λ b. b < 256) block 0 (λ i _. (fits i).fits) in
    cc (whole, sum_l-words 16 block e small)

-- lanes to which a word more was added
lanes_grow : (m : ℕ) (xs ys : List ℕ) → Each1 (λ x. x ≤ 65535 * m) xs → Each1 (λ y. y ≤ 65535) ys
    → Each1 (λ z. z ≤ 65535 * (m + 1)) (zip2 (λ x y. x + y) xs ys)
lanes_grow m [] ys p q = tt
lanes_grow m (x ∷ xs) [] p q = tt
lanes_grow m (x ∷ xs) (y ∷ ys) p q = (omega (arith, p.0, q.0), lanes_grow m xs ys p.1 q.1)

pub lanes_fit : (m : ℕ) (xs ys : List ℕ) → m < 65536 → Each1 (λ x. x ≤ 65535 * m) xs
    → Each1 (λ y. y ≤ 65535) ys → Each2 (λ x y. Fits w32 (x + y)) xs ys
lanes_fit m [] ys h p q = tt
lanes_fit m (x ∷ xs) [] h p q = tt
lanes_fit m (x ∷ xs) (y ∷ ys) h p q = grind (arith, lanes_fit m xs ys h p.1 q.1)

-- the lanes after i blocks
abbrev pub LanesOf : List ℕ → ℕ → List (List ℕ) → Type 0
LanesOf sums i blocks = (length sums ≡ 16) × Each1 (λ lane. lane ≤ 65535 * i) sums
    × (sum_l sums ≡ sum_by total_low (take i blocks))

pub lanes_more : (sums words : List ℕ) (blocks : List (List ℕ)) (i : ℕ) → i < length blocks
    → LanesOf sums i blocks → length words ≡ 16 → Each1 (λ word. word ≤ 65535) words
    → sum_l words ≡ total_low (get_or blocks i [])
    → LanesOf (zip2 (λ x y. x + y) sums words) (i + 1) blocks
lanes_more sums words blocks i h so len small sum =
    grind (arith, length-zip2, lanes_grow, sum-zip2, sum_by_more)

-- the lanes after all blocks, which are few enough for the sum of all lanes to fit one
pub lanes_all : (sums : List ℕ) (blocks : List (List ℕ)) (i : ℕ) → i ≤ length blocks
    → length blocks ≤ i → length blocks ≤ 4096 → LanesOf sums i blocks
    → (sum_l sums < 2 ^ 32) × (sum_l sums ≡ sum_by total_low blocks)
lanes_all sums blocks i le ge few so =
    let bound : sum_l sums ≤ 65535 * i * length sums = sum_bound (65535 * i) sums so.1 in
    let all : 65535 * i * length sums ≡ 65535 * i * 16 = cc so.0 in
    grind (arith, take_all)
