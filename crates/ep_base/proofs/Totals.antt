-- Laws of `total`, and words that are read low byte first.
use Rattle.std.proofs.Common.{replicate, ◌≡◌, ℕ, zero, suc, ◌+◌, ◌*◌, ◌%◌, ◌≤◌, List, ◌∷◌, ◌++◌, [], length, take, drop}
use Rattle.std.proofs.Common.{ap, refl, arith, inl, inr}
use Rattle.std.specs.Int.{from_le_bytes, w16, w32, w64}
use Rattle.std.specs.Simd.{first_chunks}
use Rattle.std.specs.List.{sum_by}
use Rattle.std.proofs.lemmas.List.Sums.{sum_by-cons}
use Rattle.std.proofs.lemmas.List.{take-append-drop, length-take-le, drop-drop, length-drop}
use Rattle.ep_base.specs.Sum.{fold, total, total_low, accumulator_sum, whole_words}
use Rattle.ep_base.proofs.Folds.{fold_add, fold_add_right, fold_around_16, fold_around_32, fold_step, zero_or_pos}

-- a prefix of even length consists of whole words
pub total-append : (xs ys : List ℕ) → length xs % 2 ≡ 0 → total (xs ++ ys) ≡ total xs + total ys
unfolding total
total-append [] ys e = omega arith
total-append (a ∷ []) ys e = absurd (omega arith)
total-append (a ∷ b ∷ xs) ys e = omega (arith, total-append xs ys (omega arith))

-- ---- a wide word read low byte first

pub accumulator_sum_2 : (t : List ℕ) → length t ≡ 2
    → accumulator_sum (from_le_bytes w16 t) ≡ fold (total t)
unfolding total
accumulator_sum_2 (a ∷ b ∷ []) e =
    let bytes : 256 * from_le_bytes w16 (a ∷ b ∷ []) ≡ 256 * a + 65536 * b = omega arith in
    let words : 256 * a + b ≡ total (a ∷ b ∷ []) = omega arith in
    grind (arith, fold_around_16)
accumulator_sum_2 t e = absurd (omega arith)

-- the four bytes of a number, low byte first, as words
fold_four : (a b c d : ℕ) → fold (256 * a + 65536 * (b + 256 * c + 65536 * d))
    ≡ fold (256 * a + b + (256 * c + d))
fold_four a b c d =
    let inner : 256 * a + (b + 256 * c + 65536 * d)
    ≡ (256 * a + b + 256 * c) + 65536 * d = omega arith in
    let words : (256 * a + b + 256 * c) + d ≡ 256 * a + b + (256 * c + d) = omega arith in
    grind (arith, fold_around_16)

pub accumulator_sum_4 : (t : List ℕ) → length t ≡ 4
    → accumulator_sum (from_le_bytes w32 t) ≡ fold (total t)
unfolding total
accumulator_sum_4 (a ∷ b ∷ c ∷ d ∷ []) e =
    let bytes : 256 * from_le_bytes w32 (a ∷ b ∷ c ∷ d ∷ [])
    ≡ 256 * a + 65536 * (b + 256 * c + 65536 * d) = omega arith in
    let words : 256 * a + b + (256 * c + d) ≡ total (a ∷ b ∷ c ∷ d ∷ []) = omega arith in
    grind (arith, fold_four)
accumulator_sum_4 t e = absurd (omega arith)

pub accumulator_sum_8 : (t : List ℕ) → length t ≡ 8
    → accumulator_sum (from_le_bytes w64 t) ≡ fold (total t)
unfolding total
accumulator_sum_8 (a ∷ b ∷ c ∷ d ∷ e ∷ f ∷ g ∷ h ∷ []) long =
    let low : ℕ = 256 * a + 65536 * (b + 256 * c + 65536 * d) in
    let high : ℕ = 256 * e + 65536 * (f + 256 * g + 65536 * h) in
    let bytes : 256 * from_le_bytes w64 (a ∷ b ∷ c ∷ d ∷ e ∷ f ∷ g ∷ h ∷ [])
    ≡ low + 4294967296 * high = omega arith in
    let both : low + high ≡ 256 * (a + e) + 65536 * ((b + f) + 256 * (c + g) + 65536 * (d + h)) =
    omega arith in
    let words : 256 * (a + e) + (b + f) + (256 * (c + g) + (d + h))
    ≡ total (a ∷ b ∷ c ∷ d ∷ e ∷ f ∷ g ∷ h ∷ []) = omega arith in
    grind (arith, fold_around_32, fold_four)
accumulator_sum_8 t long = absurd (omega arith)

-- a word that encodes a text is added
pub word_more : (sum word next : ℕ) (text : List ℕ) → next ≡ fold (sum + word)
    → word ≡ fold (total text) → next ≡ fold (sum + total text)
word_more sum word next text step is = grind (arith, fold_add_right)

-- ---- a text whose words are read low byte first

-- 256 times this sum is the total and a multiple of 65535
total_low_times : (t : List ℕ) → (k : ℕ) × (256 * total_low t ≡ total t + 65535 * k)
unfolding total total_low
total_low_times [] = (0, refl)
total_low_times (a ∷ []) = (0, omega arith)
total_low_times (a ∷ b ∷ t) = let r = total_low_times t in (b + r.0, omega (arith, r.1))

-- and they are 0 together
total_low_zero : (t : List ℕ) → total t ≡ 0 → total_low t ≡ 0
unfolding total total_low
total_low_zero [] none = refl
total_low_zero (a ∷ []) none = omega arith
total_low_zero (a ∷ b ∷ t) none = omega (arith, total_low_zero t (omega arith))

pub accumulator_sum_total_low : (t : List ℕ) → accumulator_sum (total_low t) ≡ fold (total t)
accumulator_sum_total_low t = elim (zero_or_pos (total t)) [
  | inl none ↦ grind (arith, total_low_zero)
  | inr some ↦ let r = total_low_times t in grind (arith, fold_step)
]

-- ---- a text cut into blocks

-- k blocks of an even length each, and what is left
pub total-first_chunks : (n k : ℕ) (xs : List ℕ) → n % 2 ≡ 0 → k * n ≤ length xs
    → total xs ≡ sum_by total (first_chunks n k xs) + total (drop (k * n) xs)
total-first_chunks n zero xs e le = grind arith
total-first_chunks n (suc k) xs e le =
    let cut : total (take n xs ++ drop n xs) ≡ total xs = ap total (take-append-drop n xs) in
    let prefix : length (take n xs) % 2 ≡ 0 =
    grind (arith, length-take-le) in
    let here = total-append (take n xs) (drop n xs) prefix in
    let more = total-first_chunks n k (drop n xs) e (omega (arith, length-drop n xs)) in
    let position : n + k * n ≡ suc k * n = omega arith in
    let rest : drop (k * n) (drop n xs) ≡ drop (suc k * n) xs =
    grind (arith, drop-drop) in
    grind (arith, sum_by-cons)

-- ---- a text built up chunk by chunk

-- zeros at the end add nothing
total_zeros : (k : ℕ) → total (replicate k 0) ≡ 0
unfolding total
total_zeros zero = refl
total_zeros (suc zero) = refl
total_zeros (suc (suc k)) = omega (arith, total_zeros k)

total-zeros_after : (t : List ℕ) (k : ℕ) → total (t ++ replicate k 0) ≡ total t
unfolding total
total-zeros_after [] k = total_zeros k
total-zeros_after (a ∷ []) zero = refl
total-zeros_after (a ∷ []) (suc k) = omega (arith, total_zeros k)
total-zeros_after (a ∷ b ∷ t) k = ap (λ n. 256 * a + b + n) (total-zeros_after t k)

pub total-whole_words : (chunk : List ℕ) → total (whole_words chunk) ≡ total chunk
total-whole_words chunk = total-zeros_after chunk (length chunk % 2)

-- one chunk more, after a text of even length
pub text_more : (sum next : ℕ) (text chunk : List ℕ) → next ≡ fold (sum + total chunk)
    → length text % 2 ≡ 0 → sum ≡ fold (total text)
    → next ≡ fold (total (text ++ chunk))
text_more sum next text chunk step even so = grind (arith, fold_add, total-append)

pub whole_words_more : (sum next : ℕ) (text chunk : List ℕ) → next ≡ fold (sum + total chunk)
    → length text % 2 ≡ 0 → sum ≡ fold (total text)
    → next ≡ fold (total (text ++ whole_words chunk))
whole_words_more sum next text chunk step even so = grind (arith, text_more, total-whole_words)
