-- Blocks of a text, of which the last may overlap the one before it.
use Rattle.std.proofs.Common.{◌≡◌, ℕ, suc, ◌+◌, ◌-◌, ◌*◌, ◌/◌, ◌%◌, ◌<◌, ◌≤◌, Bool, true, false, [], List, ◌∷◌, ◌++◌}
use Rattle.std.proofs.Common.{take, replicate, length, get_or, Result, Ok, Err, refl, ap, ◌∙◌, inl, inr, arith, lt-ltb}
use Rattle.std.specs.Prelude.{MatchResult}
use Rattle.std.specs.List.{AllPass}
use Rattle.std.proofs.lemmas.Bool.{cases_lt}
use Rattle.std.proofs.lemmas.List.{get_or_append_left, get_or-append_right, get_or-take}
use Rattle.std.proofs.lemmas.Simd.{get_or-replicate, get_or-chunk, get_or-put_chunk_below, get_or-put_chunk_at}
use lib.Lanes.{chunk, put_chunk}
use Rattle.hex.specs.Hex.{decode_pairs, decode_sized, encode_lower, encode_with, is_hex_digit, lower_digits, pair_value}
use Rattle.hex.specs.Hex.{value_at}
use Rattle.hex.specs.declared.error.FromHexError.{FromHexError}
use Rattle.hex.proofs.HexLemmas.{IsOk-decode_sized}
use Rattle.hex.proofs.Pairs.{cons_byte, decode_pairs-ok_pair, decode_sized-pairs}
use Rattle.digits.specs.Digits.{Reads, AreDigitValues, AreDecoded}

-- the element at j of a block from m on is that at k of the list
in_block : (xs : List ℕ) (m n j k : ℕ) → m + j ≡ k → j < n
    → get_or (chunk m n xs) j 0 ≡ get_or xs k 0
in_block xs m n j k e h = get_or-chunk m n xs j 0 h ∙ ap (λ i. get_or xs i 0) e

-- and a block that is put in there has it at k
put_chunk_in : (xs ys : List ℕ) (m j k : ℕ) → m + j ≡ k → j < length ys → m + length ys ≤ length xs
    → get_or (put_chunk m xs ys) k 0 ≡ get_or ys j 0
put_chunk_in xs ys m j k e h fits = grind (arith, get_or-put_chunk_at)

-- ---- decoding

value_read : (a u i : ℕ) → Reads a u → u < 16 → value_at a i ≡ Ok u
value_read a u i r h = let t = lt-ltb u 16 h in let e = rw t at r in rw e refl

pub pair_read : (a b u v i : ℕ) → Reads a u → Reads b v → u < 16 → v < 16
    → pair_value a b i ≡ Ok (u * 16 + v)
pair_read a b u v i r s p q = rw (value_read a u i r p, value_read b v (i + 1) s q) refl

pub passes : (c v : ℕ) → Reads c v → is_hex_digit c ≡ true → v < 16
passes c v r h = grind arith

pub block_decoded : (ds bs vs ys : List ℕ) (at start : ℕ) → start ≤ at
    → start + 16 ≤ length bs → length ys ≡ 16
    → ((i : ℕ) → i < 32 → Reads (get_or (chunk (2 * start) 32 ds) i 0) (get_or vs i 0))
    → ((i : ℕ) → i < 32 → get_or vs i 0 < 16)
    → ((k : ℕ) → k < 16 → get_or ys k 0 ≡ get_or vs (2 * k) 0 * 16 + get_or vs (2 * k + 1) 0)
    → AreDecoded at ds bs → AreDecoded (start + 16) ds (put_chunk start bs ys)
block_decoded ds bs vs ys at start le room long reads small is so k h i =
    elim (cases_lt k start) [
      | inl before ↦ rw (get_or-put_chunk_below start bs ys k 0 before) (so k (omega arith) i)
      | inr from ↦
          let j : ℕ = k - start in
          let high = in_block ds (2 * start) 32 (2 * j) (2 * k) (omega arith) (omega arith) in
          let low = in_block ds (2 * start) 32 (2 * j + 1) (2 * k + 1)
          (omega arith) (omega arith) in
          let byte = put_chunk_in bs ys start j k (omega arith) (omega arith) (omega arith)
          ∙ is j (omega arith) in
          let ds' = chunk (2 * start) 32 ds in
          let pair = pair_read (get_or ds' (2 * j) 0) (get_or ds' (2 * j + 1) 0)
          (get_or vs (2 * j) 0) (get_or vs (2 * j + 1) 0) i (reads (2 * j) (omega arith))
          (reads (2 * j + 1) (omega arith)) (small (2 * j) (omega arith))
          (small (2 * j + 1) (omega arith)) in
          grind arith
    ]

pub block_values : (ds vs : List ℕ) (n start : ℕ) → start + 16 ≤ n → length ds ≡ 2 * n
    → ((i : ℕ) → i < 32 → Reads (get_or (chunk (2 * start) 32 ds) i 0) (get_or vs i 0))
    → AllPass is_hex_digit ds → AreDigitValues vs
block_values ds vs n start room twice reads all i h =
    passes (get_or (chunk (2 * start) 32 ds) i 0) (get_or vs i 0) (reads i h)
    (ap is_hex_digit (in_block ds (2 * start) 32 i (2 * start + i) refl h)
    ∙ all (2 * start + i) 0 (omega arith))

-- a block that is filled up with the digit 48
abbrev filled : List ℕ → List ℕ
filled ds = ds ++ replicate (32 - length ds) 48

filled_at : (ds block : List ℕ) (i : ℕ) → block ≡ filled ds → i < length ds
    → get_or block i 0 ≡ get_or ds i 0
filled_at ds block i e h = grind (arith, get_or_append_left)

pub short_decoded : (ds block vs ys : List ℕ) (n : ℕ) → length ds ≡ 2 * n
    → n < 16 → block ≡ filled ds
    → ((i : ℕ) → i < 32 → Reads (get_or block i 0) (get_or vs i 0)) → AreDigitValues vs
    → ((k : ℕ) → k < 16 → get_or ys k 0 ≡ get_or vs (2 * k) 0 * 16 + get_or vs (2 * k + 1) 0)
    → AreDecoded n ds (take n ys)
short_decoded ds block vs ys n twice short e reads small is k h i =
    grind (arith, filled_at, get_or-take, pair_read)

pub short_values : (ds block vs : List ℕ) → length ds ≤ 32 → block ≡ filled ds
    → ((i : ℕ) → i < 32 → Reads (get_or block i 0) (get_or vs i 0))
    → AllPass is_hex_digit ds → AreDigitValues vs
short_values ds block vs short e reads all i h =
    passes (get_or block i 0) (get_or vs i 0) (reads i h) (elim (cases_lt i (length ds)) [
      | inl prefix ↦ cc (filled_at ds block i e prefix, all i 0 prefix)
      | inr back ↦
          grind (arith, get_or-append_right, get_or-replicate)
    ])

all_decoded : (bs ds : List ℕ) (i : ℕ) → length ds ≡ 2 * length bs → AreDecoded (length bs) ds bs
    → decode_pairs i ds ≡ Ok bs
unfolding decode_pairs
all_decoded [] [] i twice h = refl
all_decoded [] (d ∷ ds) i twice h = absurd (omega arith)
all_decoded (b ∷ bs) [] i twice h = absurd (omega arith)
all_decoded (b ∷ bs) (d ∷ []) i twice h = absurd (omega arith)
all_decoded (b ∷ bs) (d ∷ e ∷ ds) i twice h =
    let rest : AreDecoded (length bs) ds bs = λ k l j.
    let high : suc (suc (2 * k)) ≡ 2 * suc k = omega arith in
    let low : suc (suc (2 * k + 1)) ≡ 2 * suc k + 1 = omega arith in
    cc (high, low, h (suc k) (omega arith) j) in
    decode_pairs-ok_pair i d e b ds (h 0 (omega arith) i)
    ∙ ap (cons_byte b) (all_decoded bs ds (i + 2) (omega arith) rest)

-- what is decode_answer of a text that has the right length
pub decode_answer : (ds bs : List ℕ) (n : ℕ) (r : Bool) → length ds % 2 ≡ 0
    → length ds / 2 ≡ n → length bs ≡ n
    → (r ≡ true → AreDecoded n ds bs) → (r ≡ false → AllPass is_hex_digit ds → ⊥)
    → MatchResult (decode_sized ds n) (λ value. (r ≡ true) × (bs ≡ value)) (λ _. r ≡ false)
decode_answer ds bs n true even half long done bad = grind (arith, decode_sized-pairs, all_decoded)
decode_answer ds bs n false even half long done bad = go (decode_sized ds n) refl
  where
    go : (d : Result (List ℕ) FromHexError) → decode_sized ds n ≡ d
        → MatchResult d (λ value. (false ≡ true) × (bs ≡ value)) (λ _. false ≡ false)
    go (Ok v) e = absurd (bad refl ((IsOk-decode_sized ds n).0 (rw e refl)).1)
    go (Err x) e = refl

-- ---- encoding

-- the digits of the first n bytes
abbrev pub AreEncoded : ℕ → List ℕ → List ℕ → Type 0
AreEncoded n bytes digits = (k : ℕ) → k < n
    → (get_or digits (2 * k) 0 ≡ get_or lower_digits (get_or bytes k 0 / 16) 0)
    × (get_or digits (2 * k + 1) 0 ≡ get_or lower_digits (get_or bytes k 0 % 16) 0)

pub block_encoded : (bs ds ys : List ℕ) (at start : ℕ) → start ≤ at → start + 16 ≤ length bs
    → length ds ≡ 2 * length bs → length ys ≡ 32
    → ((k : ℕ) → k < 16 → get_or ys (2 * k) 0
    ≡ get_or lower_digits (get_or (chunk start 16 bs) k 0 / 16) 0)
    → ((k : ℕ) → k < 16 → get_or ys (2 * k + 1) 0
    ≡ get_or lower_digits (get_or (chunk start 16 bs) k 0 % 16) 0)
    → AreEncoded at bs ds → AreEncoded (start + 16) bs (put_chunk (2 * start) ds ys)
block_encoded bs ds ys at start le room twice long high low so k h =
    elim (cases_lt k start) [
      | inl before ↦
          grind (arith, get_or-put_chunk_below)
      | inr from ↦
          let j : ℕ = k - start in
          let byte = in_block bs start 16 j k (omega arith) (omega arith) in
          let a = put_chunk_in ds ys (2 * start) (2 * j) (2 * k) (omega arith)
          (omega arith) (omega arith) in
          let b = put_chunk_in ds ys (2 * start) (2 * j + 1) (2 * k + 1) (omega arith)
          (omega arith) (omega arith) in grind arith
    ]

pub all_encoded : (bs ds : List ℕ) → length ds ≡ 2 * length bs
    → AreEncoded (length bs) bs ds → ds ≡ encode_lower bs
unfolding encode_with
all_encoded [] [] twice h = refl
all_encoded [] (d ∷ ds) twice h = absurd (omega arith)
all_encoded (b ∷ bs) [] twice h = absurd (omega arith)
all_encoded (b ∷ bs) (d ∷ []) twice h = absurd (omega arith)
all_encoded (b ∷ bs) (d ∷ e ∷ ds) twice h =
    let rest : AreEncoded (length bs) bs ds = λ k l.
    let high : suc (suc (2 * k)) ≡ 2 * suc k = omega arith in
    let low : suc (suc (2 * k + 1)) ≡ 2 * suc k + 1 = omega arith in
    let more = h (suc k) (omega arith) in grind arith in
    let first = h 0 (omega arith) in
    grind (arith, all_encoded bs ds (omega arith) rest)
