-- The Internet checksum (RFC 1071, sections 1 and 2): a ones-complement sum of 16-bit words, and
-- its complement.
use Rattle.std.specs.Prelude.{◌≡◌, ◌≢◌, ◌<◌, IsPermutation, IsTrue, false, ℕ, zero, suc, ◌+◌, ◌-◌, ◌*◌, ◌%◌, ◌==◌, ◌&&◌}
use Rattle.std.specs.Prelude.{not, Bool, List, [], ◌∷◌, ◌++◌, length, replicate}
use Rattle.std.specs.List.{flat_map, concat}

-- the sum of a text's 16-bit words, high byte first; an odd last byte is followed by a zero byte
unfoldable pub total : List ℕ → ℕ
total [] = 0
total (a ∷ []) = 256 * a
total (a ∷ b ∷ rest) = 256 * a + b + total rest

-- the same with the low byte first
unfoldable pub total_low : List ℕ → ℕ
total_low [] = 0
total_low (a ∷ []) = a
total_low (a ∷ b ∷ rest) = a + 256 * b + total_low rest

-- what a ones-complement sum keeps of a total: whether it is 0, and its residue by 65535
unfoldable pub fold : ℕ → ℕ
fold zero = 0
fold (suc n) = 1 + n % 65535

-- a text whose words sum to all ones, as one with a right checksum in it
abbrev pub all_ones : List ℕ → Bool
all_ones text = not (total text == 0) && (total text % 65535 == 0)

-- the complement of a text's sum
abbrev pub checksum : List ℕ → ℕ
checksum text = 65535 - fold (total text)

-- a chunk as whole words: a zero byte follows it where its length is odd
abbrev pub whole_words : List ℕ → List ℕ
whole_words chunk = chunk ++ replicate (length chunk % 2) 0

-- from the sum of any text of whole words to that of the text with this chunk after it
abbrev pub AddsText : ℕ → List ℕ → ℕ → Type 0
AddsText sum chunk next = (text : List ℕ) → length text % 2 ≡ 0 → sum ≡ fold (total text)
    → next ≡ fold (total (text ++ chunk))

-- a checksum where 0 says that there is none (RFC 768)
abbrev pub no_zero : ℕ → ℕ
no_zero zero = 65535
no_zero (suc n) = suc n

-- the sum, high byte first, of the words that were added to an accumulator low byte first
abbrev pub accumulator_sum : ℕ → ℕ
accumulator_sum n = fold (256 * n)

-- chunks of a text that is cut at the ends of words: all but the last have an even length
abbrev pub IsCutAtWords : List (List ℕ) → Type 0
IsCutAtWords [] = Unit {0}
IsCutAtWords (chunk ∷ []) = Unit {0}
IsCutAtWords (chunk ∷ next ∷ rest) = (length chunk % 2 ≡ 0) × IsCutAtWords (next ∷ rest)

-- wherever a text is cut at the ends of words, and in whatever order its chunks are added, the fold
-- is that of the text
abbrev pub FoldOfChunks : Type 0
FoldOfChunks = (text : List ℕ) (chunks order : List (List ℕ)) → concat chunks ≡ text
    → IsCutAtWords chunks → IsPermutation chunks order
    → fold (total (flat_map whole_words order)) ≡ fold (total text)

-- a text that sums to all ones doesn't with another value of one of its bytes
abbrev pub OneChangedByte : Type 0
OneChangedByte = (prefix rest : List ℕ) (old new : ℕ) → old < 256 → new < 256 → old ≢ new
    → IsTrue (all_ones (prefix ++ old ∷ rest)) → all_ones (prefix ++ new ∷ rest) ≡ false
