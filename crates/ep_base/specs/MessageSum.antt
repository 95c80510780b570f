-- The Internet checksum of a message (RFC 1071; RFC 768; RFC 9293, section 3.1; RFC 4443, section
-- 2.3): it covers a pseudo header, a header with its checksum as 0, and a payload.
use Rattle.std.specs.Prelude.{◌≡◌, ℕ, ◌%◌, List, ◌++◌, length, IsTrue}
use Rattle.std.specs.Int.{w16, to_be_bytes}
use Rattle.ep_base.specs.Sum.{all_ones, checksum, fold, no_zero, total}

-- a sum is that of a text of whole words
pub record SumsWords (sum : ℕ) (text : List ℕ) : Type 0 where
  pub whole : length text % 2 ≡ 0
  pub folded : sum ≡ fold (total text)

-- a text with one more word in it, high byte first
abbrev pub with_word : (before : List ℕ) → (word : ℕ) → (after : List ℕ) → List ℕ
with_word before word after = before ++ (to_be_bytes w16 word ++ after)

-- a text sums to all ones where one of its words is the complement of the sum of the text with 0
-- instead of that word
abbrev pub ChecksumSumsToAllOnes : Type 0
ChecksumSumsToAllOnes = (before after : List ℕ) → length before % 2 ≡ 0
    → IsTrue (all_ones (with_word before (checksum (with_word before 0 after)) after))

-- so it does with ffff instead of a checksum that is 0
abbrev pub NoZeroSumsToAllOnes : Type 0
NoZeroSumsToAllOnes = (before after : List ℕ) → length before % 2 ≡ 0
    → IsTrue (all_ones (with_word before (no_zero (checksum (with_word before 0 after))) after))
