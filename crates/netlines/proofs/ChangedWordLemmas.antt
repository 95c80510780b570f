-- What a changed word does to a text's sum.
use Rattle.std.proofs.Common.{◌≡◌, ◌≢◌, ◌⊎◌, inl, inr, ◌∙◌, sym, ap, refl, ℕ, ◌+◌, ◌%◌, ◌≤◌, ◌==◌, [], ◌&&◌, not, Bool}
use Rattle.std.proofs.Common.{true, false, List, ◌∷◌, ◌++◌, length, get_or, arith, append_assoc, length-append}
use Rattle.std.specs.Prelude.{if◌then◌else◌}
use Rattle.std.proofs.lemmas.Bool.Decides.{nat_tests}
use Rattle.etherparse.specs.base.Bytes.{IsBytes}
use Rattle.etherparse.specs.base.Sum.{all_ones, total}
use Rattle.netlines.specs.ChangedWord.{DifferInOneWord, is_exchange, summed_bytes, verdict_after}
use Rattle.etherparse.specs.tcpudp.Udp.{checksum_of, length_of}
use Rattle.etherparse.specs.packet.Readable.{ReadMessage}
use Rattle.checksum_verdicts.specs.Verdict.{is_unchecked, summed_text, verdict_of}
use Rattle.etherparse.specs.packet.declared.addresses.Addresses.{Addresses}
use Rattle.checksum_verdicts.specs.declared.verdict.Verdict.{Verdict}
use Rattle.checksum_verdicts.specs.declared.verdict.Verdict.TheVariants as verdict

-- a word in a text is one word of its sum
total-word : (prefix word rest : List ℕ) → length prefix % 2 ≡ 0 → (length word ≡ 2)
    ⊎ ((length word ≡ 1) × (rest ≡ []))
    → total (prefix ++ word ++ rest) ≡ total (prefix ++ rest) + total word
unfolding total
total-word [] (a ∷ b ∷ []) rest even size = omega arith
total-word [] (a ∷ []) [] even size = omega arith
total-word [] (a ∷ []) (c ∷ rest) even (inl two) = absurd (omega arith)
total-word [] (a ∷ []) (c ∷ rest) even (inr one) = absurd (cc one.1)
total-word [] [] rest even (inl two) = absurd (omega arith)
total-word [] [] rest even (inr one) = absurd (omega (arith, one.0))
total-word [] (a ∷ b ∷ c ∷ word) rest even (inl two) = absurd (omega arith)
total-word [] (a ∷ b ∷ c ∷ word) rest even (inr one) = absurd (omega (arith, one.0))
total-word (a ∷ []) word rest even size = absurd (omega arith)
total-word (a ∷ b ∷ prefix) word rest even size =
    omega (arith, total-word prefix word rest (omega arith) size)

-- a word is at most ffff
total-small : (word : List ℕ) → length word ≤ 2 → IsBytes word → total word ≤ 65535
unfolding total
total-small [] short bytes = omega arith
total-small (a ∷ []) short bytes = omega (arith, bytes 0)
total-small (a ∷ b ∷ []) short bytes = omega (arith, bytes 0, bytes 1)
total-small (a ∷ b ∷ c ∷ word) short bytes = absurd (omega arith)

abbrev sums : ℕ → Bool
sums t = not (t == 0) && (t % 65535 == 0)

-- what is left where a word of a sum that 65535 divides is another one
after : (others old new : ℕ) → old ≤ 65535 → new ≤ 65535 → old ≢ new → sums (others + old) ≡ true
    → sums (others + new) ≡ (is_exchange old new && not (others + new == 0))
after others old new old_small new_small differ good = grind (arith, nat_tests)

-- the verdict on a text by its sum
abbrev pub by_sum : List ℕ → Verdict
by_sum text = if all_ones text then verdict.Good else verdict.Bad

-- a verdict on a text that summed to all ones, when a word of it is another one
is_good : (b : Bool) → (if b then verdict.Good else verdict.Bad) ≡ verdict.Good → b ≡ true
is_good b is = grind arith

short_word : (word rest : List ℕ) → (length word ≡ 2)
    ⊎ ((length word ≡ 1) × (rest ≡ [])) → length word ≤ 2
short_word word rest h = grind arith

same_word : (old new rest : List ℕ) → length new ≡ length old → (length old ≡ 2)
    ⊎ ((length old ≡ 1) × (rest ≡ [])) → (length new ≡ 2) ⊎ ((length new ≡ 1) × (rest ≡ []))
same_word old new rest same h = grind (arith, nat_tests)

following : (pseudo prefix word rest : List ℕ)
    → pseudo ++ (prefix ++ word ++ rest) ≡ pseudo ++ prefix ++ word ++ rest
following pseudo prefix word rest = grind (arith, append_assoc)

-- a text whose word is changed, after a pseudo header of whole words
pub judged_after : (pseudo old new : List ℕ) → length pseudo % 2 ≡ 0
    → (words : DifferInOneWord old new) → by_sum (pseudo ++ old) ≡ verdict.Good
    → by_sum (pseudo ++ new) ≡ verdict_after words.old_word words.new_word (pseudo ++ new)
judged_after pseudo old new even words good =
    let prefix : List ℕ = pseudo ++ words.prefix in
    let aligned : length prefix % 2 ≡ 0 =
    omega (arith, even, words.aligned, length-append pseudo words.prefix) in
    let others : ℕ = total (prefix ++ words.rest) in
    let new_size = same_word words.old_word words.new_word words.rest words.same_size words.size in
    let old_total : total (pseudo ++ old) ≡ others + total words.old_word =
    grind (arith, following, total-word) in
    let new_total : total (pseudo ++ new) ≡ others + total words.new_word =
    grind (arith, following, total-word) in
    let was : sums (others + total words.old_word) ≡ true =
    grind arith in
    let is = after others (total words.old_word) (total words.new_word)
    (total-small words.old_word (short_word words.old_word words.rest words.size) words.old_bytes)
    (total-small words.new_word (short_word words.new_word words.rest new_size) words.new_bytes)
    words.differ was in
    grind arith

-- the fields of UDP that a changed word elsewhere leaves as they are
abbrev pub IsKept : List ℕ → List ℕ → Type 0
IsKept new old = (length_of new ≡ length_of old) × (checksum_of new ≡ checksum_of old)

kept_far : (prefix old new rest : List ℕ) → 8 ≤ length prefix
    → IsKept (prefix ++ new ++ rest) (prefix ++ old ++ rest)
kept_far [] old new rest far = absurd (omega arith)
kept_far (a ∷ []) old new rest far = absurd (omega arith)
kept_far (a ∷ b ∷ []) old new rest far = absurd (omega arith)
kept_far (a ∷ b ∷ c ∷ []) old new rest far = absurd (omega arith)
kept_far (a ∷ b ∷ c ∷ d ∷ []) old new rest far = absurd (omega arith)
kept_far (a ∷ b ∷ c ∷ d ∷ e ∷ []) old new rest far = absurd (omega arith)
kept_far (a ∷ b ∷ c ∷ d ∷ e ∷ f ∷ []) old new rest far = absurd (omega arith)
kept_far (a ∷ b ∷ c ∷ d ∷ e ∷ f ∷ g ∷ []) old new rest far = absurd (omega arith)
kept_far (a ∷ b ∷ c ∷ d ∷ e ∷ f ∷ g ∷ h ∷ prefix) old new rest far = (refl, refl)

kept_pair : (prefix : List ℕ) (p q r s : ℕ) (rest : List ℕ) → length prefix % 2 ≡ 0
    → length prefix ≢ 4 → length prefix ≢ 6
    → IsKept (prefix ++ (r ∷ s ∷ []) ++ rest) (prefix ++ (p ∷ q ∷ []) ++ rest)
kept_pair [] p q r s rest even at_length at_checksum = (refl, refl)
kept_pair (a ∷ []) p q r s rest even at_length at_checksum = absurd (omega arith)
kept_pair (a ∷ b ∷ []) p q r s rest even at_length at_checksum = (refl, refl)
kept_pair (a ∷ b ∷ c ∷ []) p q r s rest even at_length at_checksum = absurd (omega arith)
kept_pair (a ∷ b ∷ c ∷ d ∷ []) p q r s rest even at_length at_checksum = absurd (at_length refl)
kept_pair (a ∷ b ∷ c ∷ d ∷ e ∷ []) p q r s rest even at_length at_checksum = absurd (omega arith)
kept_pair (a ∷ b ∷ c ∷ d ∷ e ∷ f ∷ []) p q r s rest even at_length at_checksum = grind arith
kept_pair (a ∷ b ∷ c ∷ d ∷ e ∷ f ∷ g ∷ []) p q r s rest even at_length at_checksum = grind arith
kept_pair (a ∷ b ∷ c ∷ d ∷ e ∷ f ∷ g ∷ h ∷ prefix) p q r s rest even at_length at_checksum =
    (refl, refl)

pair : (word : List ℕ) → length word ≡ 2 → word ≡ get_or word 0 0 ∷ get_or word 1 0 ∷ []
pair [] two = absurd (omega arith)
pair (a ∷ []) two = absurd (omega arith)
pair (a ∷ b ∷ []) two = refl
pair (a ∷ b ∷ c ∷ word) two = absurd (omega arith)

pub kept : (prefix old new rest : List ℕ) → length prefix % 2 ≡ 0 → length prefix ≢ 4
    → length prefix ≢ 6 → (length old ≡ 2) ⊎ ((length old ≡ 1) × (rest ≡ []))
    → length new ≡ length old → 8 ≤ length (prefix ++ old ++ rest)
    → IsKept (prefix ++ new ++ rest) (prefix ++ old ++ rest)
kept prefix old new rest even at_length at_checksum (inl two) same long =
    let kept = kept_pair prefix (get_or old 0 0) (get_or old 1 0) (get_or new 0 0)
    (get_or new 1 0) rest even at_length at_checksum in
    grind (arith, pair)
kept prefix old new rest even at_length at_checksum (inr one) same long =
    kept_far prefix old new rest
    (omega (
      arith,
      even,
      one.0,
      ap length one.1,
      length-append
          (prefix ++ old) rest,
      length-append prefix old,
    ))

-- what a changed word leaves of a message
pub record IsChanged (addresses : Addresses) (message changed : ReadMessage)
    (new : List ℕ) : Type 0 where
  pub unchecked : is_unchecked addresses changed ≡ is_unchecked addresses message
  -- the pseudo header, where there is one
  pub prefix : List ℕ
  pub even : length prefix % 2 ≡ 0
  pub was : summed_text addresses message ≡ prefix ++ summed_bytes message
  pub is : summed_text addresses changed ≡ prefix ++ new

checked_good : (b : Bool) (v : Verdict) → (if b then verdict.None else v) ≡ verdict.Good
    → (b ≡ false) × (v ≡ verdict.Good)
checked_good b v is = grind arith

pub reported : (addresses : Addresses) (message changed : ReadMessage) (new : List ℕ)
    → verdict_of addresses message ≡ verdict.Good → (words : DifferInOneWord (summed_bytes message)
    new)
    → IsChanged addresses message changed new
    → verdict_of addresses changed ≡ verdict_after words.old_word words.new_word
    (summed_text addresses changed)
reported addresses message changed new good words is =
    let was = checked_good (is_unchecked addresses message)
    (by_sum (summed_text addresses message)) good in
    rw (is.unchecked ∙ was.0)
    (ap by_sum is.is
    ∙ judged_after is.prefix (summed_bytes message) new is.even words
    (ap by_sum (sym is.was) ∙ was.1)
    ∙ ap (verdict_after words.old_word words.new_word) (sym is.is))

-- a text of the same length
pub same_len : (old new : List ℕ) (words : DifferInOneWord old new) → length new ≡ length old
same_len old new words = grind (arith, length-append)

pub nothing_after : (bytes following : List ℕ) → bytes ≡ bytes ++ following → following ≡ []
nothing_after bytes [] is = refl
nothing_after bytes (a ∷ following) is =
    absurd (omega (arith, ap length is, length-append bytes (a ∷ following)))
