-- Packets counted in buckets, of which each packet is in one.
use Rattle.std.proofs.Common.{◌≡◌, ◌≢◌, ℕ, zero, suc, ◌+◌, ◌^◌, ◌<◌, ◌≤◌, ◌==◌, ◌⊎◌, [], Bool, true, false, List, ◌∷◌}
use Rattle.std.proofs.Common.{◌++◌, length, refl, arith, get_or-set_other, get_or-set_same, replicate}
use Rattle.std.specs.List.{count_by, slice_index, slice_index_or, slice_set}
use Rattle.std.proofs.lemmas.Bool.Decides.{eqb_tells, nat_tests}
use Rattle.std.proofs.Math.Pow.{pow_mono}
use Rattle.captures.specs.Numbers.{capped}
use Rattle.packets.specs.Sizes.{has_digits}
use Rattle.packets.specs.Table.{no_tally}
use Rattle.packets.specs.Tally.{tally_of}
use Rattle.packets.specs.declared.summary.tally.Tally.{Tally}
use Rattle.packets.specs.declared.outline.Outline.{Outline}
use Rattle.packets.proofs.TallyLemmas.{count_by-more, count_by-none, tally_of-other}

-- the counts of the buckets with one packet more, which is in bucket k alone
pub bucket-more : (counts : List ℕ) (capacity k v : ℕ) (kind : ℕ → Outline → Bool)
    (packets : List Outline) (packet : Outline) → k < length counts
    → ((d : ℕ) → d < capacity → slice_index counts d ≡ capped (count_by (kind d) packets))
    → kind k packet ≡ true → ((d : ℕ) → d ≢ k → kind d packet ≡ false)
    → v ≡ capped (slice_index counts k + 1) → (d : ℕ) → d < capacity
    → slice_index (slice_set counts k v) d ≡ capped (count_by (kind d) (packets ++ packet ∷ []))
bucket-more counts capacity k v kind packets packet within counted here others ev d small =
    grind (arith, eqb_tells, get_or-set_same, count_by-more, get_or-set_other, count_by-none)

has-low : (more n : ℕ) → has_digits (suc more) n ≡ true → 2 ^ more ≤ n
has-low more n h = grind (arith, nat_tests)

has-high : (digits n : ℕ) → has_digits digits n ≡ true → n < 2 ^ digits
has-high digits n h = grind arith

fewer-digits : (a b n : ℕ) → a < b → has_digits a n ≡ true → has_digits b n ≡ true → ⊥
fewer-digits a b n lt ha hb = grind (arith, has-high, has-low, pow_mono)

order : (a b : ℕ) → a ≢ b → (a < b) ⊎ (b < a)
order a b other = grind arith

apart : (a b n : ℕ) → a ≢ b → has_digits a n ≡ true → has_digits b n ≡ true → ⊥
apart a b n other ha hb = grind (arith, order, fewer-digits)

-- no number has another number of digits too
pub digits-others : (k n : ℕ) → has_digits k n ≡ true → (d : ℕ) → d ≢ k → has_digits d n ≡ false
digits-others k n here d other = grind (arith, apart)

-- the tallies of the buckets with one packet more, which is in bucket k alone
pub bucket-tally : (tallies : List Tally) (k : ℕ) (v : Tally) (kind : ℕ → Outline → Bool)
    (packets : List Outline) (packet : Outline) → k < length tallies → k < 256
    → ((d : ℕ) → d < 256 → slice_index_or tallies d no_tally ≡ tally_of (kind d) packets)
    → kind k packet ≡ true → ((d : ℕ) → d ≢ k → kind d packet ≡ false)
    → (slice_index_or tallies k no_tally ≡ tally_of (kind k) packets
    → v ≡ tally_of (kind k) (packets ++ packet ∷ []))
    → (d : ℕ) → d < 256
    → slice_index_or (slice_set tallies k v) d no_tally ≡ tally_of (kind d) (packets ++ packet ∷ [])
bucket-tally tallies k v kind packets packet within small_k counted here others added d small =
    grind (arith, eqb_tells, get_or-set_same, get_or-set_other, tally_of-other)

pub tallies-none : (n k : ℕ) → slice_index_or (replicate n no_tally) k no_tally ≡ no_tally
tallies-none zero zero = refl
tallies-none zero (suc k) = refl
tallies-none (suc n) zero = refl
tallies-none (suc n) (suc k) = tallies-none n k

pub number-here : (number position : ℕ) → position ≡ number → (number == position) ≡ true
number-here number position e = grind (arith, nat_tests)

pub number-others : (number position d : ℕ) → position ≡ number → d ≢ position → (number == d) ≡ false
number-others number position d e other = grind (arith, nat_tests)
