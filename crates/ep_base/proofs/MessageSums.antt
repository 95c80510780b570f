-- The sum of a message with a checksum in it.
use Rattle.std.proofs.Common.{◌≡◌, ℕ, ◌+◌, ◌-◌, ◌%◌, ◌<◌, ◌≤◌, IsTrue, not, ◌&&◌, eqb, List, ◌++◌}
use Rattle.std.proofs.Common.{length, arith}
use Rattle.ep_base.specs.Sum.{fold, no_zero, total}
use Rattle.ep_base.specs.MessageSum.{with_word, ChecksumSumsToAllOnes, NoZeroSumsToAllOnes}
use Rattle.ep_base.proofs.Totals.{total-append}
use Rattle.ep_base.proofs.Numbers.{both_hold}

divided : (t : ℕ) → 0 < t → t % 65535 ≡ 0 → IsTrue (not (eqb t 0) && eqb (t % 65535) 0)
divided t positive rest = grind arith

-- a sum and its complement
with_complement : (rest : ℕ) → (0 < rest + (65535 - fold rest))
    × ((rest + (65535 - fold rest)) % 65535 ≡ 0)
unfolding fold
with_complement rest = grind arith

-- the same with ffff instead of 0
with_no_zero : (rest c : ℕ) → 0 < rest + c → (rest + c) % 65535 ≡ 0
    → (0 < rest + no_zero c) × ((rest + no_zero c) % 65535 ≡ 0)
with_no_zero rest c positive divides = grind arith

no_zero_small : (n : ℕ) → n ≤ 65535 → no_zero n ≤ 65535
no_zero_small n small = grind arith

-- a word in a text is one word of its sum
total-with_word : (before after : List ℕ) (word : ℕ) → length before % 2 ≡ 0 → word ≤ 65535
    → total (with_word before word after) ≡ total (with_word before 0 after) + word
unfolding total
total-with_word before after word even small = grind (arith, total-append)

-- a word of zeros adds nothing
pub total-zero_word : (before after : List ℕ) → length before % 2 ≡ 0
    → total (before ++ after) ≡ total (with_word before 0 after)
unfolding total
total-zero_word before after even = grind (arith, total-append)

pub checksum_sums : ChecksumSumsToAllOnes
checksum_sums before after even =
    let rest : ℕ = total (with_word before 0 after) in
    let sums = with_complement rest in
    let c : ℕ = 65535 - fold rest in
    let is = total-with_word before after c even (omega arith) in
    divided (total (with_word before c after)) (rw is sums.0) (rw is sums.1)

pub no_zero_sums : NoZeroSumsToAllOnes
no_zero_sums before after even =
    let rest : ℕ = total (with_word before 0 after) in
    let started = with_complement rest in
    let sums = with_no_zero rest (65535 - fold rest) started.0 started.1 in
    let c : ℕ = no_zero (65535 - fold rest) in
    let is = total-with_word before after c even
    (no_zero_small (65535 - fold rest) (omega arith)) in
    divided (total (with_word before c after)) (rw is sums.0) (rw is sums.1)
