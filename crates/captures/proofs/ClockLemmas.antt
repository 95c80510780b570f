-- The clocks of interfaces.
use Rattle.std.proofs.Common.{◌≡◌, ◌∙◌, ap, ℕ, zero, suc, ◌+◌, ◌-◌, ◌*◌, ◌/◌, ◌^◌, ◌<◌, ◌≤◌, arith, true, false, List}
use Rattle.std.proofs.Common.{length, drop}
use Rattle.std.specs.Prelude.{min}
use Rattle.std.proofs.Math.Nat.{pow-suc}
use Rattle.std.proofs.lemmas.List.{drop_min}
use Rattle.std.proofs.lemmas.Nat.{div_below}
use Rattle.std.proofs.lemmas.Bool.{lt-ltb, le-ltb}
use Rattle.captures.specs.Times.{nanoseconds_of, clock_by, ends_options, option_len, with_option}
use Rattle.captures.specs.declared.byte_order.ByteOrder.{ByteOrder}
use Rattle.captures.specs.declared.time.clock.Clock.{Clock}

-- ---- powers of ten

ten_up : (n k : ℕ) → 10 ^ n ≤ 10 ^ (n + k)
ten_up n zero = let same : 10 ^ n ≡ 10 ^ (n + 0) = ap (λ j. 10 ^ j) (omega arith) in omega arith
ten_up n (suc k) =
    let more = ten_up n k in
    let same : 10 ^ (n + suc k) ≡ 10 ^ (n + k) * 10 =
    ap (λ j. 10 ^ j) (omega arith) ∙ pow-suc 10 (n + k) in
    omega arith

pub ten_most : (n m : ℕ) → n ≤ m → 10 ^ n ≤ 10 ^ m
ten_most n m le =
    let same : n + (m - n) ≡ m = omega arith in
    grind (arith, ten_up)

pub ten_some : (n : ℕ) → 0 < 10 ^ n
ten_some n = let most = ten_most 0 n (omega arith) in omega arith

pub ten_fits : (n : ℕ) → n < 20 → 10 ^ n < 2 ^ 64
ten_fits n few = let most = ten_most n 19 (omega arith) in omega arith

-- where 10^20 units or more make a second, no count of 64 bits has a whole second
pub no_parts : (count n : ℕ) → count < 2 ^ 64 → 20 ≤ n → count / 10 ^ n ≡ 0
no_parts count n few long =
    let most = ten_most 20 n long in
    let less = div_below count (10 ^ n) 1 (omega arith) (omega arith) in
    omega arith

-- where 10^29 units or more make a second, no count of 64 bits has one nanosecond
pub few_parts : (resolution count : ℕ) → count < 2 ^ 64 → 29 ≤ resolution → resolution < 128
    → nanoseconds_of resolution count ≡ 0
few_parts resolution count fits small ten = grind (arith, le-ltb, lt-ltb, no_parts)

-- ---- options

pub options_end : (n : ℕ) (order : ByteOrder) (rest : List ℕ) (clock reported : Clock)
    → clock_by n order rest clock ≡ reported → ends_options order rest ≡ true → clock ≡ reported
options_end n order rest clock reported is ends = grind arith

pub long_enough : (order : ByteOrder) (rest : List ℕ) → ends_options order rest ≡ false
    → 4 ≤ length rest
long_enough order rest more = grind arith

pub options_more : (n : ℕ) (order : ByteOrder) (rest later : List ℕ) (clock reported : Clock)
    → length rest ≤ n → clock_by n order rest clock ≡ reported → ends_options order rest ≡ false
    → 4 ≤ length rest → later ≡ drop (min (option_len order rest) (length rest)) rest → length later + 4 ≤ length rest
    → (m : ℕ) × (length later ≤ m) × (clock_by m order later (with_option order rest clock) ≡ reported)
options_more n order rest later clock reported few is more long here shorter =
    grind (arith, drop_min)
