-- A search by halves for the sections that end before a number.
use Rattle.std.proofs.Common.{◌≡◌, ℕ, ◌+◌, ◌-◌, ◌*◌, ◌%◌, ◌^◌, ◌<◌, ◌≤◌, Bool, true, false, List, length, get_or, ltb}
use Rattle.std.proofs.Common.{arith, refl, subst}
use Rattle.std.proofs.lemmas.Bool.{ltb-true, ltb-false}
use Rattle.std.proofs.lemmas.Nat.{pow_pos, pow_below}
use Rattle.std.proofs.lemmas.Grind.{pow_more}
use Rattle.std.specs.Int.{from_bool}
use Rattle.std.specs.List.{AllWithin}
use Rattle.etherparse.specs.declared.defrag.ip_frag_range.IpFragRange.{IpFragRange}
use Rattle.etherparse.specs.IpFragRange.{AreOrdered, EndBefore}
use Rattle.etherparse.proofs.Ordered.{up_to_index, from_offset, prefix_all, back_all}

-- so many end before the number, and none after so many more does
pub record Found (rs : List IpFragRange) (n count width : ℕ) : Type 0 where
  pub within : count + width ≤ length rs
  pub prefix : AllWithin (λ s. s.end < n) rs 0 count
  pub back : AllWithin (λ s. n ≤ s.end) rs (count + width) (length rs)

-- a first test leaves a power of two
pub first_above : (rs : List IpFragRange) (n width i count : ℕ) (d : IpFragRange) → AreOrdered rs
    → (get_or rs i d).end < n → i + 1 ≡ width → width ≤ length rs → length rs < 2 * width
    → count + width ≡ length rs → Found rs n count width
first_above rs n width i count d h test i_is within wide count_is =
    let location = up_to_index rs i n d h (omega arith) test in
    grind arith

pub first_below : (rs : List IpFragRange) (n width i count : ℕ) (d : IpFragRange)
    → AreOrdered rs → n ≤ (get_or rs i d).end → i + 1 ≡ width → width ≤ length rs → count ≡ 0
    → Found rs n count width
first_below rs n width i count d h test i_is within count_is = grind (arith, from_offset)

half_of : (rs : List IpFragRange) (n count half i : ℕ) (d : IpFragRange) (b : Bool)
    → AreOrdered rs → i + 1 ≡ count + half → 0 < half → Found rs n count (half + half)
    → ltb (get_or rs i d).end n ≡ b → Found rs n (count + from_bool b * half) half
half_of rs n count half i d b h i_is some found test =
    grind (arith, up_to_index, ltb-true, from_offset, ltb-false)

shifted_bool : (b : Bool) (half : ℕ) → half < 18446744073709551616
    → from_bool b * half % 18446744073709551616 ≡ from_bool b * half
shifted_bool b half low = grind arith

-- each test leaves half of them
pub half_found : (rs : List IpFragRange) (n count bits i r : ℕ) (d : IpFragRange)
    → AreOrdered rs → r ≡ from_bool (ltb (get_or rs i d).end n) → 0 < bits → bits < 64
    → i + 1 ≡ count + 2 ^ (bits - 1) → Found rs n count (2 ^ bits)
    → Found rs n (count + r * 2 ^ (bits - 1) % 18446744073709551616) (2 ^ (bits - 1))
half_found rs n count bits i r d h r_is some few i_is found =
    let half = 2 ^ (bits - 1) in
    let back : bits - 1 + 1 ≡ bits = omega arith in
    let twice : 2 ^ bits ≡ half + half =
    grind (arith, pow_more) in
    let found = subst (λ (w : ℕ). Found rs n count w) twice found in
    let step = half_of rs n count half i d (ltb (get_or rs i d).end n) h i_is (pow_pos (bits - 1))
    found refl in
    let low = pow_below (bits - 1) 64 (omega arith) in
    let product = shifted_bool (ltb (get_or rs i d).end n) half low in
    grind arith

-- the last test leaves none
pub last_found : (rs : List IpFragRange) (n count r : ℕ) (d : IpFragRange) (b : Bool)
    → AreOrdered rs → Found rs n count 1 → ltb (get_or rs count d).end n ≡ b → r ≡ from_bool b
    → EndBefore rs n (count + r)
last_found rs n count r d true h found test r_is =
    let within = found.within in
    let one : r ≡ 1 = r_is in
    let location = up_to_index rs count n d h (omega (arith, within)) (ltb-true _ _ test) in (
      prefix_all (λ s. s.end < n) rs (count + r) (omega (arith, within, one))
          (λ k e low high. location k e low (omega (arith, one))),
      back_all (λ s. n ≤ s.end) rs (count + r)
          (λ k e low high. found.back k e (omega (arith, one)) high),
    )
last_found rs n count r d false h found test r_is =
    let within = found.within in
    let none : r ≡ 0 = r_is in
    let location = from_offset rs count n d h (omega (arith, within)) (ltb-false _ _ test) in (
      prefix_all (λ s. s.end < n) rs (count + r) (omega (arith, within, none))
          (λ k e low high. found.prefix k e low (omega (arith, none))),
      back_all (λ s. n ≤ s.end) rs (count + r)
          (λ k e low high. location k e (omega (arith, none)) high),
    )
