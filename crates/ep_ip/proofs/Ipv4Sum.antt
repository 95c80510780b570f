-- The sum of a header's words, and the checksum in it.
use Rattle.std.proofs.Common.{◌≡◌, ℕ, suc, ◌+◌, ◌-◌, ◌%◌, ◌^◌, ◌<◌, true, IsTrue, not, ◌&&◌, eqb, ◌⊎◌, arith, ap}
use Rattle.std.proofs.Common.{◌↔◌}
use Rattle.std.proofs.lemmas.Bool.{ne_eqb}
use Rattle.ep_base.specs.Sum.{total, fold, all_ones}
use Rattle.ep_ip.specs.Ipv4.{encoding}
use Rattle.ep_ip.specs.Ipv4Checksum.{right_checksum, HasRightChecksum}
use Rattle.ep_ip.specs.declared.net.ipv4_header.Ipv4Header.{Ipv4Header}
use Rattle.ep_base.proofs.Numbers.{both_hold}

-- the checksum is one word of the sum
total-encoding : (h : Ipv4Header) → h.header_checksum < 2 ^ 16 →
    total (encoding h) ≡ total (encoding (record h { header_checksum = 0 })) + h.header_checksum
unfolding total
total-encoding h fits = omega arith

-- the first byte is not 0
positive : (n : ℕ) → 0 < n → (m : ℕ) × (n ≡ suc m)
positive n h = (n - 1, omega arith)

encoding_not_zero : (h : Ipv4Header) → (n : ℕ) × (total (encoding h) ≡ suc n)
unfolding total
encoding_not_zero h = positive (total (encoding h)) (omega arith)

not_zero : (n : ℕ) → 0 < n → not (eqb n 0) ≡ true
not_zero n h = ap not (ne_eqb n 0 (λ e. omega arith))

-- a text's sum without the checksum, and with it
all_ones_where : (t m n c : ℕ) → t ≡ suc n + c → m ≡ suc n → c < 2 ^ 16 →
    IsTrue (not (eqb t 0) && eqb (t % 65535) 0)
    ↔ ((c ≡ 65535 - fold m) ⊎ ((65535 - fold m ≡ 0) × (c ≡ 65535)))
unfolding fold
all_ones_where t m n c sum rest fits = grind arith

pub all_ones-encoding : (h : Ipv4Header) → h.header_checksum < 2 ^ 16
    → IsTrue (all_ones (encoding h)) ↔ HasRightChecksum h
all_ones-encoding h fits =
    let without = encoding_not_zero (record h { header_checksum = 0 }) in
    all_ones_where (total (encoding h)) (total (encoding (record h { header_checksum = 0 })))
    without.0 h.header_checksum
    (rw (← without.1) (total-encoding h fits)) without.1 fits

below_all : (m n : ℕ) → m ≡ suc n → 65535 - fold m < 65535
unfolding fold
below_all m n e = rw e (omega arith)

pub right_checksum_below : (h : Ipv4Header) → right_checksum h < 65535
right_checksum_below h =
    let without = encoding_not_zero (record h { header_checksum = 0 }) in
    below_all (total (encoding (record h { header_checksum = 0 }))) without.0 without.1
