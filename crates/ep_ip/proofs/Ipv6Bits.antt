-- The bits of an IPv6 header that share bytes, as quotients and remainders.
use Rattle.std.proofs.Common.{◌≡◌, ℕ, ◌+◌, ◌*◌, ◌/◌, ◌%◌, ◌^◌, ◌<◌, ◌≤◌, bit_and, bit_or, arith, ◌∙◌}
use Rattle.std.proofs.lemmas.Nat.{and_mask, or_shifted}
use Rattle.ep_base.specs.IpEcn.{ecn_number}
use Rattle.ep_base.specs.declared.net.ip_ecn.IpEcn.{IpEcn}
use Rattle.ep_ip.specs.Ipv6.{dscp_in, ecn_in}
use Rattle.ep_ip.proofs.Ecn.{ecn_of-number, ecn_number_below, number-ecn_of}

pub and-1048575 : (n : ℕ) → bit_and n 1048575 ≡ n % 2 ^ 20
and-1048575 n = and_mask n 20

-- the lower half of a byte before the upper half of the next one
pub or-halves : (a b : ℕ) → b < 256 → bit_or (a * 16 % 256) (b / 16) ≡ (256 * a + b) / 2 ^ 4 % 2 ^ 8
or-halves a b h =
    let high : a * 16 % 256 ≡ a % 16 * 2 ^ 4 = omega arith in
    rw high (or_shifted (a % 16) 4 (b / 16) (omega arith) ∙ omega arith)

pub ruleset shared_bits = (and-1048575, or-halves)

or-shared_byte : (dscp n : ℕ) → dscp ≤ 63 → n < 4 → bit_or (dscp * 4 % 256) n ≡ 4 * dscp + n
or-shared_byte dscp n most small =
    let high : dscp * 4 % 256 ≡ dscp * 2 ^ 2 = omega arith in
    rw high (or_shifted dscp 2 n small ∙ omega arith)

-- what a code point and a notification make up has both
pub dscp_in-or : (dscp : ℕ) (ecn : IpEcn) → dscp ≤ 63
    → dscp_in (bit_or (dscp * 4 % 256) (ecn_number ecn)) ≡ dscp
dscp_in-or dscp ecn most = grind (arith, ecn_number_below, or-shared_byte)

pub ecn_in-or : (dscp : ℕ) (ecn : IpEcn) → dscp ≤ 63
    → ecn_in (bit_or (dscp * 4 % 256) (ecn_number ecn)) ≡ ecn
ecn_in-or dscp ecn most = grind (arith, ecn_number_below, or-shared_byte, ecn_of-number)

-- version, traffic class and flow label, each in its bits
pub or-first_word : (class label : ℕ) → class < 2 ^ 8 → label < 2 ^ 20 →
    bit_or (bit_or (6 * 2 ^ 28) (class * 2 ^ 20 % 2 ^ 32)) label
    ≡ 6 * 2 ^ 28 + class * 2 ^ 20 + label
or-first_word class label h k =
    let fits : class * 2 ^ 20 % 2 ^ 32 ≡ class * 2 ^ 20 = omega arith in
    let above : 6 * 2 ^ 28 + class * 2 ^ 20 ≡ (6 * 2 ^ 8 + class) * 2 ^ 20 = omega arith in
    rw (fits, or_shifted 6 28 (class * 2 ^ 20) (omega arith), above)
    (or_shifted (6 * 2 ^ 8 + class) 20 label k)

pub two_parts : (traffic_class : ℕ)
    → 4 * dscp_in traffic_class + ecn_number (ecn_in traffic_class) ≡ traffic_class
two_parts traffic_class = rw (number-ecn_of (traffic_class % 4) (omega arith)) (omega arith)
