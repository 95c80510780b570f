-- The bytes of a header against its fields.
use Rattle.std.proofs.Common.{◌≡◌, ℕ, ◌+◌, ◌*◌, ◌/◌, ◌%◌, ◌^◌, ◌<◌, Bool, cond, eqb, List, ◌++◌, length, take, drop}
use Rattle.std.proofs.Common.{arith, ◌↔◌}
use Rattle.std.proofs.lemmas.List.{length-append, length-drop, append_assoc, take_at, drop_at}
use Rattle.ep_base.specs.Bytes.{IsBytes}
use Rattle.ep_base.specs.IpEcn.{ecn_of, ecn_number}
use Rattle.ep_base.proofs.Cells.{drop-cells, take-drop-cells}
use Rattle.ep_ip.specs.Ipv4.{IsIpv4Header, ipv4_header_of, encoding, with_reserved_bit_zero, Fits}
use Rattle.ep_ip.specs.declared.net.ipv4_header.Ipv4Header.{Ipv4Header}
use Rattle.ep_base.proofs.Numbers.{high_of, low_of, two_again}
use Rattle.ep_ip.proofs.Ecn.{ecn_of-number, ecn_number_below, number-ecn_of}

-- the flags and the offset without the reserved bit
flags_are : (high low : ℕ) → high < 256 → low < 256 →
    cond (eqb (high / 2 ^ 6 % 2) 1) (2 ^ 14) 0 + cond (eqb (high / 2 ^ 5 % 2) 1) (2 ^ 13) 0 +
    (256 * high + low) % 2 ^ 13 ≡ 256 * (high % 2 ^ 7) + low
flags_are high low h l = grind arith

-- the fields that are read from a header encode its bytes, with the reserved bit as 0
pub encoding-ipv4_header_of : (bytes : List ℕ) → IsIpv4Header bytes → IsBytes bytes
    → encoding (ipv4_header_of bytes) ≡ with_reserved_bit_zero bytes
encoding-ipv4_header_of bytes header fits =
    grind (
      arith,
      length-drop,
      number-ecn_of,
      high_of,
      low_of,
      flags_are,
      take-drop-cells,
      drop-cells,
    )

-- the bytes that fields encode are a header
pub IsIpv4Header-encoding : (h : Ipv4Header) → Fits h → IsIpv4Header (encoding h)
IsIpv4Header-encoding h fits = record {
  version = omega (arith, fits.options.fits);
  minimum = omega (arith, fits.options.fits);
  whole = grind (arith, length-append);
}

dont_fragment_of : (d m : Bool) (offset : ℕ) → offset < 2 ^ 13
    → eqb ((cond d (2 ^ 14) 0 + cond m (2 ^ 13) 0 + offset) / 256 % 256 / 2 ^ 6 % 2) 1 ≡ d
dont_fragment_of d m n h = grind arith

more_fragments_of : (d m : Bool) (offset : ℕ) → offset < 2 ^ 13
    → eqb ((cond d (2 ^ 14) 0 + cond m (2 ^ 13) 0 + offset) / 256 % 256 / 2 ^ 5 % 2) 1 ≡ m
more_fragments_of d m n h = grind arith

offset_of : (d m : Bool) (offset : ℕ) → offset < 2 ^ 13 →
    (256 * ((cond d (2 ^ 14) 0 + cond m (2 ^ 13) 0 + offset) / 256 % 256) +
    (cond d (2 ^ 14) 0 + cond m (2 ^ 13) 0 + offset) % 256) % 2 ^ 13 ≡ offset
offset_of d m n h = grind arith

-- the fields are read again
pub ipv4_header_of-encoding : (h : Ipv4Header) → Fits h → ipv4_header_of (encoding h) ≡ h
ipv4_header_of-encoding h fits =
    let ecn_below = ecn_number_below h.ecn in
    let ecn_bits : (4 * h.dscp + ecn_number h.ecn) % 4 ≡ ecn_number h.ecn = omega arith in
    let dscp : (4 * h.dscp + ecn_number h.ecn) / 4 ≡ h.dscp = omega arith in
    let ecn : ecn_of ((4 * h.dscp + ecn_number h.ecn) % 4) ≡ h.ecn =
    rw ecn_bits (ecn_of-number h.ecn) in
    let total_len = two_again h.total_len fits.total_len in
    let identification = two_again h.identification fits.identification in
    let dont_fragment = dont_fragment_of h.dont_fragment h.more_fragments h.fragment_offset
    fits.fragment_offset in
    let more_fragments = more_fragments_of h.dont_fragment h.more_fragments h.fragment_offset
    fits.fragment_offset in
    let fragment_offset = offset_of h.dont_fragment h.more_fragments h.fragment_offset
    fits.fragment_offset in
    let header_checksum = two_again h.header_checksum fits.header_checksum in
    let source : take 4 ((h.source ++ h.destination) ++ h.options) ≡ h.source =
    rw append_assoc (take_at h.source (h.destination ++ h.options) 4 fits.source) in
    let destination : take 4 (drop 4 ((h.source ++ h.destination) ++ h.options)) ≡ h.destination =
    rw (append_assoc, drop_at h.source (h.destination ++ h.options) 4 fits.source)
    (take_at h.destination h.options 4 fits.destination) in
    let both : length (h.source ++ h.destination) ≡ 8 =
    omega (arith, length-append h.source h.destination, fits.source, fits.destination) in
    let options = drop_at (h.source ++ h.destination) h.options 8 both in
    grind arith

-- the reserved bit is not read
pub ipv4_header_of-with_reserved_bit_zero : (bytes : List ℕ) → IsIpv4Header bytes → IsBytes bytes
    → ipv4_header_of (with_reserved_bit_zero bytes) ≡ ipv4_header_of bytes
ipv4_header_of-with_reserved_bit_zero bytes header fits = grind arith

-- equal fields are equal bytes but for the reserved bit, and the other way round
pub same_fields : (a b : List ℕ) → IsIpv4Header a → IsBytes a → IsIpv4Header b → IsBytes b →
    (ipv4_header_of a ≡ ipv4_header_of b) ↔ (with_reserved_bit_zero a ≡ with_reserved_bit_zero b)
same_fields a b ha fa hb fb =
    grind (arith, encoding-ipv4_header_of, ipv4_header_of-with_reserved_bit_zero)
