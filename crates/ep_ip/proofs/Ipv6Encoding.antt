-- The bytes of an IPv6 header against its fields.
use Rattle.std.proofs.Common.{◌≡◌, ℕ, ◌+◌, ◌*◌, ◌/◌, ◌%◌, ◌^◌, ◌<◌, List, ◌∷◌, ◌++◌, length, take, drop, arith, sym}
use Rattle.std.proofs.Common.{refl, ap, ◌∙◌, replicate}
use Rattle.std.proofs.lemmas.List.{length-append, length-drop, take_at, drop_at, take_all, append-nil}
use borrow.Rule.Slice.PartMut.{put_mid}
use Rattle.ep_base.specs.Bytes.{IsBytes}
use Rattle.ep_base.proofs.Cells.{cells, drop-cells, take-drop-cells}
use Rattle.ep_ip.specs.Ipv6.{IsIpv6Header, ipv6_header_of, encoding, Fits}
use Rattle.ep_ip.specs.declared.net.ipv6_header.Ipv6Header.{Ipv6Header}
use Rattle.ep_base.proofs.Numbers.{digits_of, four_again, high_of, low_of, two_again}

-- version, traffic class and flow label make up the first four bytes
first_word : (a b c d : ℕ) → a / 2 ^ 4 ≡ 6 → b < 256 → c < 256 → d < 256 →
    6 * 2 ^ 28 + (256 * a + b) / 2 ^ 4 % 2 ^ 8 * 2 ^ 20 +
    (256 * (256 * (256 * a + b) + c) + d) % 2 ^ 20 ≡ 256 * (256 * (256 * a + b) + c) + d
first_word a b c d version hb hc hd = omega arith

-- the two addresses are all that follows the first eight bytes
addresses : (bytes : List ℕ) → length bytes ≡ 40
    → take 16 (drop 8 bytes) ++ take 16 (drop 24 bytes) ≡ drop 8 bytes
addresses bytes len =
    rw (take-drop-cells 16 8 bytes (omega arith), drop-cells 16 8 bytes (omega arith))
    (ap (λ (xs : List ℕ). cells 16 8 bytes ++ xs)
    (take_all 16 (drop 24 bytes) (omega (arith, length-drop 24 bytes))))

-- the fields that are read from a header encode its bytes
pub encoding-ipv6_header_of : (bytes : List ℕ) → IsIpv6Header bytes → IsBytes bytes
    → encoding (ipv6_header_of bytes) ≡ bytes
encoding-ipv6_header_of bytes header fits =
    grind (arith, first_word, digits_of, high_of, low_of, addresses, drop-cells)

-- the bytes that fields encode are a header
pub IsIpv6Header-encoding : (h : Ipv6Header) → Fits h → IsIpv6Header (encoding h)
IsIpv6Header-encoding h fits = record {
  version = omega (arith, fits.traffic_class, fits.flow_label);
  whole = omega (arith, fits.source, fits.destination, length-append h.source h.destination);
}

class_of : (tc label : ℕ) → tc < 2 ^ 8 → label < 2 ^ 20 →
    (256 * ((6 * 2 ^ 28 + tc * 2 ^ 20 + label) / 2 ^ 24 % 256) +
    (6 * 2 ^ 28 + tc * 2 ^ 20 + label) / 2 ^ 16 % 256) / 2 ^ 4 % 2 ^ 8 ≡ tc
class_of tc label h k = omega arith

label_of : (tc label : ℕ) → tc < 2 ^ 8 → label < 2 ^ 20
    → (6 * 2 ^ 28 + tc * 2 ^ 20 + label) % 2 ^ 20 ≡ label
label_of tc label h k = omega arith

-- the fields are read again
pub ipv6_header_of-encoding : (h : Ipv6Header) → Fits h → ipv6_header_of (encoding h) ≡ h
ipv6_header_of-encoding h fits =
    let traffic_class = class_of h.traffic_class h.flow_label fits.traffic_class fits.flow_label in
    let again = four_again (6 * 2 ^ 28 + h.traffic_class * 2 ^ 20 + h.flow_label)
    (omega (arith, fits.traffic_class, fits.flow_label)) in
    let flow_label = ap (λ (n : ℕ). n % 2 ^ 20) again
    ∙ label_of h.traffic_class h.flow_label fits.traffic_class fits.flow_label in
    let payload_length = two_again h.payload_length fits.payload_length in
    let source : take 16 (h.source ++ h.destination) ≡ h.source =
    take_at h.source h.destination 16 fits.source in
    let destination : take 16 (drop 16 (h.source ++ h.destination)) ≡ h.destination =
    rw (drop_at h.source h.destination 16 fits.source)
    (take_all 16 h.destination (omega (arith, fits.destination))) in
    grind arith

-- equal fields are equal bytes, and the other way round
pub same_fields : (a b : List ℕ) → IsIpv6Header a → IsBytes a → IsIpv6Header b → IsBytes b
    → ipv6_header_of a ≡ ipv6_header_of b → a ≡ b
same_fields a b ha fa hb fb e = sym (encoding-ipv6_header_of a ha fa) ∙ ap encoding e
    ∙ encoding-ipv6_header_of b hb fb

-- what the code makes of forty zero bytes
pub put_addresses : (a b c d e f g h : ℕ) (source destination : List ℕ) → length source ≡ 16
    → length destination ≡ 16 →
    put_mid 24 16 (put_mid 8 16 (a ∷ b ∷ c ∷ d ∷ e ∷ f ∷ g ∷ h ∷ replicate 32 0) source) destination
    ≡ a ∷ b ∷ c ∷ d ∷ e ∷ f ∷ g ∷ h ∷ (source ++ destination)
put_addresses a b c d e f g h source destination m n =
    rw (take_at source (replicate 16 0) 16 m, drop_at source (replicate 16 0) 16 m, append-nil) refl
