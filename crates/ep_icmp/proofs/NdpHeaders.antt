-- The header of a message of neighbor discovery, in bytes and back.
use Rattle.std.proofs.Common.{◌≡◌, ℕ, zero, suc, ◌+◌, ◌-◌, ◌*◌, ◌/◌, ◌%◌, ◌^◌, ◌<◌, ◌≤◌, Bool, eqb, List, ◌∷◌, ◌++◌}
use Rattle.std.proofs.Common.{length, take, drop, slice_range, Some, Ok, subst, refl, sym, ap, ◌∙◌, arith}
use Rattle.std.proofs.lemmas.Bool.Decides.{nat_tests}
use Rattle.std.proofs.lemmas.List.{get_or_append_left, get_or-take, length-take-le, take-append-drop, drop_at}
use Rattle.std.proofs.lemmas.List.{length-append, append-nil, drop_all, take_at, take_all, length-drop, take-append-le}
use Rattle.std.proofs.lemmas.List.{drop-append-le}
use Rattle.std.proofs.lemmas.List.Folds.{drop_split}
use Rattle.std.specs.Int.{w16, w32, to_be_bytes}
use Rattle.ep_base.specs.Bytes.{IsBytes, num, flag}
use Rattle.ep_base.proofs.Prefixes.{prefix_fits}
use Rattle.ep_base.proofs.Cells.{cells, drop-cells}
use Rattle.ep_base.proofs.Numbers.{two_again, four_again, digits_of, high_of, low_of}
use Rattle.ep_icmp.specs.Ndp.{FieldsFit, Fits, IsNdp, IsNdpHeader, IsRead, encoding, fields_bytes, len_of_type}
use Rattle.ep_icmp.specs.Ndp.{message_at, message_of, message_of_type, ndp_header_of, options_bytes_of, reserved_zero}
use Rattle.ep_icmp.specs.Ndp.{type_u8, with_reserved_bits_zero}
use Rattle.ep_icmp.specs.declared.transport.icmpv6.ndp.ndp_header.NdpHeader.{NdpHeader}
use Rattle.ep_icmp.specs.declared.transport.icmpv6.ndp.ndp_message.NdpMessage.{NdpMessage}
use Rattle.ep_icmp.specs.declared.transport.icmpv6.ndp.ndp_message.NdpMessage.TheVariants.{RouterSolicitation}
use Rattle.ep_icmp.specs.declared.transport.icmpv6.ndp.ndp_message.NdpMessage.TheVariants.{RouterAdvertisement}
use Rattle.ep_icmp.specs.declared.transport.icmpv6.ndp.ndp_message.NdpMessage.TheVariants.{NeighborSolicitation}
use Rattle.ep_icmp.specs.declared.transport.icmpv6.ndp.ndp_message.NdpMessage.TheVariants.{NeighborAdvertisement}
use Rattle.ep_icmp.specs.declared.transport.icmpv6.ndp.ndp_message.NdpMessage.TheVariants.{Redirect}
use Rattle.ep_base.proofs.Bits.{flag_worth}

-- ---- the fields that were encoded are read again

pub two_flags : (a b : Bool) → let n = flag a 128 + flag b 64 in
    (eqb (n / 2 ^ 7 % 2) 1 ≡ a) × (eqb (n / 2 ^ 6 % 2) 1 ≡ b)
two_flags a b = grind arith

three_flags : (a b c : Bool) → let n = flag a 128 + flag b 64 + flag c 32 in
    (eqb (n / 2 ^ 7 % 2) 1 ≡ a) × (eqb (n / 2 ^ 6 % 2) 1 ≡ b) × (eqb (n / 2 ^ 5 % 2) 1 ≡ c)
three_flags a b c = grind arith

message_again : (m : NdpMessage) (checksum : ℕ) → FieldsFit m
    → message_of (encoding (record { message = m; checksum = checksum })) ≡ m
message_again RouterSolicitation checksum fits = refl
message_again (RouterAdvertisement hop managed other lifetime reachable retrans) checksum fits =
    grind (arith, two_flags managed other, two_again lifetime, four_again reachable, four_again retrans)
message_again (NeighborSolicitation target) checksum fits =
    rw (take_all 16 target (omega (arith, fits))) refl
message_again (NeighborAdvertisement router solicited overrides target) checksum fits =
    let flags = three_flags router solicited overrides in
    rw (take_all 16 target (omega (arith, fits)), flags.0, flags.1, flags.2) refl
message_again (Redirect target destination) checksum fits = rw (
  take_at target destination 16 fits.0,
  drop_at target destination 16 fits.0,
  take_all 16 destination (omega (arith, fits.1)),
) refl

pub header_again : (h : NdpHeader) → Fits h → ndp_header_of (encoding h) ≡ h
header_again h fits = grind (arith, message_again h.message h.checksum, two_again)

pub header_is : (h : NdpHeader) → Fits h → IsNdpHeader (encoding h)
header_is h fits = grind (arith, length-append)

-- ---- a header and what follows it

num-append : (n p : ℕ) (xs ys : List ℕ) → p + n ≤ length xs → num (xs ++ ys) p n ≡ num xs p n
num-append zero p xs ys h = refl
num-append (suc zero) p xs ys h = get_or_append_left xs ys 0 p (omega arith)
num-append (suc (suc n)) p xs ys h =
    rw (num-append (suc n) p xs ys (omega arith), get_or_append_left xs ys 0 (p + suc n) (omega arith)) refl

range-append : (a b : ℕ) (xs ys : List ℕ) → a ≤ b → b ≤ length xs
    → slice_range (xs ++ ys) a b ≡ slice_range xs a b
range-append a b xs ys h k =
    rw (drop-append-le a xs ys (omega arith))
    (take-append-le (b - a) (drop a xs) ys (omega (arith, length-drop a xs)))

-- what holds of each type
by_offset : (P : ℕ → Type 0) → P 133 → P 134 → P 135 → P 136 → P 137
    → (k : ℕ) → k < 5 → P (133 + k)
by_offset P a b c d e zero h = a
by_offset P a b c d e (suc zero) h = b
by_offset P a b c d e (suc (suc zero)) h = c
by_offset P a b c d e (suc (suc (suc zero))) h = d
by_offset P a b c d e (suc (suc (suc (suc zero)))) h = e
by_offset P a b c d e (suc (suc (suc (suc (suc k))))) h = absurd (omega arith)

by_type : (P : ℕ → Type 0) → P 133 → P 134 → P 135 → P 136 → P 137
    → (t : ℕ) → 133 ≤ t → t ≤ 137 → P t
by_type P a b c d e t first last =
    let same : 133 + (t - 133) ≡ t = omega arith in
    subst P same (by_offset P a b c d e (t - 133) (omega arith))

Firsts : List ℕ → List ℕ → ℕ → Type 0
Firsts prefix rest t = length prefix ≡ len_of_type t
    → message_of_type t (prefix ++ rest) ≡ message_of_type t prefix

firsts : (prefix rest : List ℕ) (t : ℕ) → 133 ≤ t → t ≤ 137 → Firsts prefix rest t
unfolding Firsts
firsts prefix rest =
    by_type (Firsts prefix rest) (λ whole. refl)
    (λ whole. rw (
      num-append 1 4 prefix rest (omega (arith, whole)),
      num-append 1 5 prefix rest (omega (arith, whole)),
      num-append 2 6 prefix rest (omega (arith, whole)),
      num-append 4 8 prefix rest (omega (arith, whole)),
      num-append 4 12 prefix rest (omega (arith, whole)),
    ) refl)
    (λ whole. rw (range-append 8 24 prefix rest (omega arith) (omega (arith, whole))) refl)
    (λ whole. rw (
      num-append 1 4 prefix rest (omega (arith, whole)),
      range-append 8 24 prefix rest (omega arith) (omega (arith, whole)),
    ) refl)
    (λ whole. rw (
      range-append 8 24 prefix rest (omega arith) (omega (arith, whole)),
      range-append 24 40 prefix rest (omega arith) (omega (arith, whole)),
    ) refl)

-- each type has 8 bytes or more
least_len : (t : ℕ) → 8 ≤ len_of_type t
least_len t = grind (arith, nat_tests)

message_first : (prefix rest : List ℕ) → IsNdpHeader prefix
    → message_of (prefix ++ rest) ≡ message_of prefix
unfolding Firsts
message_first prefix rest is =
    rw (num-append 1 0 prefix rest (omega (arith, least_len (num prefix 0 1), is.whole)))
    (firsts prefix rest (num prefix 0 1) is.type.first is.type.last is.whole)

pub header_first : (prefix rest : List ℕ) → IsNdpHeader prefix
    → ndp_header_of (prefix ++ rest) ≡ ndp_header_of prefix
header_first prefix rest is = rw (
  message_first prefix rest is,
  num-append 2 2 prefix rest (omega (arith, least_len (num prefix 0 1), is.whole)),
) refl

pub prefix_is : (bytes : List ℕ) → IsNdp bytes → IsNdpHeader (take (len_of_type (num bytes 0 1)) bytes)
prefix_is bytes is = grind (arith, get_or-take, length-take-le)

-- ---- what is read from bytes is encoded as them

half_is : (p : ℕ) (bytes : List ℕ) → IsBytes bytes
    → to_be_bytes w16 (num bytes p 2) ≡ cells 2 p bytes
half_is p bytes fits = grind (arith, fits p, fits (p + 1), high_of, low_of)

word_is : (p : ℕ) (bytes : List ℕ) → IsBytes bytes
    → to_be_bytes w32 (num bytes p 4) ≡ cells 4 p bytes
word_is p bytes fits =
    let d = digits_of (num bytes p 1) (num bytes (p + 1) 1) (num bytes (p + 2) 1) (num bytes (p + 3) 1)
    (fits p) (fits (p + 1)) (fits (p + 2)) (fits (p + 3)) in
    grind arith

two_worth : (n : ℕ) → n < 256
    → flag (eqb (n / 2 ^ 7 % 2) 1) 128 + flag (eqb (n / 2 ^ 6 % 2) 1) 64 ≡ n / 64 * 64
two_worth n h = grind (arith, flag_worth)

three_worth : (n : ℕ) → n < 256
    → flag (eqb (n / 2 ^ 7 % 2) 1) 128 + flag (eqb (n / 2 ^ 6 % 2) 1) 64
    + flag (eqb (n / 2 ^ 5 % 2) 1) 32 ≡ n / 32 * 32
three_worth n h = grind (arith, flag_worth)

times_are : (bytes : List ℕ) → IsBytes bytes → length bytes ≡ 16
    → to_be_bytes w16 (num bytes 6 2) ++ to_be_bytes w32 (num bytes 8 4)
    ++ to_be_bytes w32 (num bytes 12 4) ≡ drop 6 bytes
times_are bytes fits whole =
    let rest = drop-cells 10 6 bytes (omega arith) in
    let none = drop_all 16 bytes (omega arith) in
    grind (arith, half_is, word_is, append-nil)

Encoded : List ℕ → ℕ → Type 0
Encoded bytes t = length bytes ≡ len_of_type t
    → fields_bytes (message_of_type t bytes) ≡ reserved_zero t bytes

target_is : (bytes : List ℕ) → length bytes ≡ 24 → slice_range bytes 8 24 ≡ drop 8 bytes
target_is bytes whole = take_all 16 (drop 8 bytes) (omega (arith, length-drop 8 bytes))

addresses_are : (bytes : List ℕ) → length bytes ≡ 40
    → slice_range bytes 8 24 ++ slice_range bytes 24 40 ≡ drop 8 bytes
addresses_are bytes whole =
    rw (take_all 16 (drop 24 bytes) (omega (arith, length-drop 24 bytes)))
    (sym (drop_split bytes 8 24 (omega arith)))

fields_are : (bytes : List ℕ) → IsBytes bytes → (t : ℕ) → 133 ≤ t → t ≤ 137 → Encoded bytes t
unfolding Encoded
fields_are bytes fits =
    by_type (Encoded bytes)
    (λ whole. rw (drop_all 8 bytes (omega (arith, whole))) refl)
    (λ whole. rw (two_worth (num bytes 5 1) (fits 5), times_are bytes fits whole) refl)
    (λ whole. rw (target_is bytes whole) refl)
    (λ whole. rw (three_worth (num bytes 4 1) (fits 4), target_is bytes whole) refl)
    (λ whole. rw (addresses_are bytes whole) refl)

type_is : (t : ℕ) (bytes : List ℕ) → 133 ≤ t → t ≤ 137 → type_u8 (message_of_type t bytes) ≡ t
type_is t bytes first last =
    by_type (λ t. type_u8 (message_of_type t bytes) ≡ t) refl refl refl refl refl t first last

pub encoding_is : (bytes : List ℕ) → IsNdpHeader bytes → IsBytes bytes
    → encoding (ndp_header_of bytes) ≡ with_reserved_bits_zero bytes
unfolding Encoded
encoding_is bytes is fits =
    let type = type_is (num bytes 0 1) bytes is.type.first is.type.last in
    let half = half_is 2 bytes fits in
    let fields = fields_are bytes fits (num bytes 0 1) is.type.first is.type.last is.whole in
    λ i. type i ∷ 0 ∷ (half i ++ fields i)

-- ---- a message is read

pub found_at : (bytes message : List ℕ) → message_at bytes ≡ Some (Ok message)
    → IsNdp message × (message ≡ bytes)
found_at bytes message is = grind (arith, nat_tests)

pub read_at : (bytes : List ℕ) → IsNdp bytes → IsBytes bytes
    → IsRead bytes (ndp_header_of bytes) (options_bytes_of bytes)
read_at bytes is fits =
    let n = len_of_type (num bytes 0 1) in
    let parts = take-append-drop n bytes in
    let header = prefix_is bytes is in
    let same : ndp_header_of bytes ≡ ndp_header_of (take n bytes) =
    ap ndp_header_of (sym parts) ∙ header_first (take n bytes) (drop n bytes) header in
    record {
      prefix = take n bytes;
      header = header;
      position = sym parts;
      fields = same;
      again = ap encoding same
          ∙ encoding_is (take n bytes) header
          (prefix_fits bytes (take n bytes) (drop n bytes) (sym parts) fits);
    }

pub only_at : (bytes prefix rest : List ℕ) → IsNdpHeader prefix → bytes ≡ prefix ++ rest
    → (ndp_header_of bytes ≡ ndp_header_of prefix) × (options_bytes_of bytes ≡ rest)
only_at bytes prefix rest is parts =
    let type = num-append 1 0 prefix rest (omega (arith, least_len (num prefix 0 1), is.whole)) in (
      rw parts (header_first prefix rest is),
      rw (parts, type) (drop_at prefix rest _ is.whole),
    )

-- a header with what follows it is a message
pub message_with : (prefix rest : List ℕ) → IsNdpHeader prefix → IsNdp (prefix ++ rest)
message_with prefix rest is =
    let type = num-append 1 0 prefix rest (omega (arith, least_len (num prefix 0 1), is.whole)) in
    record {
      type = record {
        first = rw type is.type.first;
        last = rw type is.type.last;
      };
      least = rw type (omega (arith, length-append prefix rest, is.whole));
    }
