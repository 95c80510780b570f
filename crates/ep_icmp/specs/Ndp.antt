-- Messages of neighbor discovery for IPv6 (RFC 4861, section 4): which bytes they are, and the
-- fields that bytes encode.
use Rattle.std.specs.Prelude.{◌≡◌, ℕ, ◌+◌, ◌*◌, ◌/◌, ◌%◌, ◌^◌, ◌<◌, ◌≤◌, ◌==◌, ◌&&◌, nat_lt, nat_le, Bool, List, ◌∷◌, ◌++◌}
use Rattle.std.specs.Prelude.{length, slice_range, drop, replicate, if◌then◌else◌}
use Rattle.std.specs.Prelude.{Option, Some, None, Result, Ok, Err}
use Rattle.std.specs.Int.{w16, w32, to_be_bytes}
use Rattle.ep_base.specs.Bytes.{num, flag}
use Rattle.ep_base.specs.LenError.{too_few_bytes}
use Rattle.ep_base.specs.Prefixes.{IsReadAs}
use Rattle.ep_base.specs.declared.err.layer.Layer.TheVariants.{Icmpv6}
use Rattle.ep_base.specs.declared.err.len_error.LenError.{LenError}
use Rattle.ep_icmp.specs.declared.transport.icmpv6.ndp.ndp_header.NdpHeader.{NdpHeader}
use Rattle.ep_icmp.specs.declared.transport.icmpv6.ndp.ndp_message.NdpMessage.{NdpMessage}
use Rattle.ep_icmp.specs.declared.transport.icmpv6.ndp.ndp_message.NdpMessage.TheVariants.{RouterSolicitation}
use Rattle.ep_icmp.specs.declared.transport.icmpv6.ndp.ndp_message.NdpMessage.TheVariants.{RouterAdvertisement}
use Rattle.ep_icmp.specs.declared.transport.icmpv6.ndp.ndp_message.NdpMessage.TheVariants.{NeighborSolicitation}
use Rattle.ep_icmp.specs.declared.transport.icmpv6.ndp.ndp_message.NdpMessage.TheVariants.{NeighborAdvertisement}
use Rattle.ep_icmp.specs.declared.transport.icmpv6.ndp.ndp_message.NdpMessage.TheVariants.{Redirect}

-- the types
abbrev pub type_u8 : NdpMessage → ℕ
type_u8 RouterSolicitation = 133
type_u8 (RouterAdvertisement hop managed other lifetime reachable retrans) = 134
type_u8 (NeighborSolicitation target) = 135
type_u8 (NeighborAdvertisement router solicited overrides target) = 136
type_u8 (Redirect target destination) = 137

abbrev pub is_ndp_type : ℕ → Bool
is_ndp_type t = nat_le 133 t && nat_le t 137

-- how many bytes a message of this type has before its options
abbrev pub len_of_type : ℕ → ℕ
len_of_type t = if t == 133 then 8 else (
    if t == 134 then 16 else (
    if t == 135 then 24 else (
    if t == 136 then 24 else 40)))

abbrev pub header_len : NdpMessage → ℕ
header_len message = len_of_type (type_u8 message)

-- the fields of a message, from byte 4 on, counted from 0; reserved bits are 0
abbrev pub fields_bytes : NdpMessage → List ℕ
fields_bytes RouterSolicitation = replicate 4 0
fields_bytes (RouterAdvertisement hop managed other lifetime reachable retrans) =
    hop ∷ (flag managed 128 + flag other 64) ∷ to_be_bytes w16 lifetime
    ++ to_be_bytes w32 reachable ++ to_be_bytes w32 retrans
fields_bytes (NeighborSolicitation target) = replicate 4 0 ++ target
fields_bytes (NeighborAdvertisement router solicited overrides target) =
    (flag router 128 + flag solicited 64 + flag overrides 32) ∷ replicate 3 0 ++ target
fields_bytes (Redirect target destination) = replicate 4 0 ++ target ++ destination

-- the bytes of a header: type, code 0, checksum, fields
abbrev pub encoding : NdpHeader → List ℕ
encoding h = type_u8 h.message ∷ 0 ∷ to_be_bytes w16 h.checksum ++ fields_bytes h.message

-- a bit of byte p
abbrev pub bit_of : List ℕ → ℕ → ℕ → Bool
bit_of bytes p i = num bytes p 1 / 2 ^ i % 2 == 1

-- the message of this type that the bytes encode
abbrev pub message_of_type : ℕ → List ℕ → NdpMessage
message_of_type t bytes =
    if t == 133 then RouterSolicitation else (
    if t == 134 then RouterAdvertisement (num bytes 4 1) (bit_of bytes 5 7) (bit_of bytes 5 6)
    (num bytes 6 2) (num bytes 8 4) (num bytes 12 4) else (
    if t == 135 then NeighborSolicitation (slice_range bytes 8 24) else (
    if t == 136 then NeighborAdvertisement (bit_of bytes 4 7) (bit_of bytes 4 6)
    (bit_of bytes 4 5) (slice_range bytes 8 24) else
    Redirect (slice_range bytes 8 24) (slice_range bytes 24 40))))

abbrev pub message_of : List ℕ → NdpMessage
message_of bytes = message_of_type (num bytes 0 1) bytes

abbrev pub ndp_header_of : List ℕ → NdpHeader
ndp_header_of bytes = record { message = message_of bytes; checksum = num bytes 2 2 }

-- the type is one of neighbor discovery
pub record IsNdpType (bytes : List ℕ) : Type 0 where
  pub first : 133 ≤ num bytes 0 1
  pub last : num bytes 0 1 ≤ 137

-- the bytes are such a message up to its options
pub record IsNdpHeader (bytes : List ℕ) : Type 0 where
  pub type : IsNdpType bytes
  pub whole : length bytes ≡ len_of_type (num bytes 0 1)

-- the bytes are such a message, with its options
pub record IsNdp (bytes : List ℕ) : Type 0 where
  pub type : IsNdpType bytes
  pub least : len_of_type (num bytes 0 1) ≤ length bytes

-- what follows the header
abbrev pub options_bytes_of : List ℕ → List ℕ
options_bytes_of bytes = drop (len_of_type (num bytes 0 1)) bytes

-- the message that the bytes are; none where the type is another, and else perhaps too few bytes
abbrev pub message_at : List ℕ → Option (Result (List ℕ) LenError)
message_at bytes = if is_ndp_type (num bytes 0 1) then
    Some (if nat_lt (length bytes) (len_of_type (num bytes 0 1))
    then Err (too_few_bytes Icmpv6 (len_of_type (num bytes 0 1)) (length bytes)) else Ok bytes)
    else None

-- the bytes of a header with the code and the reserved bits as 0: in router advertisements 6 bits
-- after two flags, in neighbor advertisements 29 after three, in other messages 32
abbrev pub reserved_zero : ℕ → List ℕ → List ℕ
reserved_zero t bytes =
    if t == 134 then num bytes 4 1 ∷ (num bytes 5 1 / 64 * 64) ∷ drop 6 bytes else (
    if t == 136 then (num bytes 4 1 / 32 * 32) ∷ 0 ∷ 0 ∷ 0 ∷ drop 8 bytes else
    0 ∷ 0 ∷ 0 ∷ 0 ∷ drop 8 bytes)

abbrev pub with_reserved_bits_zero : List ℕ → List ℕ
with_reserved_bits_zero bytes = num bytes 0 1 ∷ 0 ∷ num bytes 2 1 ∷ num bytes 3 1 ∷
    reserved_zero (num bytes 0 1) bytes

-- the header h is read at the start of the bytes, and rest follows it
abbrev pub IsRead : List ℕ → NdpHeader → List ℕ → Type 0
IsRead = IsReadAs IsNdpHeader ndp_header_of encoding with_reserved_bits_zero

-- the ranges of the fields
abbrev pub FieldsFit : NdpMessage → Type 0
FieldsFit RouterSolicitation = Unit {0}
FieldsFit (RouterAdvertisement hop managed other lifetime reachable retrans) =
    (hop < 2 ^ 8) × (lifetime < 2 ^ 16) × (reachable < 2 ^ 32) × (retrans < 2 ^ 32)
FieldsFit (NeighborSolicitation target) = length target ≡ 16
FieldsFit (NeighborAdvertisement router solicited overrides target) = length target ≡ 16
FieldsFit (Redirect target destination) = (length target ≡ 16) × (length destination ≡ 16)

pub record Fits (h : NdpHeader) : Type 0 where
  pub fields : FieldsFit h.message
  pub checksum : h.checksum < 2 ^ 16
