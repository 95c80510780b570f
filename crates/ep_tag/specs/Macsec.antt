-- The MACsec header (IEEE 802.1AE, clause 9) and the payload after it.
use Rattle.std.specs.Prelude.{◌≡◌, ◌≤◌, ◌<◌, ℕ, ◌+◌, ◌-◌, ◌%◌, ◌^◌, ◌&&◌, ◌==◌, not, Bool, false, if◌then◌else◌, List}
use Rattle.std.specs.Prelude.{[], ◌∷◌, ◌++◌, length, slice_index, slice_set, Option, Some, None, is_some, ⊤}
use Rattle.std.specs.Int.{w16, w32, w64, bit_at, to_be_bytes}
use Rattle.ep_base.specs.Bytes.{flag, num}
use Rattle.ep_base.specs.declared.link.ether_type.EtherType.{EtherType}
use Rattle.ep_tag.specs.declared.link.macsec_header.MacsecHeader.{MacsecHeader}
use Rattle.ep_tag.specs.declared.link.macsec_p_type.MacsecPType.{MacsecPType}
use Rattle.ep_tag.specs.declared.link.macsec_p_type.MacsecPType.TheVariants as ptype
use Rattle.ep_tag.specs.Ether.{ether_type_at}
use Rattle.ep_tag.specs.MacsecLen.{short_len_for}
use Rattle.ep_base.specs.Prefixes.{IsReadAs}

-- bit k of the first byte, the lowest being bit 0: from bit 7 down the version, and ES, SC, SCB, E and C
abbrev pub bit_of : List ℕ → ℕ → Bool
bit_of header k = bit_at (num header 0 1) k == 1

-- the version, one bit: 0 is the only one
abbrev pub version_of : List ℕ → Bool
version_of header = bit_of header 7

-- the sender is an end station, named by its address
abbrev pub endstation_id_of : List ℕ → Bool
endstation_id_of header = bit_of header 6

-- a secure channel identifier follows the packet number
abbrev pub has_sci : List ℕ → Bool
has_sci header = bit_of header 5

-- the channel is a single copy broadcast
abbrev pub scb_of : List ℕ → Bool
scb_of header = bit_of header 4

-- the payload is encrypted
abbrev pub is_encrypted : List ℕ → Bool
is_encrypted header = bit_of header 3

-- the payload is not what was given to MACsec: it was encrypted, or its length changed
abbrev pub is_changed : List ℕ → Bool
is_changed header = bit_of header 2

-- neither encrypted nor changed: an ether type ends the header, and what it names follows
abbrev pub is_unmodified : List ℕ → Bool
is_unmodified header = not (is_encrypted header) && not (is_changed header)

-- the association number, the lower 2 bits of the first byte
abbrev pub an_of : List ℕ → ℕ
an_of header = num header 0 1 % 2 ^ 2

-- the short length, the lower 6 bits of the second byte: how many bytes the header protects, the
-- ether type of an unmodified payload among them, or 0 where it doesn't say
abbrev pub short_len_of : List ℕ → ℕ
short_len_of header = num header 1 1 % 2 ^ 6

abbrev pub packet_nr_of : List ℕ → ℕ
packet_nr_of header = num header 2 4

-- the secure channel identifier, where it is there
abbrev pub sci_of : List ℕ → Option ℕ
sci_of header = if has_sci header then Some (num header 6 8) else None

-- how many bytes the secure channel identifier takes
abbrev pub sci_len : List ℕ → ℕ
sci_len header = if has_sci header then 8 else 0

-- how many bytes the ether type takes
abbrev pub type_len : List ℕ → ℕ
type_len header = if is_unmodified header then 2 else 0

-- the header's length, as its first byte says
abbrev pub header_len_of : List ℕ → ℕ
header_len_of header = 6 + sci_len header + type_len header

-- the ether type of an unmodified payload: the last two bytes
abbrev pub ether_type_of : List ℕ → EtherType
ether_type_of header = ether_type_at header (6 + sci_len header)

-- the ether type, where it is there
abbrev pub next_type_of : List ℕ → Option EtherType
next_type_of header = if is_unmodified header then Some (ether_type_of header) else None

-- what the payload is, by the two bits for encrypted and changed
abbrev pub ptype_of : List ℕ → MacsecPType
ptype_of header =
    if is_encrypted header then (if is_changed header then ptype.Encrypted
    else ptype.EncryptedUnmodified)
    else (if is_changed header then ptype.Modified
    else ptype.Unmodified (ether_type_of header))

-- an ether type is to follow, and the short length has no room for it
abbrev pub has_no_room : List ℕ → Bool
has_no_room header = is_unmodified header && (short_len_of header == 1)

-- version 0, room for the ether type, and as many bytes as the first one says
pub record IsMacsecHeader (header : List ℕ) : Type 0 where
  pub least : 6 ≤ length header
  pub version : version_of header ≡ false
  pub room : has_no_room header ≡ false
  pub whole : length header ≡ header_len_of header

-- the fields that a header's bytes encode
abbrev pub macsec_header_of : List ℕ → MacsecHeader
macsec_header_of header = record {
  ptype = ptype_of header;
  endstation_id = endstation_id_of header;
  scb = scb_of header;
  an = an_of header;
  short_len = short_len_of header;
  packet_nr = packet_nr_of header;
  sci = sci_of header;
}

-- the bits for encrypted and changed, each with its weight
abbrev pub ptype_bits : MacsecPType → ℕ
ptype_bits (ptype.Unmodified t) = 0
ptype_bits ptype.Modified = 2 ^ 2
ptype_bits ptype.Encrypted = 2 ^ 3 + 2 ^ 2
ptype_bits ptype.EncryptedUnmodified = 2 ^ 3

abbrev pub ptype_encoding : MacsecPType → List ℕ
ptype_encoding (ptype.Unmodified t) = to_be_bytes w16 t.0
ptype_encoding ptype.Modified = []
ptype_encoding ptype.Encrypted = []
ptype_encoding ptype.EncryptedUnmodified = []

abbrev pub sci_encoding : Option ℕ → List ℕ
sci_encoding (Some sci) = to_be_bytes w64 sci
sci_encoding None = []

abbrev pub first_byte : MacsecHeader → ℕ
first_byte h =
    flag h.endstation_id (2 ^ 6) + flag (is_some h.sci) (2 ^ 5) + flag h.scb
    (2 ^ 4) + ptype_bits h.ptype + h.an

-- the bytes of a header; the two bits before the short length are unused and 0
abbrev pub encoding : MacsecHeader → List ℕ
encoding h = first_byte h ∷ h.short_len ∷
    (to_be_bytes w32 h.packet_nr ++ sci_encoding h.sci ++ ptype_encoding h.ptype)

-- the bytes with the two unused bits as 0
abbrev pub with_unused_bits_zero : List ℕ → List ℕ
with_unused_bits_zero header = slice_set header 1 (slice_index header 1 % 2 ^ 6)

-- the bytes are a header with these fields, which encode it again but for the unused bits, and
-- the rest
abbrev pub IsRead : List ℕ → MacsecHeader → List ℕ → Type 0
IsRead = IsReadAs IsMacsecHeader macsec_header_of encoding with_unused_bits_zero

-- the fields leave room for the ether type: an unmodified payload has no short length of 1
abbrev pub HasRoom : MacsecHeader → Type 0
HasRoom h = has_no_room (encoding h) ≡ false

-- the ranges of the fields
abbrev pub SciFits : Option ℕ → Type 0
SciFits (Some sci) = sci < 2 ^ 64
SciFits None = ⊤

abbrev pub TypeFits : MacsecPType → Type 0
TypeFits (ptype.Unmodified t) = t.0 < 2 ^ 16
TypeFits ptype.Modified = ⊤
TypeFits ptype.Encrypted = ⊤
TypeFits ptype.EncryptedUnmodified = ⊤

pub record Fits (h : MacsecHeader) : Type 0 where
  pub an : h.an ≤ 3
  pub short_len : h.short_len ≤ 63
  pub packet_nr : h.packet_nr < 2 ^ 32
  pub sci : SciFits h.sci
  pub ether_type : TypeFits h.ptype

-- the ether type of what follows a header of this kind
abbrev pub next_type_in : MacsecPType → Option EtherType
next_type_in (ptype.Unmodified t) = Some t
next_type_in ptype.Modified = None
next_type_in ptype.Encrypted = None
next_type_in ptype.EncryptedUnmodified = None

-- how many bytes a short length above 0 leaves for the payload: none where it has no room for the
-- ether type
abbrev pub payload_len_in : MacsecPType → ℕ → Option ℕ
payload_len_in (ptype.Unmodified t) n = if n == 1 then None else Some (n - 2)
payload_len_in ptype.Modified n = Some n
payload_len_in ptype.Encrypted n = Some n
payload_len_in ptype.EncryptedUnmodified n = Some n

-- how many bytes a header protects before a payload of so many
abbrev pub protected_len : MacsecPType → ℕ → ℕ
protected_len (ptype.Unmodified t) payload_len = payload_len + 2
protected_len ptype.Modified payload_len = payload_len
protected_len ptype.Encrypted payload_len = payload_len
protected_len ptype.EncryptedUnmodified payload_len = payload_len

-- the header with the short length of a payload of so many bytes
abbrev pub with_payload_len : MacsecHeader → ℕ → MacsecHeader
with_payload_len h payload_len =
    record h { short_len = short_len_for (protected_len h.ptype payload_len) }
