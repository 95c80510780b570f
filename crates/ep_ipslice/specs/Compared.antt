-- Views as lists of numbers, by which they are compared.
use Rattle.std.specs.Prelude.{ℕ, Bool, true, false, List, [], ◌+◌, ◌∷◌, ◌++◌, Option, Some, None}
use Rattle.std.specs.Hash as fed
use Rattle.ep_base.specs.LenSource.{source_index}
use Rattle.ep_base.specs.declared.net.ip_number.IpNumber.{IpNumber}
use Rattle.ep_ipslice.specs.Ipv6Exts.{Ipv6Exts}
use Rattle.ep_ipslice.specs.Ipv6Walk.{HeadersLeft}
use Rattle.ep_ipslice.specs.declared.net.lax_ip_payload_slice.LaxIpPayloadSlice.{LaxIpPayloadSlice}
use Rattle.ep_ipslice.specs.Packet.{IpPayload}

abbrev pub bool_index : Bool → ℕ
bool_index false = 0
bool_index true = 1

-- no number, or one above 0
abbrev pub number_index : Option IpNumber → ℕ
number_index None = 0
number_index (Some number) = 1 + number.0

-- no bytes, or 1 and those of the header
abbrev pub auth_code : Option (List ℕ) → List ℕ
auth_code None = []
auth_code (Some auth) = 1 ∷ auth

-- first number, flag and bytes
abbrev pub compared_as : Ipv6Exts → List ℕ
compared_as exts = number_index exts.first_header ∷ bool_index exts.fragmented ∷ exts.slice

-- number and bytes
abbrev pub left_as : HeadersLeft → List ℕ
left_as left = left.next_header ∷ left.rest

-- number, flag, source of the length and bytes, in this order
abbrev pub ordered_as : IpPayload → List ℕ
ordered_as p = p.ip_number.0 ∷ bool_index p.fragmented ∷ source_index p.len_source ∷ p.payload

-- what a hasher is fed
abbrev pub hashed_as : IpPayload → fed.HashWrites
hashed_as p = fed.u8 p.ip_number.0 ++ fed.u8 (bool_index p.fragmented)
    ++ fed.u8 (source_index p.len_source) ++ fed.slice fed.u8 p.payload

-- the fields of a payload that may have been cut off: whether it was, and those of a payload
abbrev pub lax_value : LaxIpPayloadSlice → Bool × IpPayload
lax_value p = (
  p.incomplete,
  record {
    ip_number = p.ip_number;
    fragmented = p.fragmented;
    len_source = p.len_source;
    payload = p.payload.now;
  },
)

-- whether bytes are missing, and then as a payload
abbrev pub lax_ordered_as : Bool × IpPayload → List ℕ
lax_ordered_as p = bool_index p.0 ∷ ordered_as p.1
