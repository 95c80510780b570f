-- ICMPv4 messages (RFC 792): the table of their kinds, and the header that bytes encode.
use Rattle.std.specs.Prelude.{◌≡◌, ℕ, ◌^◌, ◌<◌, ◌≤◌, ◌==◌, ◌&&◌, ◌||◌, not, Bool, IsTrue, Option, Some, None, unwrap_or}
use Rattle.std.specs.Prelude.{List, [], ◌∷◌, ◌++◌, find, length, slice_range, drop}
use Rattle.std.specs.Int.{w16, to_be_bytes}
use Rattle.std.specs.List.{list_any}
use Rattle.ep_base.specs.Bytes.{num}
use Rattle.ep_base.specs.Sum.{checksum}
use Rattle.ep_icmp.specs.Fields.{EchoFits, TimestampFits, echo_bytes, echo_in, timestamp_bytes, timestamp_in}
use Rattle.ep_icmp.specs.Layout.{Layout, Fields, used_bytes, layout, nothing, bytes_of_layout}
use Rattle.ep_icmp.specs.declared.transport.icmpv4.dest_unreachable_header.DestUnreachableHeader.{DestUnreachableHeader}
use Rattle.ep_icmp.specs.declared.transport.icmpv4.dest_unreachable_header.DestUnreachableHeader.TheVariants.{Network}
use Rattle.ep_icmp.specs.declared.transport.icmpv4.dest_unreachable_header.DestUnreachableHeader.TheVariants.{Host}
use Rattle.ep_icmp.specs.declared.transport.icmpv4.dest_unreachable_header.DestUnreachableHeader.TheVariants.{Protocol}
use Rattle.ep_icmp.specs.declared.transport.icmpv4.dest_unreachable_header.DestUnreachableHeader.TheVariants.{Port}
use Rattle.ep_icmp.specs.declared.transport.icmpv4.dest_unreachable_header.DestUnreachableHeader.TheVariants.{FragmentationNeeded}
use Rattle.ep_icmp.specs.declared.transport.icmpv4.dest_unreachable_header.DestUnreachableHeader.TheVariants.{SourceRouteFailed}
use Rattle.ep_icmp.specs.declared.transport.icmpv4.dest_unreachable_header.DestUnreachableHeader.TheVariants.{NetworkUnknown}
use Rattle.ep_icmp.specs.declared.transport.icmpv4.dest_unreachable_header.DestUnreachableHeader.TheVariants.{HostUnknown}
use Rattle.ep_icmp.specs.declared.transport.icmpv4.dest_unreachable_header.DestUnreachableHeader.TheVariants.{Isolated}
use Rattle.ep_icmp.specs.declared.transport.icmpv4.dest_unreachable_header.DestUnreachableHeader.TheVariants.{NetworkProhibited}
use Rattle.ep_icmp.specs.declared.transport.icmpv4.dest_unreachable_header.DestUnreachableHeader.TheVariants.{HostProhibited}
use Rattle.ep_icmp.specs.declared.transport.icmpv4.dest_unreachable_header.DestUnreachableHeader.TheVariants.{TosNetwork}
use Rattle.ep_icmp.specs.declared.transport.icmpv4.dest_unreachable_header.DestUnreachableHeader.TheVariants.{TosHost}
use Rattle.ep_icmp.specs.declared.transport.icmpv4.dest_unreachable_header.DestUnreachableHeader.TheVariants.{FilterProhibited}
use Rattle.ep_icmp.specs.declared.transport.icmpv4.dest_unreachable_header.DestUnreachableHeader.TheVariants.{HostPrecedenceViolation}
use Rattle.ep_icmp.specs.declared.transport.icmpv4.dest_unreachable_header.DestUnreachableHeader.TheVariants.{PrecedenceCutoff}
use Rattle.ep_icmp.specs.declared.transport.icmpv4.parameter_problem_header.ParameterProblemHeader.{ParameterProblemHeader}
use Rattle.ep_icmp.specs.declared.transport.icmpv4.parameter_problem_header.ParameterProblemHeader.TheVariants.{PointerIndicatesError}
use Rattle.ep_icmp.specs.declared.transport.icmpv4.parameter_problem_header.ParameterProblemHeader.TheVariants.{MissingRequiredOption}
use Rattle.ep_icmp.specs.declared.transport.icmpv4.parameter_problem_header.ParameterProblemHeader.TheVariants.{BadLength}
use Rattle.ep_icmp.specs.declared.transport.icmpv4.redirect_code.RedirectCode.{RedirectCode}
use Rattle.ep_icmp.specs.declared.transport.icmpv4.redirect_code.RedirectCode.TheVariants.{RedirectForNetwork}
use Rattle.ep_icmp.specs.declared.transport.icmpv4.redirect_code.RedirectCode.TheVariants.{RedirectForHost}
use Rattle.ep_icmp.specs.declared.transport.icmpv4.redirect_code.RedirectCode.TheVariants.{RedirectForTypeOfServiceAndNetwork}
use Rattle.ep_icmp.specs.declared.transport.icmpv4.redirect_code.RedirectCode.TheVariants.{RedirectForTypeOfServiceAndHost}
use Rattle.ep_icmp.specs.declared.transport.icmpv4.time_exceeded_code.TimeExceededCode.{TimeExceededCode}
use Rattle.ep_icmp.specs.declared.transport.icmpv4.time_exceeded_code.TimeExceededCode.TheVariants.{TtlExceededInTransit}
use Rattle.ep_icmp.specs.declared.transport.icmpv4.time_exceeded_code.TimeExceededCode.TheVariants.{FragmentReassemblyTimeExceeded}
use Rattle.ep_icmp.specs.declared.transport.icmpv4.timestamp_message.TimestampMessage.{TimestampMessage}
use Rattle.ep_icmp.specs.declared.transport.icmpv4_header.Icmpv4Header.{Icmpv4Header}
use Rattle.ep_icmp.specs.declared.transport.icmpv4_type.Icmpv4Type.{Icmpv4Type}
use Rattle.ep_icmp.specs.declared.transport.icmpv4_type.Icmpv4Type.TheVariants.{Unknown, EchoReply}
use Rattle.ep_icmp.specs.declared.transport.icmpv4_type.Icmpv4Type.TheVariants.{DestinationUnreachable, Redirect}
use Rattle.ep_icmp.specs.declared.transport.icmpv4_type.Icmpv4Type.TheVariants.{EchoRequest, TimeExceeded}
use Rattle.ep_icmp.specs.declared.transport.icmpv4_type.Icmpv4Type.TheVariants.{ParameterProblem, TimestampRequest}
use Rattle.ep_icmp.specs.declared.transport.icmpv4_type.Icmpv4Type.TheVariants.{TimestampReply}

-- the codes of type 3 (RFC 792; RFC 1122, section 3.2.2.1; RFC 1812, section 5.2.7.1)
abbrev pub unreachable_code : DestUnreachableHeader → ℕ
unreachable_code Network = 0
unreachable_code Host = 1
unreachable_code Protocol = 2
unreachable_code Port = 3
unreachable_code (FragmentationNeeded next_hop_mtu) = 4
unreachable_code SourceRouteFailed = 5
unreachable_code NetworkUnknown = 6
unreachable_code HostUnknown = 7
unreachable_code Isolated = 8
unreachable_code NetworkProhibited = 9
unreachable_code HostProhibited = 10
unreachable_code TosNetwork = 11
unreachable_code TosHost = 12
unreachable_code FilterProhibited = 13
unreachable_code HostPrecedenceViolation = 14
unreachable_code PrecedenceCutoff = 15

-- code 4 has the length in bytes 6 and 7, counted from 0 (RFC 1191, section 4)
abbrev pub unreachable_fields : DestUnreachableHeader → Fields
unreachable_fields (FragmentationNeeded next_hop_mtu) =
    record { before = 2; field = to_be_bytes w16 next_hop_mtu; after = 0 }
unreachable_fields _ = nothing

-- the codes of type 5
abbrev pub redirect_code : RedirectCode → ℕ
redirect_code RedirectForNetwork = 0
redirect_code RedirectForHost = 1
redirect_code RedirectForTypeOfServiceAndNetwork = 2
redirect_code RedirectForTypeOfServiceAndHost = 3

-- the codes of type 11
abbrev pub time_exceeded_code : TimeExceededCode → ℕ
time_exceeded_code TtlExceededInTransit = 0
time_exceeded_code FragmentReassemblyTimeExceeded = 1

-- the codes of type 12 (RFC 792; RFC 1122, section 3.2.2.5)
abbrev pub problem_code : ParameterProblemHeader → ℕ
problem_code (PointerIndicatesError pointer) = 0
problem_code MissingRequiredOption = 1
problem_code BadLength = 2

-- code 0 has the offset of the fault in byte 4, counted from 0
abbrev pub problem_fields : ParameterProblemHeader → Fields
problem_fields (PointerIndicatesError pointer) =
    record { before = 0; field = pointer ∷ []; after = 3 }
problem_fields _ = nothing

-- the table: each kind's type, code and bytes from byte 4 on, counted from 0
abbrev pub layout_of : Icmpv4Type → Layout
layout_of (EchoReply echo) = layout 0 0 (used_bytes (echo_bytes echo))
layout_of (DestinationUnreachable header) =
    layout 3 (unreachable_code header) (unreachable_fields header)
layout_of (Redirect header) = layout 5 (redirect_code header.code)
    (used_bytes header.gateway_internet_address)
layout_of (EchoRequest echo) = layout 8 0 (used_bytes (echo_bytes echo))
layout_of (TimeExceeded code) = layout 11 (time_exceeded_code code) nothing
layout_of (ParameterProblem header) = layout 12 (problem_code header) (problem_fields header)
layout_of (TimestampRequest message) = layout 13 0 (used_bytes (timestamp_bytes message))
layout_of (TimestampReply message) = layout 14 0 (used_bytes (timestamp_bytes message))
layout_of (Unknown type_u8 code_u8 bytes5to8) = layout type_u8 code_u8 (used_bytes bytes5to8)

-- the length of a kind's header
abbrev pub header_len : Icmpv4Type → ℕ
header_len (TimestampRequest message) = 20
header_len (TimestampReply message) = 20
header_len _ = 8

-- the timestamp message of a kind that has one
abbrev pub timestamp_of : Icmpv4Type → Option TimestampMessage
timestamp_of (TimestampRequest message) = Some message
timestamp_of (TimestampReply message) = Some message
timestamp_of _ = None

-- the length of what follows, where the kind fixes it: a timestamp message is its header alone
abbrev pub fixed_payload_size : Icmpv4Type → Option ℕ
fixed_payload_size (TimestampRequest message) = Some 0
fixed_payload_size (TimestampReply message) = Some 0
fixed_payload_size _ = None

-- bytes that may follow a header of this kind
abbrev pub IsPayload : Icmpv4Type → List ℕ → Type 0
IsPayload kind bytes = (n : ℕ) → fixed_payload_size kind ≡ Some n → length bytes ≡ n

-- the kinds that the table names, each with the fields that a header's bytes hold
abbrev pub kinds : List ℕ → List Icmpv4Type
kinds bytes =
    EchoReply (echo_in bytes 4)
    ∷ DestinationUnreachable Network
    ∷ DestinationUnreachable Host
    ∷ DestinationUnreachable Protocol
    ∷ DestinationUnreachable Port
    ∷ DestinationUnreachable (FragmentationNeeded (num bytes 6 2))
    ∷ DestinationUnreachable SourceRouteFailed
    ∷ DestinationUnreachable NetworkUnknown
    ∷ DestinationUnreachable HostUnknown
    ∷ DestinationUnreachable Isolated
    ∷ DestinationUnreachable NetworkProhibited
    ∷ DestinationUnreachable HostProhibited
    ∷ DestinationUnreachable TosNetwork
    ∷ DestinationUnreachable TosHost
    ∷ DestinationUnreachable FilterProhibited
    ∷ DestinationUnreachable HostPrecedenceViolation
    ∷ DestinationUnreachable PrecedenceCutoff
    ∷ Redirect (record
    { code = RedirectForNetwork; gateway_internet_address = slice_range bytes 4 8 })
    ∷ Redirect (record { code = RedirectForHost; gateway_internet_address = slice_range bytes 4 8 })
    ∷ Redirect (record {
      code = RedirectForTypeOfServiceAndNetwork;
      gateway_internet_address = slice_range bytes 4 8;
    })
    ∷ Redirect (record {
      code = RedirectForTypeOfServiceAndHost;
      gateway_internet_address = slice_range bytes 4 8;
    })
    ∷ EchoRequest (echo_in bytes 4)
    ∷ TimeExceeded TtlExceededInTransit
    ∷ TimeExceeded FragmentReassemblyTimeExceeded
    ∷ ParameterProblem (PointerIndicatesError (num bytes 4 1))
    ∷ ParameterProblem MissingRequiredOption
    ∷ ParameterProblem BadLength
    ∷ TimestampRequest (timestamp_in bytes 4)
    ∷ TimestampReply (timestamp_in bytes 4)
    ∷ []

-- a kind has this type and code
abbrev pub has_numbers : ℕ → ℕ → Icmpv4Type → Bool
has_numbers type_u8 code_u8 kind = (layout_of kind).type_u8 == type_u8
    && ((layout_of kind).code_u8 == code_u8)

-- the table names a kind with this type and code
unfoldable pub is_listed : ℕ → ℕ → Bool
is_listed type_u8 code_u8 = list_any (has_numbers type_u8 code_u8) (kinds [])

-- the kind with this type and code, with the fields that the bytes of its header hold; one that
-- isn't listed is `Unknown` with its four bytes
unfoldable pub kind_at : ℕ → ℕ → List ℕ → Icmpv4Type
kind_at type_u8 code_u8 bytes =
    unwrap_or (find (has_numbers type_u8 code_u8) (kinds bytes))
    (Unknown type_u8 code_u8 (slice_range bytes 4 8))

abbrev pub type_of : List ℕ → Icmpv4Type
type_of bytes = kind_at (num bytes 0 1) (num bytes 1 1) bytes

-- a kind that is parsed from its own bytes: a listed one, or an `Unknown` of a type and code that
-- isn't
abbrev pub IsCanonical : Icmpv4Type → Type 0
IsCanonical (Unknown type_u8 code_u8 bytes5to8) = IsTrue (not (is_listed type_u8 code_u8))
IsCanonical _ = Unit {0}

-- code 4 names this length
abbrev pub HasNextHopMtu : DestUnreachableHeader → ℕ → Type 0
HasNextHopMtu (FragmentationNeeded next_hop_mtu) n = next_hop_mtu ≡ n
HasNextHopMtu _ n = Unit {0}

-- code 0 names this offset
abbrev pub HasPointer : ParameterProblemHeader → ℕ → Type 0
HasPointer (PointerIndicatesError pointer) n = pointer ≡ n
HasPointer _ n = Unit {0}

-- the header that bytes encode
abbrev pub icmpv4_header_of : List ℕ → Icmpv4Header
icmpv4_header_of bytes = record { icmp_type = type_of bytes; checksum = num bytes 2 2 }

-- the bytes of a header
abbrev pub encoding : Icmpv4Header → List ℕ
encoding h = bytes_of_layout (layout_of h.icmp_type) h.checksum

-- the checksum of the message of this kind with this payload: over the header with its checksum as
-- 0, and the payload (RFC 792; there is no pseudo header)
abbrev pub right_checksum : Icmpv4Type → List ℕ → ℕ
right_checksum kind payload = checksum (bytes_of_layout (layout_of kind) 0 ++ payload)

-- type and code are those of a timestamp request, and those of its reply (RFC 792, "Timestamp or
-- Timestamp Reply Message")
abbrev pub is_timestamp_request : List ℕ → Bool
is_timestamp_request bytes = num bytes 0 1 == 13 && (num bytes 1 1 == 0)

abbrev pub is_timestamp_reply : List ℕ → Bool
is_timestamp_reply bytes = num bytes 0 1 == 14 && (num bytes 1 1 == 0)

abbrev pub is_timestamp : List ℕ → Bool
is_timestamp bytes = is_timestamp_request bytes || is_timestamp_reply bytes

-- bytes that are a message: at least 8, and of a timestamp message, which is its header alone, 20
pub record ReadableIcmpv4 (bytes : List ℕ) : Type 0 where
  pub least : 8 ≤ length bytes
  pub timestamp : IsTrue (is_timestamp bytes) → length bytes ≡ 20

-- the ranges of the fields
abbrev pub UnreachableFits : DestUnreachableHeader → Type 0
UnreachableFits (FragmentationNeeded next_hop_mtu) = next_hop_mtu < 2 ^ 16
UnreachableFits _ = Unit {0}

abbrev pub ProblemFits : ParameterProblemHeader → Type 0
ProblemFits (PointerIndicatesError pointer) = pointer < 2 ^ 8
ProblemFits _ = Unit {0}

abbrev pub FieldsFit : Icmpv4Type → Type 0
FieldsFit (EchoReply echo) = EchoFits echo
FieldsFit (DestinationUnreachable header) = UnreachableFits header
FieldsFit (Redirect header) = length header.gateway_internet_address ≡ 4
FieldsFit (EchoRequest echo) = EchoFits echo
FieldsFit (TimeExceeded code) = Unit {0}
FieldsFit (ParameterProblem header) = ProblemFits header
FieldsFit (TimestampRequest message) = TimestampFits message
FieldsFit (TimestampReply message) = TimestampFits message
FieldsFit (Unknown type_u8 code_u8 bytes5to8) = length bytes5to8 ≡ 4

pub record Fits (kind : Icmpv4Type) : Type 0 where
  pub type_u8 : (layout_of kind).type_u8 < 2 ^ 8
  pub code_u8 : (layout_of kind).code_u8 < 2 ^ 8
  pub fields : FieldsFit kind

-- a message is read: its header's fields, and what follows the header
pub record IsRead (bytes : List ℕ) (h : Icmpv4Header) (rest : List ℕ) : Type 0 where
  pub message : ReadableIcmpv4 bytes
  pub fields : h ≡ icmpv4_header_of bytes
  pub after : rest ≡ drop (header_len h.icmp_type) bytes

-- the header of this kind with the checksum that belongs to this payload
abbrev pub icmpv4_with_checksum : Icmpv4Type → List ℕ → Icmpv4Header
icmpv4_with_checksum kind payload = record {
  icmp_type = kind;
  checksum = right_checksum kind
      payload;
}

pub record HeaderFits (h : Icmpv4Header) : Type 0 where
  pub kind : Fits h.icmp_type
  pub checksum : h.checksum < 2 ^ 16
