-- ICMPv6 messages (RFC 4443): the table of their kinds, and the header that bytes encode.
use Rattle.std.specs.Prelude.{◌≡◌, ℕ, ◌+◌, ◌^◌, ◌<◌, ◌≤◌, ◌==◌, ◌&&◌, not, Bool, IsTrue, unwrap_or, List, [], ◌∷◌, ◌++◌}
use Rattle.std.specs.Prelude.{find, length, slice_range, drop}
use Rattle.std.specs.Int.{w32, to_be_bytes}
use Rattle.std.specs.List.{list_any}
use Rattle.ep_base.specs.Bytes.{num}
use Rattle.ep_base.specs.Sum.{checksum}
use Rattle.ep_ip.specs.Pseudo.{pseudo_v6}
use Rattle.ep_icmp.specs.Fields.{EchoFits, echo_bytes, echo_in}
use Rattle.ep_icmp.specs.Layout.{Layout, used_bytes, layout, nothing, bytes_of_layout}
use Rattle.ep_icmp.specs.declared.transport.icmpv6.dest_unreachable_code.DestUnreachableCode.{DestUnreachableCode}
use Rattle.ep_icmp.specs.declared.transport.icmpv6.dest_unreachable_code.DestUnreachableCode.TheVariants.{NoRoute}
use Rattle.ep_icmp.specs.declared.transport.icmpv6.dest_unreachable_code.DestUnreachableCode.TheVariants.{Prohibited}
use Rattle.ep_icmp.specs.declared.transport.icmpv6.dest_unreachable_code.DestUnreachableCode.TheVariants.{BeyondScope}
use Rattle.ep_icmp.specs.declared.transport.icmpv6.dest_unreachable_code.DestUnreachableCode.TheVariants.{Address, Port}
use Rattle.ep_icmp.specs.declared.transport.icmpv6.dest_unreachable_code.DestUnreachableCode.TheVariants.{SourceAddressFailedPolicy}
use Rattle.ep_icmp.specs.declared.transport.icmpv6.dest_unreachable_code.DestUnreachableCode.TheVariants.{RejectRoute}
use Rattle.ep_icmp.specs.declared.transport.icmpv6.parameter_problem_code.ParameterProblemCode.{ParameterProblemCode}
use Rattle.ep_icmp.specs.declared.transport.icmpv6.parameter_problem_code.ParameterProblemCode.TheVariants.{ErroneousHeaderField}
use Rattle.ep_icmp.specs.declared.transport.icmpv6.parameter_problem_code.ParameterProblemCode.TheVariants.{UnrecognizedNextHeader}
use Rattle.ep_icmp.specs.declared.transport.icmpv6.parameter_problem_code.ParameterProblemCode.TheVariants.{UnrecognizedIpv6Option}
use Rattle.ep_icmp.specs.declared.transport.icmpv6.parameter_problem_code.ParameterProblemCode.TheVariants.{Ipv6FirstFragmentIncompleteHeaderChain}
use Rattle.ep_icmp.specs.declared.transport.icmpv6.parameter_problem_code.ParameterProblemCode.TheVariants.{SrUpperLayerHeaderError}
use Rattle.ep_icmp.specs.declared.transport.icmpv6.parameter_problem_code.ParameterProblemCode.TheVariants.{UnrecognizedNextHeaderByIntermediateNode}
use Rattle.ep_icmp.specs.declared.transport.icmpv6.parameter_problem_code.ParameterProblemCode.TheVariants.{ExtensionHeaderTooBig}
use Rattle.ep_icmp.specs.declared.transport.icmpv6.parameter_problem_code.ParameterProblemCode.TheVariants.{ExtensionHeaderChainTooLong}
use Rattle.ep_icmp.specs.declared.transport.icmpv6.parameter_problem_code.ParameterProblemCode.TheVariants.{TooManyExtensionHeaders}
use Rattle.ep_icmp.specs.declared.transport.icmpv6.parameter_problem_code.ParameterProblemCode.TheVariants.{TooManyOptionsInExtensionHeader}
use Rattle.ep_icmp.specs.declared.transport.icmpv6.parameter_problem_code.ParameterProblemCode.TheVariants.{OptionTooBig}
use Rattle.ep_icmp.specs.declared.transport.icmpv6.time_exceeded_code.TimeExceededCode.{TimeExceededCode}
use Rattle.ep_icmp.specs.declared.transport.icmpv6.time_exceeded_code.TimeExceededCode.TheVariants.{HopLimitExceeded}
use Rattle.ep_icmp.specs.declared.transport.icmpv6.time_exceeded_code.TimeExceededCode.TheVariants.{FragmentReassemblyTimeExceeded}
use Rattle.ep_icmp.specs.declared.transport.icmpv6_header.Icmpv6Header.{Icmpv6Header}
use Rattle.ep_icmp.specs.declared.transport.icmpv6_type.Icmpv6Type.{Icmpv6Type}
use Rattle.ep_icmp.specs.declared.transport.icmpv6_type.Icmpv6Type.TheVariants.{Unknown, DestinationUnreachable}
use Rattle.ep_icmp.specs.declared.transport.icmpv6_type.Icmpv6Type.TheVariants.{PacketTooBig, TimeExceeded}
use Rattle.ep_icmp.specs.declared.transport.icmpv6_type.Icmpv6Type.TheVariants.{ParameterProblem, EchoRequest}
use Rattle.ep_icmp.specs.declared.transport.icmpv6_type.Icmpv6Type.TheVariants.{EchoReply}

-- the codes of type 1 (RFC 4443, section 3.1)
abbrev pub unreachable_code : DestUnreachableCode → ℕ
unreachable_code NoRoute = 0
unreachable_code Prohibited = 1
unreachable_code BeyondScope = 2
unreachable_code Address = 3
unreachable_code Port = 4
unreachable_code SourceAddressFailedPolicy = 5
unreachable_code RejectRoute = 6

-- the codes of type 3 (RFC 4443, section 3.3)
abbrev pub time_exceeded_code : TimeExceededCode → ℕ
time_exceeded_code HopLimitExceeded = 0
time_exceeded_code FragmentReassemblyTimeExceeded = 1

-- the codes of type 4 (RFC 4443, section 3.4; RFC 7112, section 5; RFC 8754, section 4.3.1.2; RFC
-- 8883, section 3)
abbrev pub problem_code : ParameterProblemCode → ℕ
problem_code ErroneousHeaderField = 0
problem_code UnrecognizedNextHeader = 1
problem_code UnrecognizedIpv6Option = 2
problem_code Ipv6FirstFragmentIncompleteHeaderChain = 3
problem_code SrUpperLayerHeaderError = 4
problem_code UnrecognizedNextHeaderByIntermediateNode = 5
problem_code ExtensionHeaderTooBig = 6
problem_code ExtensionHeaderChainTooLong = 7
problem_code TooManyExtensionHeaders = 8
problem_code TooManyOptionsInExtensionHeader = 9
problem_code OptionTooBig = 10

-- the table: each kind's type, code and bytes 4 to 7, counted from 0
abbrev pub layout_of : Icmpv6Type → Layout
layout_of (DestinationUnreachable code) = layout 1 (unreachable_code code) nothing
layout_of (PacketTooBig mtu) = layout 2 0 (used_bytes (to_be_bytes w32 mtu))
layout_of (TimeExceeded code) = layout 3 (time_exceeded_code code) nothing
layout_of (ParameterProblem header) =
    layout 4 (problem_code header.code) (used_bytes (to_be_bytes w32 header.pointer))
layout_of (EchoRequest echo) = layout 128 0 (used_bytes (echo_bytes echo))
layout_of (EchoReply echo) = layout 129 0 (used_bytes (echo_bytes echo))
layout_of (Unknown type_u8 code_u8 bytes5to8) = layout type_u8 code_u8 (used_bytes bytes5to8)

-- the kinds that the table names, each with the fields that a header's bytes hold
abbrev pub kinds : List ℕ → List Icmpv6Type
kinds bytes =
    DestinationUnreachable NoRoute
    ∷ DestinationUnreachable Prohibited
    ∷ DestinationUnreachable BeyondScope
    ∷ DestinationUnreachable Address
    ∷ DestinationUnreachable Port
    ∷ DestinationUnreachable SourceAddressFailedPolicy
    ∷ DestinationUnreachable RejectRoute
    ∷ PacketTooBig (num bytes 4 4)
    ∷ TimeExceeded HopLimitExceeded
    ∷ TimeExceeded FragmentReassemblyTimeExceeded
    ∷ ParameterProblem (record { code = ErroneousHeaderField; pointer = num bytes 4 4 })
    ∷ ParameterProblem (record { code = UnrecognizedNextHeader; pointer = num bytes 4 4 })
    ∷ ParameterProblem (record { code = UnrecognizedIpv6Option; pointer = num bytes 4 4 })
    ∷ ParameterProblem
    (record { code = Ipv6FirstFragmentIncompleteHeaderChain; pointer = num bytes 4 4 })
    ∷ ParameterProblem (record { code = SrUpperLayerHeaderError; pointer = num bytes 4 4 })
    ∷ ParameterProblem
    (record { code = UnrecognizedNextHeaderByIntermediateNode; pointer = num bytes 4 4 })
    ∷ ParameterProblem (record { code = ExtensionHeaderTooBig; pointer = num bytes 4 4 })
    ∷ ParameterProblem (record { code = ExtensionHeaderChainTooLong; pointer = num bytes 4 4 })
    ∷ ParameterProblem (record { code = TooManyExtensionHeaders; pointer = num bytes 4 4 })
    ∷ ParameterProblem (record { code = TooManyOptionsInExtensionHeader; pointer = num bytes 4 4 })
    ∷ ParameterProblem (record { code = OptionTooBig; pointer = num bytes 4 4 })
    ∷ EchoRequest (echo_in bytes 4)
    ∷ EchoReply (echo_in bytes 4)
    ∷ []

-- a kind has this type and code
abbrev pub has_numbers : ℕ → ℕ → Icmpv6Type → Bool
has_numbers type_u8 code_u8 kind = (layout_of kind).type_u8 == type_u8
    && ((layout_of kind).code_u8 == code_u8)

-- the table names a kind with this type and code
unfoldable pub is_listed : ℕ → ℕ → Bool
is_listed type_u8 code_u8 = list_any (has_numbers type_u8 code_u8) (kinds [])

-- the kind with this type and code, with the fields that the bytes of its header hold; one that
-- isn't listed is `Unknown` with its four bytes
unfoldable pub kind_at : ℕ → ℕ → List ℕ → Icmpv6Type
kind_at type_u8 code_u8 bytes =
    unwrap_or (find (has_numbers type_u8 code_u8) (kinds bytes))
    (Unknown type_u8 code_u8 (slice_range bytes 4 8))

abbrev pub type_of : List ℕ → Icmpv6Type
type_of bytes = kind_at (num bytes 0 1) (num bytes 1 1) bytes

-- a kind that is parsed from its own bytes: a listed one, or an `Unknown` of a type and code that
-- isn't
abbrev pub IsCanonical : Icmpv6Type → Type 0
IsCanonical (Unknown type_u8 code_u8 bytes5to8) = IsTrue (not (is_listed type_u8 code_u8))
IsCanonical _ = Unit {0}

-- the header that bytes encode
abbrev pub icmpv6_header_of : List ℕ → Icmpv6Header
icmpv6_header_of bytes = record { icmp_type = type_of bytes; checksum = num bytes 2 2 }

-- the bytes of a header
abbrev pub encoding : Icmpv6Header → List ℕ
encoding h = bytes_of_layout (layout_of h.icmp_type) h.checksum

-- the pseudo header of a message of this length: next header 58 (RFC 4443, section 2.3)
abbrev pub pseudo : List ℕ → List ℕ → ℕ → List ℕ
pseudo source destination len = pseudo_v6 source destination 58 len

-- the checksum of the message of this kind with this payload between these addresses: over a pseudo
-- header, the header with its checksum as 0, and the payload (RFC 4443, section 2.3)
abbrev pub right_checksum : List ℕ → List ℕ → Icmpv6Type → List ℕ → ℕ
right_checksum source destination kind payload =
    checksum (pseudo source destination (8 + length payload)
    ++ bytes_of_layout (layout_of kind) 0 ++ payload)

-- the header of this kind with the checksum that belongs to these addresses and this payload
abbrev pub icmpv6_with_checksum : List ℕ → List ℕ → Icmpv6Type → List ℕ → Icmpv6Header
icmpv6_with_checksum source destination kind payload =
    record { icmp_type = kind; checksum = right_checksum source destination kind payload }

-- bytes that are a message: at least 8
pub record ReadableIcmpv6 (bytes : List ℕ) : Type 0 where
  pub least : 8 ≤ length bytes

-- a message is read: its header's fields, and what follows the header
pub record IsRead (bytes : List ℕ) (h : Icmpv6Header) (rest : List ℕ) : Type 0 where
  pub message : ReadableIcmpv6 bytes
  pub fields : h ≡ icmpv6_header_of bytes
  pub after : rest ≡ drop 8 bytes

-- the ranges of the fields
abbrev pub FieldsFit : Icmpv6Type → Type 0
FieldsFit (DestinationUnreachable code) = Unit {0}
FieldsFit (PacketTooBig mtu) = mtu < 2 ^ 32
FieldsFit (TimeExceeded code) = Unit {0}
FieldsFit (ParameterProblem header) = header.pointer < 2 ^ 32
FieldsFit (EchoRequest echo) = EchoFits echo
FieldsFit (EchoReply echo) = EchoFits echo
FieldsFit (Unknown type_u8 code_u8 bytes5to8) = length bytes5to8 ≡ 4

pub record Fits (kind : Icmpv6Type) : Type 0 where
  pub type_u8 : (layout_of kind).type_u8 < 2 ^ 8
  pub code_u8 : (layout_of kind).code_u8 < 2 ^ 8
  pub fields : FieldsFit kind

pub record HeaderFits (h : Icmpv6Header) : Type 0 where
  pub kind : Fits h.icmp_type
  pub checksum : h.checksum < 2 ^ 16
