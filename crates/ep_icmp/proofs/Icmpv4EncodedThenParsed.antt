-- A kind of ICMPv4 message is parsed again from the bytes that encode it.
use Rattle.std.proofs.Common.{◌≡◌, sym, refl, ℕ, ◌+◌, ◌/◌, ◌%◌, ◌≤◌, List, ◌∷◌, ◌++◌, length, arith, Some}
use Rattle.ep_base.specs.Bytes.{num}
use Rattle.ep_icmp.specs.Icmpv4.{FieldsFit, HasNextHopMtu, HeaderFits, HasPointer, IsPayload, IsCanonical}
use Rattle.ep_icmp.specs.Icmpv4.{ReadableIcmpv4, UnreachableFits, fixed_payload_size, header_len, icmpv4_header_of}
use Rattle.ep_icmp.specs.Icmpv4.{is_listed, layout_of, problem_code, problem_fields, redirect_code, encoding, type_of}
use Rattle.ep_icmp.specs.Icmpv4.{unreachable_code, unreachable_fields}
use Rattle.ep_icmp.specs.Layout.{bytes_of_layout, bytes_of_fields}
use Rattle.ep_icmp.specs.declared.transport.icmpv4_header.Icmpv4Header.{Icmpv4Header}
use Rattle.ep_icmp.proofs.FieldsEncodedThenParsed.{bytes_again, echo_again, timestamp_again}
use Rattle.ep_icmp.proofs.Outcomes.{not_true}
use Rattle.ep_icmp.proofs.Icmpv4Kinds.{StandsIn, header_len_at, kind_is}
use Rattle.ep_icmp.specs.declared.transport.icmpv4.dest_unreachable_header.DestUnreachableHeader.{DestUnreachableHeader}
use Rattle.ep_icmp.specs.declared.transport.icmpv4.dest_unreachable_header.DestUnreachableHeader.TheVariants.{FragmentationNeeded}
use Rattle.ep_icmp.specs.declared.transport.icmpv4.parameter_problem_header.ParameterProblemHeader.{ParameterProblemHeader}
use Rattle.ep_icmp.specs.declared.transport.icmpv4.parameter_problem_header.ParameterProblemHeader.TheVariants.{PointerIndicatesError}
use Rattle.ep_icmp.specs.declared.transport.icmpv4_type.Icmpv4Type.{Icmpv4Type}
use Rattle.ep_icmp.specs.declared.transport.icmpv4_type.Icmpv4Type.TheVariants.{Unknown, EchoReply}
use Rattle.ep_icmp.specs.declared.transport.icmpv4_type.Icmpv4Type.TheVariants.{DestinationUnreachable, Redirect}
use Rattle.ep_icmp.specs.declared.transport.icmpv4_type.Icmpv4Type.TheVariants.{EchoRequest, ParameterProblem}
use Rattle.ep_icmp.specs.declared.transport.icmpv4_type.Icmpv4Type.TheVariants.{TimestampRequest, TimestampReply}
use Rattle.ep_base.proofs.Numbers.{two_again}

mtu_again : (header : DestUnreachableHeader) (a b c d : ℕ) (rest : List ℕ) → UnreachableFits header
    → HasNextHopMtu header (num (a ∷ b ∷ c ∷ d ∷ (bytes_of_fields (unreachable_fields header)
    ++ rest)) 6 2)
mtu_again (FragmentationNeeded n) a b c d rest fits = sym (two_again n fits)
mtu_again _ a b c d rest fits = tt

pointer_again : (header : ParameterProblemHeader) (a b c d : ℕ) (rest : List ℕ)
    → HasPointer header (num (a ∷ b ∷ c ∷ d ∷ (bytes_of_fields (problem_fields header) ++ rest)) 4
    1)
pointer_again (PointerIndicatesError n) a b c d rest = refl
pointer_again _ a b c d rest = tt

-- the bytes that encode the fields hold them
stands_again : (kind : Icmpv4Type) (checksum : ℕ) (rest : List ℕ)
    → FieldsFit kind → IsCanonical kind
    → StandsIn (bytes_of_layout (layout_of kind) checksum ++ rest) kind
stands_again (EchoReply echo) checksum rest fits out =
    sym (echo_again echo 0 0 (checksum / 256 % 256) (checksum % 256) rest fits)
stands_again (DestinationUnreachable header) checksum rest fits out =
    mtu_again header 3 (unreachable_code header) (checksum / 256 % 256) (checksum % 256) rest fits
stands_again (Redirect header) checksum rest fits out =
    sym (bytes_again header.gateway_internet_address 5 (redirect_code header.code)
    (checksum / 256 % 256) (checksum % 256) rest fits)
stands_again (EchoRequest echo) checksum rest fits out =
    sym (echo_again echo 8 0 (checksum / 256 % 256) (checksum % 256) rest fits)
stands_again (ParameterProblem header) checksum rest fits out =
    pointer_again header 12 (problem_code header) (checksum / 256 % 256) (checksum % 256) rest
stands_again (TimestampRequest message) checksum rest fits out =
    sym (timestamp_again message 13 0 (checksum / 256 % 256) (checksum % 256) rest fits)
stands_again (TimestampReply message) checksum rest fits out =
    sym (timestamp_again message 14 0 (checksum / 256 % 256) (checksum % 256) rest fits)
stands_again (Unknown t c bytes5to8) checksum rest fits out = (
  not_true (is_listed t c) out,
  sym
      (bytes_again bytes5to8 t c (checksum / 256 % 256) (checksum % 256) rest fits),
)
stands_again _ checksum rest fits out = tt

kind_again : (kind : Icmpv4Type) (checksum : ℕ) (rest : List ℕ) → FieldsFit kind → IsCanonical kind
    → type_of (bytes_of_layout (layout_of kind) checksum ++ rest) ≡ kind
kind_again kind checksum rest fits out =
    sym (kind_is _ _ _ kind refl refl (stands_again kind checksum rest fits out))

pub header_again : (h : Icmpv4Header) (rest : List ℕ) → HeaderFits h → IsCanonical h.icmp_type
    → icmpv4_header_of (encoding h ++ rest) ≡ h
header_again h rest fits out = grind (arith, kind_again, two_again)

-- a header of 20 bytes is all of its message
fixed_at : (kind : Icmpv4Type) → header_len kind ≡ 20 → fixed_payload_size kind ≡ Some 0
fixed_at kind e = grind arith

least_len : (kind : Icmpv4Type) → 8 ≤ header_len kind
least_len kind = grind arith

-- a header and a payload of its kind are a message
pub message_again : (h : Icmpv4Header) (slice rest : List ℕ) → slice ≡ encoding h ++ rest
    → length slice ≡ header_len h.icmp_type + length rest → HeaderFits h
    → IsCanonical h.icmp_type → IsPayload h.icmp_type rest → ReadableIcmpv4 slice
message_again h slice rest slice_is len fits out payload =
    let same : type_of slice ≡ h.icmp_type =
    grind (arith, kind_again) in
    record {
      least = omega (arith, least_len h.icmp_type);
      timestamp = λ timestamp.
          let twenty : header_len h.icmp_type ≡ 20 =
          grind (arith, header_len_at) in
          omega (arith, payload 0 (fixed_at h.icmp_type twenty));
    }
