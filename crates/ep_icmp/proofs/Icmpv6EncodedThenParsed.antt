-- A kind of ICMPv6 message is parsed again from the bytes that encode it.
use Rattle.std.proofs.Common.{arith, ◌≡◌, sym, refl, ℕ, ◌/◌, ◌%◌, List, ◌++◌}
use Rattle.ep_icmp.specs.Icmpv6.{FieldsFit, HeaderFits, IsCanonical, icmpv6_header_of, is_listed, layout_of, encoding}
use Rattle.ep_icmp.specs.Icmpv6.{type_of}
use Rattle.ep_icmp.specs.Layout.{bytes_of_layout}
use Rattle.ep_icmp.specs.declared.transport.icmpv6_header.Icmpv6Header.{Icmpv6Header}
use Rattle.ep_icmp.proofs.FieldsEncodedThenParsed.{bytes_again, echo_again}
use Rattle.ep_icmp.proofs.Icmpv6Kinds.{StandsIn, kind_is}
use Rattle.ep_icmp.proofs.Outcomes.{not_true}
use Rattle.ep_icmp.specs.declared.transport.icmpv6_type.Icmpv6Type.{Icmpv6Type}
use Rattle.ep_icmp.specs.declared.transport.icmpv6_type.Icmpv6Type.TheVariants.{Unknown, PacketTooBig, ParameterProblem}
use Rattle.ep_icmp.specs.declared.transport.icmpv6_type.Icmpv6Type.TheVariants.{EchoRequest, EchoReply}
use Rattle.ep_base.proofs.Numbers.{two_again, four_again}

-- the bytes that encode the fields hold them
stands_again : (kind : Icmpv6Type) (checksum : ℕ) (rest : List ℕ)
    → FieldsFit kind → IsCanonical kind
    → StandsIn (bytes_of_layout (layout_of kind) checksum ++ rest) kind
stands_again (PacketTooBig mtu) checksum rest fits out = sym (four_again mtu fits)
stands_again (ParameterProblem header) checksum rest fits out = sym (four_again header.pointer fits)
stands_again (EchoRequest echo) checksum rest fits out =
    sym (echo_again echo 128 0 (checksum / 256 % 256) (checksum % 256) rest fits)
stands_again (EchoReply echo) checksum rest fits out =
    sym (echo_again echo 129 0 (checksum / 256 % 256) (checksum % 256) rest fits)
stands_again (Unknown t c bytes5to8) checksum rest fits out = (
  not_true (is_listed t c) out,
  sym
      (bytes_again bytes5to8 t c (checksum / 256 % 256) (checksum % 256) rest fits),
)
stands_again _ checksum rest fits out = tt

kind_again : (kind : Icmpv6Type) (checksum : ℕ) (rest : List ℕ) → FieldsFit kind → IsCanonical kind
    → type_of (bytes_of_layout (layout_of kind) checksum ++ rest) ≡ kind
kind_again kind checksum rest fits out =
    sym (kind_is _ _ _ kind refl refl (stands_again kind checksum rest fits out))

pub header_again : (h : Icmpv6Header) (rest : List ℕ) → HeaderFits h → IsCanonical h.icmp_type
    → icmpv6_header_of (encoding h ++ rest) ≡ h
header_again h rest fits out = grind (arith, kind_again, two_again)
