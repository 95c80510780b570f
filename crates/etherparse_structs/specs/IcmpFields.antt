-- The fields of an ICMP message by its kind, as numbers.
use Rattle.std.specs.Prelude.{ℕ, false, List, replicate, Option, Some, None, Result, Ok, Err}
use Rattle.etherparse.specs.base.declared.err.len_error.LenError.{LenError}
use Rattle.etherparse.specs.icmp.Icmpv4 as icmpv4
use Rattle.etherparse.specs.icmp.Icmpv6 as icmpv6
use Rattle.etherparse.specs.icmp.Ndp as ndp
use Rattle.etherparse.specs.icmp.declared.transport.icmp_echo_header.IcmpEchoHeader.{IcmpEchoHeader}
use Rattle.etherparse.specs.icmp.declared.transport.icmpv4.dest_unreachable_header.DestUnreachableHeader.{DestUnreachableHeader}
use Rattle.etherparse.specs.icmp.declared.transport.icmpv4.dest_unreachable_header.DestUnreachableHeader.TheVariants.{FragmentationNeeded}
use Rattle.etherparse.specs.icmp.declared.transport.icmpv4.parameter_problem_header.ParameterProblemHeader.{ParameterProblemHeader}
use Rattle.etherparse.specs.icmp.declared.transport.icmpv4.parameter_problem_header.ParameterProblemHeader.TheVariants.{PointerIndicatesError}
use Rattle.etherparse.specs.icmp.declared.transport.icmpv4.timestamp_message.TimestampMessage.{TimestampMessage}
use Rattle.etherparse.specs.icmp.declared.transport.icmpv4_type.Icmpv4Type.TheVariants as v4
use Rattle.etherparse.specs.icmp.declared.transport.icmpv4_type.Icmpv4Type.{Icmpv4Type}
use Rattle.etherparse.specs.icmp.declared.transport.icmpv6.ndp.ndp_message.NdpMessage.TheVariants as message
use Rattle.etherparse.specs.icmp.declared.transport.icmpv6.ndp.ndp_message.NdpMessage.{NdpMessage}
use Rattle.etherparse.specs.icmp.declared.transport.icmpv6_type.Icmpv6Type.TheVariants as v6
use Rattle.etherparse.specs.icmp.declared.transport.icmpv6_type.Icmpv6Type.{Icmpv6Type}
use Rattle.etherparse_structs.specs.declared.icmp_fields.EpIcmpFields.{EpIcmpFields}
use Rattle.etherparse_structs.specs.declared.icmp_fields.EpNdp.{EpNdp}

abbrev pub no_icmp_fields : EpIcmpFields
no_icmp_fields = record {
  kind = 0;
  mtu = 0;
  pointer = 0;
  originate_timestamp = 0;
  receive_timestamp = 0;
  transmit_timestamp = 0;
  id = 0;
  sequence_number = 0;
  gateway = replicate 4 0;
}

abbrev pub echo_struct : (kind : ℕ) → IcmpEchoHeader → EpIcmpFields
echo_struct kind echo = record no_icmp_fields { kind = kind; id = echo.id; sequence_number = echo.seq }

abbrev pub timestamp_struct : (kind : ℕ) → TimestampMessage → EpIcmpFields
timestamp_struct kind message = record no_icmp_fields {
  kind = kind;
  id = message.id;
  sequence_number = message.seq;
  originate_timestamp = message.originate_timestamp;
  receive_timestamp = message.receive_timestamp;
  transmit_timestamp = message.transmit_timestamp;
}

-- code 4 of type 3 alone has a length
abbrev pub next_hop_mtu : DestUnreachableHeader → ℕ
next_hop_mtu (FragmentationNeeded mtu) = mtu
next_hop_mtu _ = 0

-- code 0 of type 12 alone has an offset
abbrev pub pointer_of : ParameterProblemHeader → ℕ
pointer_of (PointerIndicatesError pointer) = pointer
pointer_of _ = 0

-- a kind of ICMPv4
abbrev pub icmpv4_struct : Icmpv4Type → EpIcmpFields
icmpv4_struct (v4.Unknown type_u8 code_u8 bytes5to8) = record no_icmp_fields { kind = 1 }
icmpv4_struct (v4.EchoRequest echo) = echo_struct 2 echo
icmpv4_struct (v4.EchoReply echo) = echo_struct 3 echo
icmpv4_struct (v4.DestinationUnreachable header) =
    record no_icmp_fields { kind = 4; mtu = next_hop_mtu header }
icmpv4_struct (v4.Redirect header) =
    record no_icmp_fields { kind = 5; gateway = header.gateway_internet_address }
icmpv4_struct (v4.TimeExceeded code) = record no_icmp_fields { kind = 6 }
icmpv4_struct (v4.ParameterProblem header) =
    record no_icmp_fields { kind = 7; pointer = pointer_of header }
icmpv4_struct (v4.TimestampRequest message) = timestamp_struct 8 message
icmpv4_struct (v4.TimestampReply message) = timestamp_struct 9 message

-- a kind of ICMPv6
abbrev pub icmpv6_struct : Icmpv6Type → EpIcmpFields
icmpv6_struct (v6.Unknown type_u8 code_u8 bytes5to8) = record no_icmp_fields { kind = 1 }
icmpv6_struct (v6.EchoRequest echo) = echo_struct 2 echo
icmpv6_struct (v6.EchoReply echo) = echo_struct 3 echo
icmpv6_struct (v6.DestinationUnreachable code) = record no_icmp_fields { kind = 4 }
icmpv6_struct (v6.TimeExceeded code) = record no_icmp_fields { kind = 6 }
icmpv6_struct (v6.ParameterProblem header) =
    record no_icmp_fields { kind = 7; pointer = header.pointer }
icmpv6_struct (v6.PacketTooBig mtu) = record no_icmp_fields { kind = 10; mtu = mtu }

-- bytes that are a message, or too few for one
abbrev pub icmpv4_fields_in : Result (List ℕ) LenError → EpIcmpFields
icmpv4_fields_in (Ok message) = icmpv4_struct (icmpv4.type_of message)
icmpv4_fields_in (Err e) = no_icmp_fields

abbrev pub icmpv6_fields_in : Result (List ℕ) LenError → EpIcmpFields
icmpv6_fields_in (Ok message) = icmpv6_struct (icmpv6.type_of message)
icmpv6_fields_in (Err e) = no_icmp_fields

abbrev pub no_ndp : EpNdp
no_ndp = record {
  options_offset = 0;
  reachable_time = 0;
  retrans_timer = 0;
  router_lifetime = 0;
  icmp_type = 0;
  hop_limit = 0;
  managed = false;
  other = false;
  router = false;
  solicited = false;
  overrides = false;
  target = replicate 16 0;
  destination = replicate 16 0;
}

-- a message of neighbor discovery by its type
abbrev pub ndp_struct : NdpMessage → EpNdp
ndp_struct message.RouterSolicitation = record no_ndp { icmp_type = 133 }
ndp_struct (message.RouterAdvertisement hop managed other lifetime reachable retrans) = record no_ndp {
  icmp_type = 134;
  hop_limit = hop;
  managed = managed;
  other = other;
  router_lifetime = lifetime;
  reachable_time = reachable;
  retrans_timer = retrans;
}
ndp_struct (message.NeighborSolicitation target) =
    record no_ndp { icmp_type = 135; target = target }
ndp_struct (message.NeighborAdvertisement router solicited overrides target) = record no_ndp {
  icmp_type = 136;
  router = router;
  solicited = solicited;
  overrides = overrides;
  target = target;
}
ndp_struct (message.Redirect target destination) =
    record no_ndp { icmp_type = 137; target = target; destination = destination }

-- a message and where its options start; none, or too few bytes for its type
abbrev pub ndp_struct_in : Option (Result (List ℕ) LenError) → EpNdp
ndp_struct_in None = no_ndp
ndp_struct_in (Some (Err e)) = no_ndp
ndp_struct_in (Some (Ok bytes)) = record (ndp_struct (ndp.message_of bytes)) {
  options_offset = ndp.header_len (ndp.message_of bytes);
}
