-- The packet that a plan describes: the headers by the builder's definitions, and the first field
-- that describes what no packet has.
use Rattle.std.specs.Prelude.{ℕ, ◌==◌, Bool, if◌then◌else◌, List, [], take, Option, Some, None}
use Rattle.std.specs.Option.{option_map, option_map_or, option_or}
use Rattle.etherparse.specs.BuildWriteError.{is_icmpv6_in_ipv4}
use Rattle.etherparse.specs.Built.{build_refusal, number_of, packet_with_number}
use Rattle.etherparse.specs.BuiltSteps.{cooked_link_header, echo, ethernet_between, icmpv4_of, icmpv6_of, no_headers}
use Rattle.etherparse.specs.BuiltSteps.{udp_between}
use Rattle.etherparse.specs.PacketImpl.{PacketImpl}
use Rattle.etherparse.specs.declared.err.packet.build_write_error.BuildWriteError.{BuildWriteError}
use Rattle.etherparse.specs.icmp.declared.transport.icmpv4_type.Icmpv4Type.{Icmpv4Type}
use Rattle.etherparse.specs.icmp.declared.transport.icmpv4_type.Icmpv4Type.TheVariants as v4
use Rattle.etherparse.specs.icmp.declared.transport.icmpv6_type.Icmpv6Type.{Icmpv6Type}
use Rattle.etherparse.specs.icmp.declared.transport.icmpv6_type.Icmpv6Type.TheVariants as v6
use Rattle.etherparse.specs.link.declared.link.link_header.LinkHeader.{LinkHeader}
use Rattle.etherparse.specs.packet.declared.transport.transport_header.TransportHeader.{TransportHeader}
use Rattle.etherparse.specs.packet.declared.transport.transport_header.TransportHeader.TheVariants.{Tcp}
use Rattle.etherparse.specs.tag.Vlan.{default_header}
use Rattle.etherparse.specs.tag.declared.link.single_vlan_header.SingleVlanHeader.{SingleVlanHeader}
use Rattle.etherparse.specs.tag.declared.link.vlan_header.VlanHeader.{VlanHeader}
use Rattle.etherparse.specs.tag.declared.link.vlan_header.VlanHeader.TheVariants.{Double, Single}
use Rattle.etherparse.specs.tcpudp.TcpOptions.{whole_options}
use Rattle.etherparse.specs.tcpudp.declared.transport.tcp_header.TcpHeader.{TcpHeader}
use Rattle.etherparse_structs.specs.PlannedExtensions.{no_extensions}
use Rattle.etherparse_structs.specs.PlannedIp.{ip_in, wrong_ip}
use Rattle.etherparse_structs.specs.Wrong.{wrong_above}
use Rattle.etherparse_structs.specs.declared.plan.EpPlan.{EpPlan}
use Rattle.etherparse_structs.specs.declared.plan.PlanField.{PlanField}
use Rattle.etherparse_structs.specs.declared.plan.PlanField.TheVariants as field
use Rattle.etherparse_structs.specs.declared.planned_extensions.EpPlannedExtensions.{EpPlannedExtensions}

-- the numbers of the fields that may be at fault
abbrev pub field_number : PlanField → ℕ
field_number field.Link = 1
field_number field.PacketType = 2
field_number field.TagCount = 3
field_number field.OuterVlanId = 4
field_number field.OuterPriority = 5
field_number field.InnerVlanId = 6
field_number field.InnerPriority = 7
field_number field.IpVersion = 8
field_number field.Dscp = 9
field_number field.Ecn = 10
field_number field.FragmentOffset = 11
field_number field.Ipv4OptionsLen = 12
field_number field.FlowLabel = 13
field_number field.HopByHopOptions = 14
field_number field.DestinationOptions = 15
field_number field.Routing = 16
field_number field.FragmentHeader = 17
field_number field.Authentication = 18
field_number field.FinalDestinationOptions = 19
field_number field.Transport = 20
field_number field.OptionsLen = 21
field_number field.HardwareAddresses = 22
field_number field.ProtocolAddresses = 23
field_number field.Payload = 24

-- the headers that a plan describes, where its kinds and numbers are known
abbrev pub link_in : EpPlan → Option LinkHeader
link_in p = if p.link == 1 then Some (ethernet_between p.source p.destination)
    else (if p.link == 2 then Some (cooked_link_header p.packet_type p.address_len p.address)
    else None)

-- a tag of this identifier and priority
abbrev pub tag_in : (id priority : ℕ) → (drop_eligible : Bool) → SingleVlanHeader
tag_in id priority drop_eligible = record default_header {
  pcp = priority;
  drop_eligible_indicator = drop_eligible;
  vlan_id = id;
}

abbrev pub outer_tag_in : EpPlan → SingleVlanHeader
outer_tag_in p = tag_in p.outer_vlan_id p.outer_priority p.outer_drop_eligible

abbrev pub inner_tag_in : EpPlan → SingleVlanHeader
inner_tag_in p = tag_in p.inner_vlan_id p.inner_priority p.inner_drop_eligible

abbrev pub tags_in : EpPlan → Option VlanHeader
tags_in p = if p.tag_count == 1 then Some (Single (outer_tag_in p))
    else (if p.tag_count == 2 then Some (Double (record {
      outer = outer_tag_in p;
      inner = inner_tag_in p;
    })) else None)

abbrev pub icmpv4_in : EpPlan → Icmpv4Type
icmpv4_in p = if p.icmp_is_raw then v4.Unknown p.icmp_type p.icmp_code p.icmp_bytes
    else (if p.is_reply then v4.EchoReply (echo p.echo_id p.echo_sequence)
    else v4.EchoRequest (echo p.echo_id p.echo_sequence))

abbrev pub icmpv6_in : EpPlan → Icmpv6Type
icmpv6_in p = if p.icmp_is_raw then v6.Unknown p.icmp_type p.icmp_code p.icmp_bytes
    else (if p.is_reply then v6.EchoReply (echo p.echo_id p.echo_sequence)
    else v6.EchoRequest (echo p.echo_id p.echo_sequence))

abbrev pub tcp_in : EpPlan → TcpHeader
tcp_in p = record {
  source_port = p.source_port;
  destination_port = p.destination_port;
  sequence_number = p.sequence_number;
  acknowledgment_number = p.acknowledgment_number;
  ns = p.ns;
  fin = p.fin;
  syn = p.syn;
  rst = p.rst;
  psh = p.psh;
  ack = p.ack;
  urg = p.urg;
  ece = p.ece;
  cwr = p.cwr;
  window_size = p.window_size;
  checksum = 0;
  urgent_pointer = p.urgent_pointer;
  options = whole_options (take p.options_len p.options);
}

abbrev pub transport_in : EpPlan → Option TransportHeader
transport_in p = if p.transport == 1 then Some (icmpv4_of (icmpv4_in p))
    else (if p.transport == 6 then Some (Tcp (tcp_in p))
    else (if p.transport == 17 then Some (udp_between p.source_port p.destination_port)
    else (if p.transport == 58 then Some (icmpv6_of (icmpv6_in p)) else None)))

-- link header and tags
abbrev pub prefix_in : EpPlan → PacketImpl
prefix_in p = record no_headers { link_header = link_in p; vlan_header = tags_in p }

-- with those of the network layer, whose extension headers have their parts in these bytes
abbrev pub lower_headers_in : EpPlan → EpPlannedExtensions → List ℕ → PacketImpl
lower_headers_in p e bytes = record (prefix_in p) { ip_headers = Some (ip_in p e bytes) }

-- and with that of the transport layer: all
abbrev pub headers_in : EpPlan → EpPlannedExtensions → List ℕ → PacketImpl
headers_in p e bytes = record (lower_headers_in p e bytes) { transport_header = transport_in p }

-- the number that the IP headers name last: that of the transport header, or of the payload
abbrev pub last_number : EpPlan → ℕ
last_number p = option_map_or number_of (transport_in p) p.payload_number

-- the packet with this payload, and these extension headers or none
abbrev pub extended_bytes_in : EpPlan → EpPlannedExtensions → List ℕ → (payload : List ℕ) → List ℕ
extended_bytes_in p e bytes payload =
    packet_with_number (headers_in p e bytes) (last_number p) payload

abbrev pub bytes_in : EpPlan → (payload : List ℕ) → List ℕ
bytes_in p payload = extended_bytes_in p no_extensions [] payload

abbrev pub wrong_packet_type : EpPlan → Option PlanField
wrong_packet_type p = wrong_above 4 p.packet_type field.PacketType

abbrev pub wrong_link : EpPlan → Option PlanField
wrong_link p = if p.link == 0 then None else (if p.link == 1 then None
    else (if p.link == 2 then wrong_packet_type p else Some field.Link))

abbrev pub wrong_outer_tag : EpPlan → Option PlanField
wrong_outer_tag p = option_or (wrong_above 4095 p.outer_vlan_id field.OuterVlanId)
    (wrong_above 7 p.outer_priority field.OuterPriority)

abbrev pub wrong_inner_tag : EpPlan → Option PlanField
wrong_inner_tag p = option_or (wrong_above 4095 p.inner_vlan_id field.InnerVlanId)
    (wrong_above 7 p.inner_priority field.InnerPriority)

-- tags come after an Ethernet II header alone
abbrev pub wrong_tags : EpPlan → Option PlanField
wrong_tags p = if p.tag_count == 0 then None else (if p.link == 1
    then (if p.tag_count == 1 then wrong_outer_tag p
    else (if p.tag_count == 2 then option_or (wrong_outer_tag p) (wrong_inner_tag p)
    else Some field.TagCount))
    else Some field.TagCount)

abbrev pub wrong_options : EpPlan → Option PlanField
wrong_options p = wrong_above 40 p.options_len field.OptionsLen

abbrev pub wrong_transport : EpPlan → Option PlanField
wrong_transport p = if p.transport == 0 then None else (if p.transport == 1 then None
    else (if p.transport == 6 then wrong_options p else (if p.transport == 17 then None
    else (if p.transport == 58 then None else Some field.Transport))))

abbrev pub wrong_lower_headers : EpPlan → EpPlannedExtensions → List ℕ → Option PlanField
wrong_lower_headers p e bytes =
    option_or (wrong_link p) (option_or (wrong_tags p) (wrong_ip p e bytes))

-- what the builder refuses: ICMPv6 over IPv4, or the length of the payload
abbrev pub field_of : BuildWriteError → PlanField
field_of e = if is_icmpv6_in_ipv4 e then field.Transport else field.Payload

-- the first field at fault with a payload of so many bytes, and these extension headers or none: one
-- that names no header, or else one that the builder refuses
abbrev pub wrong_in_extended : EpPlan → EpPlannedExtensions → List ℕ → ℕ → Option PlanField
wrong_in_extended p e bytes len = option_or (wrong_lower_headers p e bytes)
    (option_or (wrong_transport p) (option_map field_of (build_refusal (headers_in p e bytes) len)))

abbrev pub wrong_in : EpPlan → ℕ → Option PlanField
wrong_in p len = wrong_in_extended p no_extensions [] len
