-- Headers of whole packets are headers of packets as far as they are there.
use Rattle.std.proofs.Common.{◌≡◌, ◌∙◌, sym, ap, refl, ℕ, ◌+◌, ◌-◌, ◌<◌, ◌≤◌, ◌==◌, Bool, true, false, List, [], ◌∷◌, length}
use Rattle.std.proofs.Common.{subst, drop, map, take, Option, Some, None, Result, Ok, Err, arith}
use Rattle.std.proofs.lemmas.Bool.Decides.{nat_tests}
use Rattle.std.proofs.lemmas.Bool.{ltb-false}
use Rattle.std.proofs.lemmas.List.{drop-take, get_or-take}
use Rattle.std.specs.Prelude.{if◌then◌else◌, nat_lt}
use Rattle.std.specs.Option.{option_map}
use Rattle.std.specs.Result.{result_map_both}
use Rattle.ep_base.specs.declared.err.layer.Layer.TheVariants.{Ethernet2Header}
use Rattle.ep_base.specs.declared.err.len_error.LenError.{LenError}
use Rattle.ep_base.specs.declared.err.slice_error.SliceError.{SliceError as HeaderSliceError}
use Rattle.ep_base.specs.declared.len_source.LenSource.{LenSource}
use Rattle.ep_base.specs.declared.len_source.LenSource.TheVariants.{Slice}
use Rattle.ep_base.specs.declared.link.ether_type.EtherType.{EtherType}
use Rattle.ep_ext.specs.Chain.{Fault}
use Rattle.ep_ext.specs.Ipv4Exts.{auth_bytes}
use Rattle.ep_ext.specs.Value.{Piece}
use Rattle.ep_icmp.specs.Icmpv4Fault as icmpv4_fault
use Rattle.ep_icmp.specs.Icmpv6Fault as icmpv6_fault
use Rattle.ep_ip.specs.Ipv4.{version_of}
use Rattle.ep_ip.specs.Ipv6Fault.{header_at}
use Rattle.ep_ip.specs.declared.err.ipv6.header_error.HeaderError.{HeaderError as Ipv6HeaderFault}
use Rattle.ep_ipslice.specs.Ipv4Packet.{ipv4_packet_at}
use Rattle.ep_ipslice.specs.LaxPackets.{lax_ipv4_packet_at, whole_ipv4}
use Rattle.ep_ipslice.specs.Packet.{IpPayload, Ipv4Packet, body_len, ipv4_payload}
use Rattle.ep_ipslice.specs.declared.err.ip.header_error.HeaderError.{HeaderError as IpHeaderFault}
use Rattle.ep_ipslice.specs.declared.err.ip.headers_slice_error.HeadersSliceError.{HeadersSliceError}
use Rattle.ep_ipslice.specs.declared.err.ipv4.slice_error.SliceError.{SliceError as Ipv4Fault}
use Rattle.ep_ipslice.specs.declared.err.ipv6.slice_error.SliceError.{SliceError as Ipv6Fault}
use Rattle.ep_ipslice.specs.declared.err.ipv6.slice_error.SliceError.TheVariants as strict6
use Rattle.ep_ipslice.proofs.Found.{not_whole}
use Rattle.ep_link.specs.Arp.{packet_at, fields_of as fields_of_arp}
use Rattle.ep_link.specs.Ethernet.{ethernet_header_of, ethernet_len, payload_of}
use Rattle.ep_link.specs.declared.link.link_header.LinkHeader.{LinkHeader}
use Rattle.ep_link.specs.declared.link.link_header.LinkHeader.TheVariants.{Ethernet2}
use Rattle.ep_link.specs.declared.link.link_slice.LinkSlice.TheVariants as link_slice
use Rattle.ep_packet.specs.HeaderLayers as strict
use Rattle.ep_packet.specs.HeaderLayers.{HeaderLayers, MessageParts, in_packet, message_in, message_parts, with_message}
use Rattle.ep_packet.specs.IpHeaders.{with_ipv4_headers}
use Rattle.ep_packet.specs.IpHeadersAt.{fault_after, ip_headers_at, ipv4_headers_at, ipv6_headers_at}
use Rattle.ep_packet.specs.IpHeadersAt.{ipv6_parts_after, ipv6_parts_unless, of_ipv4, of_ipv6}
use Rattle.ep_packet.specs.LaxIpHeadersAt.{LaxIpv6Headers, StoppedHeaders, lax_ipv6_headers_after, lax_ipv6_headers_at}
use Rattle.ep_packet.specs.LaxIpHeadersAt.{lax_ipv4_value, lax_ipv6_parts, pieces_after, with_lax_ipv6_headers}
use Rattle.ep_packet.specs.LaxPacketHeaders.{LaxHeaderLayers, in_lax_frame}
use Rattle.ep_packet.specs.LaxPacketHeaders.{lax_after_message, lax_after_tags, lax_arp_headers, lax_ethernet_headers}
use Rattle.ep_packet.specs.LaxPacketHeaders.{lax_ether_type_headers, lax_headers_after, lax_headers_in, lax_headers_tagged}
use Rattle.ep_packet.specs.LaxPacketHeaders.{lax_ip_layers, lax_ip_packet_headers, lax_ipv4_headers, lax_ipv6_headers}
use Rattle.ep_packet.specs.LaxPacketHeaders.{lax_last_of, lax_modified_after, lax_named_after, no_lax_headers}
use Rattle.ep_packet.specs.LaxPacketHeaders.{of_lax_ipv4_headers, of_lax_ipv6_headers, or_else, with_lax_message}
use Rattle.ep_packet.specs.LaxPayload.{LaxPayload}
use Rattle.ep_packet.specs.LaxPayload as lax
use Rattle.ep_packet.specs.LaxSliced.{first_stop, lax_message_at, lax_message_in, lax_transport_in}
use Rattle.ep_packet.specs.LaxTags.{LaxTagged, stop_by}
use Rattle.ep_packet.specs.LaxView.{bounded}
use Rattle.ep_packet.specs.LaxWhole.{whole_tag}
use Rattle.ep_packet.specs.LaxWholeHeaders.{counted, whole_headers, whole_payload}
use Rattle.ep_packet.specs.NetHeaders.{of_ip}
use Rattle.ep_packet.specs.PacketHeaders.{Headers, ether_type_headers, ethernet_headers, headers_after, headers_tagged}
use Rattle.ep_packet.specs.PacketHeaders.{headers_with, in_frame, ip_packet_headers, layers_after, modified_after}
use Rattle.ep_packet.specs.PacketView.{last_of, named_by, source_after}
use Rattle.ep_packet.specs.Payload.{Payload}
use Rattle.ep_packet.specs.Payload as strict_payload
use Rattle.ep_packet.specs.Readable as number
use Rattle.ep_packet.specs.Readable.{tcp_fault}
use Rattle.ep_packet.specs.SameHeaders.{transport_fields}
use Rattle.ep_packet.specs.SliceFault.{later}
use Rattle.ep_packet.specs.Sliced.{arp_type, ether_payload, ipv4_type, ipv6_type, read_transport, result_within}
use Rattle.ep_packet.specs.Tags.{Tagged, most_tags, tags_in}
use Rattle.ep_packet.specs.declared.err.packet.slice_error.SliceError.{SliceError}
use Rattle.ep_packet.specs.declared.err.packet.slice_error.SliceError.TheVariants as fault
use Rattle.ep_packet.specs.declared.net.ip_headers.IpHeaders.{IpHeaders}
use Rattle.ep_packet.specs.declared.net.net_headers.NetHeaders.{NetHeaders}
use Rattle.ep_packet.specs.declared.net.net_headers.NetHeaders.TheVariants as net
use Rattle.ep_packet.specs.declared.transport.transport_header.TransportHeader.{TransportHeader}
use Rattle.ep_packet.specs.declared.transport.transport_header.TransportHeader.TheVariants as transport
use Rattle.ep_packet.specs.declared.transport.transport_slice.TransportSlice.{TransportSlice}
use Rattle.ep_packet.specs.declared.transport.transport_slice.TransportSlice.TheVariants as message
use Rattle.ep_packet.proofs.HeadersOfTags.{last_is}
use Rattle.ep_packet.proofs.LaxPayloads.{bound_whole, last_whole}
use Rattle.ep_packet.proofs.LaxWholeLemmas.{WholeParts, payload_same, tags_whole}
use Rattle.ep_tag.specs.Ether.{EtherPayload, complete_ether}
use Rattle.ep_tag.specs.LinkExt.{fields_of, lax_fields_of}
use Rattle.ep_tag.specs.Prefix.{whole_at}
use Rattle.ep_tag.specs.declared.link.link_ext_header.LinkExtHeader.{LinkExtHeader}
use Rattle.ep_tag.specs.declared.link.link_ext_slice.LinkExtSlice.{LinkExtSlice}
use Rattle.ep_tag.specs.declared.link.link_ext_slice.LinkExtSlice.TheVariants.{Macsec, Vlan}
use Rattle.ep_tcpudp.specs.Udp.{lax_summed_udp, length_of, udp_header_of}
use Rattle.ep_tcpudp.specs.TcpFault.{segment_at}
use Rattle.ep_tcpudp.specs.UdpFault as udp_fault
use Rattle.ep_tcpudp.specs.declared.transport.udp_header.UdpHeader.{UdpHeader}
use Rattle.ep_tcpudp.specs.declared.err.tcp.header_error.HeaderError.{HeaderError as TcpFault}

-- a message with the payload after it, and the same of a whole packet
abbrev lax_parts : TransportSlice → TransportHeader × LaxPayload
lax_parts m = (transport_fields m, lax_after_message false m)

abbrev whole_parts : TransportHeader × Payload → TransportHeader × LaxPayload
whole_parts m = (m.0, whole_payload (Some m.0) m.1)

-- UDP
fields_are : (n : ℕ) (bytes : List ℕ) → 8 ≤ n → udp_header_of (take n bytes) ≡ udp_header_of bytes
fields_are n bytes least =
    let at = λ (i : ℕ) (lt : i < 8). get_or-take n bytes i 0 (omega (arith, lt, least)) in
    grind (arith, at 0, at 1, at 2, at 3, at 4, at 5, at 6, at 7)

bytes_are : (n : ℕ) (bytes : List ℕ) → 8 ≤ n → drop 8 (take n bytes) ≡ take (n - 8) (drop 8 bytes)
bytes_are n bytes least =
    ap (λ (m : ℕ). drop 8 (take m bytes)) (omega (arith, least)) ∙ drop-take 8 (n - 8) bytes

-- the bytes that the length field counts after the header
counted_is : (small : Bool) (bytes : List ℕ) → nat_lt (length_of bytes) 8 ≡ small
    → counted (udp_header_of (take 8 bytes)).length (drop 8 bytes)
    ≡ (if small then drop 8 bytes else take (length_of bytes - 8) (drop 8 bytes))
counted_is small bytes is =
    ap (λ (h : UdpHeader). counted h.length (drop 8 bytes)) (fields_are 8 bytes (omega arith))
    ∙ ap (λ (b : Bool). if b then drop 8 bytes else take (length_of bytes - 8) (drop 8 bytes)) is

datagram_case : (small : Bool) (bytes : List ℕ) → nat_lt (length_of bytes) 8 ≡ small
    → lax_parts (message.Udp (if small then bytes else take (length_of bytes) bytes))
    ≡ whole_parts (transport.Udp (udp_header_of (take 8 bytes)), strict_payload.Udp (drop 8 bytes))
datagram_case true bytes is =
    let header = fields_are 8 bytes (omega arith) in
    let following = counted_is true bytes is in
    λ i. (transport.Udp (sym header i), lax.Udp (sym following i) false)
datagram_case false bytes is =
    let least = ltb-false (length_of bytes) 8 is in
    let header = fields_are (length_of bytes) bytes least ∙ sym (fields_are 8 bytes (omega arith)) in
    let following = bytes_are (length_of bytes) bytes least ∙ sym (counted_is false bytes is) in
    λ i. (transport.Udp (header i), lax.Udp (following i) false)

-- what is read of a message is what there is of it
abbrev IsRead : Result (Option TransportSlice) SliceError → MessageParts → Type 0
IsRead r o = (m : Option TransportSlice) × (r ≡ Ok m)
    × (option_map lax_parts m ≡ option_map whole_parts o)

icmpv4_whole : (r : Result (List ℕ) LenError) (o : MessageParts) → strict.icmpv4_parts r ≡ Ok o
    → IsRead (read_transport (result_map_both (λ m. number.Icmpv4 m) (λ e. fault.Len e) r)) o
icmpv4_whole (Ok m) o is = (Some (message.Icmpv4 m), refl, grind arith)
icmpv4_whole (Err e) o is = cc

icmpv6_whole : (r : Result (List ℕ) LenError) (o : MessageParts) → strict.icmpv6_parts r ≡ Ok o
    → IsRead (read_transport (result_map_both (λ m. number.Icmpv6 m) (λ e. fault.Len e) r)) o
icmpv6_whole (Ok m) o is = (Some (message.Icmpv6 m), refl, grind arith)
icmpv6_whole (Err e) o is = cc

tcp_whole : (r : Result (List ℕ) (HeaderSliceError TcpFault)) (o : MessageParts)
    → strict.tcp_parts r ≡ Ok o
    → IsRead (read_transport (result_map_both (λ m. number.Tcp m) tcp_fault r)) o
tcp_whole (Ok m) o is = (Some (message.Tcp m), refl, grind arith)
tcp_whole (Err e) o is = cc

udp_case : (short : Bool) (bytes : List ℕ) (e f : LenError) (o : MessageParts)
    → strict.udp_parts bytes (if short then Err e else Ok (take 8 bytes)) ≡ Ok o
    → IsRead (read_transport (result_map_both (λ m. number.Udp m) (λ e. fault.Len e)
    (if short then Err f else Ok (lax_summed_udp bytes)))) o
udp_case true bytes e f o is = cc
udp_case false bytes e f o is =
    let same = datagram_case (nat_lt (length_of bytes) 8) bytes refl in
    (Some (message.Udp (lax_summed_udp bytes)), refl, ap Some same ∙ grind arith)

udp_whole : (bytes : List ℕ) (o : MessageParts)
    → strict.udp_parts bytes (udp_fault.header_at bytes) ≡ Ok o
    → IsRead (read_transport (result_map_both (λ m. number.Udp m) (λ e. fault.Len e)
    (udp_fault.lax_udp_at bytes))) o
udp_whole bytes o is = udp_case (nat_lt (length bytes) 8) bytes _ _ o is

other_cases : (a b d : Bool) (bytes : List ℕ) (o : MessageParts) →
    (if a then strict.icmpv4_parts (icmpv4_fault.message_at bytes)
    else (if b then strict.tcp_parts (segment_at bytes)
    else (if d then strict.icmpv6_parts (icmpv6_fault.message_at bytes) else Ok None))) ≡ Ok o
    → IsRead (read_transport (
    if a then result_map_both (λ m. number.Icmpv4 m) (λ e. fault.Len e) (icmpv4_fault.message_at bytes)
    else (if b then result_map_both (λ m. number.Tcp m) tcp_fault (segment_at bytes)
    else (if d then result_map_both (λ m. number.Icmpv6 m) (λ e. fault.Len e)
    (icmpv6_fault.message_at bytes) else Ok (number.Raw bytes))))) o
other_cases true b d bytes o is = icmpv4_whole (icmpv4_fault.message_at bytes) o is
other_cases false true d bytes o is = tcp_whole (segment_at bytes) o is
other_cases false false true bytes o is = icmpv6_whole (icmpv6_fault.message_at bytes) o is
other_cases false false false bytes o is = (None, refl, grind arith)

message_case : (c : Bool) (n : ℕ) (bytes : List ℕ) (o : MessageParts) → (n == number.udp) ≡ c
    → message_parts n bytes ≡ Ok o → IsRead (read_transport (lax_message_at n bytes)) o
message_case true n bytes o here is =
    let named : n ≡ 17 = grind (arith, nat_tests) in
    subst (λ (k : ℕ). message_parts k bytes ≡ Ok o → IsRead (read_transport (lax_message_at k bytes)) o)
    (sym named) (udp_whole bytes o) is
message_case false n bytes o not is =
    let strict_is = ap (λ (c : Bool). if n == number.icmpv4 then strict.icmpv4_parts (icmpv4_fault.message_at bytes)
    else (if n == number.tcp then strict.tcp_parts (segment_at bytes)
    else (if c then strict.udp_parts bytes (udp_fault.header_at bytes)
    else (if n == number.icmpv6 then strict.icmpv6_parts (icmpv6_fault.message_at bytes) else Ok None)))) not in
    let lax_is : lax_message_at n bytes ≡ (
    if n == number.icmpv4 then result_map_both (λ m. number.Icmpv4 m) (λ e. fault.Len e) (icmpv4_fault.message_at bytes)
    else (if n == number.tcp then result_map_both (λ m. number.Tcp m) tcp_fault (segment_at bytes)
    else (if n == number.icmpv6 then result_map_both (λ m. number.Icmpv6 m) (λ e. fault.Len e)
    (icmpv6_fault.message_at bytes) else Ok (number.Raw bytes)))) = rw not refl in
    subst (λ (r : Result number.ReadMessage SliceError). IsRead (read_transport r) o) (sym lax_is)
    (other_cases (n == number.icmpv4) (n == number.tcp) (n == number.icmpv6) bytes o (sym strict_is ∙ is))

-- the message in an IP payload
within_whole : (source : LenSource) (r : Result (Option TransportSlice) SliceError) (o : MessageParts)
    → IsRead r o → IsRead (result_within source r) o
within_whole source r o read =
    (read.0, ap (result_within source) read.1, read.2)

payload_case : (fragmented : Bool) (p : IpPayload) (o : MessageParts)
    → (if fragmented then Ok None else message_parts p.ip_number.0 p.payload) ≡ Ok o
    → IsRead (if fragmented then Ok None
    else result_within p.len_source (read_transport (lax_message_at p.ip_number.0 p.payload))) o
payload_case true p o is = (None, refl, grind arith)
payload_case false p o is = within_whole p.len_source
    (read_transport (lax_message_at p.ip_number.0 p.payload)) o
    (message_case (p.ip_number.0 == number.udp) p.ip_number.0 p.payload o refl is)

-- layers of a whole packet, as those of one that is there as far as it goes
abbrev whole_layers : HeaderLayers → LaxHeaderLayers
whole_layers layers = record {
  net = layers.net;
  transport = layers.transport;
  payload = option_map (λ (n : NetHeaders). whole_payload layers.transport layers.payload) layers.net;
  stop = None;
}

with_read : (headers : NetHeaders) (position n : ℕ) (p : IpPayload) (o : MessageParts)
    (layers : HeaderLayers) → IsRead (lax_message_in p) o
    → with_message headers position p (Ok o) ≡ Ok layers
    → with_lax_message headers (false, p) (lax_transport_in n p None) ≡ whole_layers layers
with_read headers position n p None layers (None, read, same) is = rw read (grind arith)
with_read headers position n p None layers (Some m, read, same) is = cc
with_read headers position n p (Some t) layers (None, read, same) is = cc
with_read headers position n p (Some t) layers (Some m, read, same) is = rw read (grind arith)

packet_case : (headers : NetHeaders) (position n : ℕ) (p : IpPayload)
    (r : Result MessageParts SliceError) (layers : HeaderLayers) → message_in p ≡ r
    → with_message headers position p r ≡ Ok layers
    → with_lax_message headers (false, p) (lax_transport_in n p None) ≡ whole_layers layers
packet_case headers position n p (Ok o) layers at is = with_read headers position n p o layers
    (payload_case p.fragmented p o at) is
packet_case headers position n p (Err e) layers at is = cc

packet_whole : (found n : ℕ) (headers : IpHeaders) (p : IpPayload) (layers : HeaderLayers)
    → in_packet found headers p ≡ Ok layers
    → with_lax_message (of_ip headers) (false, p) (lax_transport_in n p None) ≡ whole_layers layers
packet_whole found n headers p layers is = packet_case (of_ip headers)
    (strict.packet_len headers found - length p.payload) n p (message_in p) layers refl is

-- of version 4
ipv4_whole : WholeParts → (found : ℕ) (bytes : List ℕ) (r : Result Ipv4Packet Ipv4Fault)
    (layers : HeaderLayers) → ipv4_packet_at bytes ≡ r
    → strict.ipv4_layers found (with_ipv4_headers r) ≡ Ok layers
    → lax_ipv4_headers (lax_ipv4_packet_at bytes) ≡ whole_layers layers
ipv4_whole law found bytes (Ok packet) layers at is = rw (law.ipv4 bytes packet at)
    (packet_whole found (length packet.header + length (auth_bytes packet.auth))
    (lax_ipv4_value (whole_ipv4 packet)) (ipv4_payload packet) layers is)
ipv4_whole law found bytes (Err e) layers at is = cc

-- of version 6
abbrev whole_stopped : IpHeaders × IpPayload → StoppedHeaders Fault
whole_stopped parts = record { headers = parts.0; payload = (false, parts.1); stop = None }

abbrev IsThere : Result LaxIpv6Headers (HeaderSliceError Ipv6HeaderFault) → IpHeaders × IpPayload → Type 0
IsThere r parts = (len : ℕ) × (r ≡ Ok (record { len = len; parts = whole_stopped parts }))

unless_whole : (bytes header : List ℕ) (pieces : List Piece) (stop : Option Fault)
    (parts : IpHeaders × IpPayload) → nat_lt (length bytes - 40) (body_len header (length bytes - 40)) ≡ false
    → fault_after bytes header pieces ≡ stop → ipv6_parts_unless bytes header pieces stop ≡ Ok parts
    → lax_ipv6_parts bytes header pieces ≡ whole_stopped parts
unless_whole bytes header pieces None parts fits none is = rw (none, fits) (grind arith)
unless_whole bytes header pieces (Some f) parts fits some is = cc

with_whole : (cut : Bool) (bytes header : List ℕ) (pieces : List Piece) (parts : IpHeaders × IpPayload)
    → nat_lt (length bytes - 40) (body_len header (length bytes - 40)) ≡ cut
    → (if cut then Err (strict6.Len (not_whole header (length bytes)))
    else ipv6_parts_unless bytes header pieces (fault_after bytes header pieces)) ≡ Ok parts
    → lax_ipv6_parts bytes header pieces ≡ whole_stopped parts
with_whole true bytes header pieces parts cut is = cc
with_whole false bytes header pieces parts fits is =
    unless_whole bytes header pieces (fault_after bytes header pieces) parts fits refl is

after_whole : (bytes : List ℕ) (r : Result (List ℕ) (HeaderSliceError Ipv6HeaderFault))
    (parts : IpHeaders × IpPayload) → ipv6_parts_after bytes r ≡ Ok parts
    → IsThere (with_lax_ipv6_headers bytes r) parts
after_whole bytes (Err e) parts is = cc
after_whole bytes (Ok header) parts is = (
  (lax_ipv6_headers_after bytes header).len,
  ap (λ (s : StoppedHeaders Fault). Ok (record { len = (lax_ipv6_headers_after bytes header).len; parts = s }))
      (with_whole (nat_lt (length bytes - 40) (body_len header (length bytes - 40))) bytes header
      (pieces_after bytes header) parts refl is),
)

ipv6_there : (found : ℕ) (parts : IpHeaders × IpPayload)
    (r : Result LaxIpv6Headers (HeaderSliceError Ipv6HeaderFault)) (layers : HeaderLayers)
    → IsThere r parts → in_packet found parts.0 parts.1 ≡ Ok layers
    → lax_ipv6_headers r ≡ whole_layers layers
ipv6_there found parts r layers there is =
    rw (there.1) (packet_whole found there.0 parts.0 parts.1 layers is)

ipv6_whole : (found : ℕ) (bytes : List ℕ) (r : Result (IpHeaders × IpPayload) Ipv6Fault)
    (layers : HeaderLayers) → ipv6_headers_at bytes ≡ r → strict.ipv6_layers found r ≡ Ok layers
    → lax_ipv6_headers (lax_ipv6_headers_at bytes) ≡ whole_layers layers
ipv6_whole found bytes (Ok parts) layers at is = ipv6_there found parts (lax_ipv6_headers_at bytes) layers
    (after_whole bytes (header_at bytes) parts at) is
ipv6_whole found bytes (Err e) layers at is = cc

arp_whole : (bytes : List ℕ) (layers : HeaderLayers) → strict.arp_layers (packet_at bytes) ≡ Ok layers
    → lax_arp_headers (packet_at bytes) ≡ whole_layers layers
arp_whole bytes layers is = grind arith

-- there is a packet
abbrev HasNet : HeaderLayers → Type 0
HasNet layers = (n : NetHeaders) × (layers.net ≡ Some n)

net_of : (headers : NetHeaders) (position : ℕ) (p : IpPayload) (r : Result MessageParts SliceError)
    (layers : HeaderLayers) → with_message headers position p r ≡ Ok layers → HasNet layers
net_of headers position p (Ok None) layers is = (headers, grind arith)
net_of headers position p (Ok (Some m)) layers is = (headers, grind arith)
net_of headers position p (Err e) layers is = cc

ipv4_net : (found : ℕ) (r : Result Ipv4Packet Ipv4Fault) (layers : HeaderLayers)
    → strict.ipv4_layers found (with_ipv4_headers r) ≡ Ok layers → HasNet layers
ipv4_net found (Ok packet) layers is = net_of _ _ (ipv4_payload packet)
    (message_in (ipv4_payload packet)) layers is
ipv4_net found (Err e) layers is = cc

ipv6_net : (found : ℕ) (r : Result (IpHeaders × IpPayload) Ipv6Fault) (layers : HeaderLayers)
    → strict.ipv6_layers found r ≡ Ok layers → HasNet layers
ipv6_net found (Ok parts) layers is = net_of _ _ parts.1 (message_in parts.1) layers is
ipv6_net found (Err e) layers is = cc

arp_net : (r : Result (List ℕ) LenError) (layers : HeaderLayers) → strict.arp_layers r ≡ Ok layers
    → HasNet layers
arp_net (Ok packet) layers is = (net.Arp (fields_of_arp packet), grind arith)
arp_net (Err e) layers is = cc

-- headers after a payload that is this without a packet
pub record AreWhole (below : LaxPayload) (found : LaxHeaderLayers) (layers : HeaderLayers) : Type 0 where
  pub same : found ≡ whole_layers layers
  pub payload : or_else found.payload below ≡ whole_payload layers.transport layers.payload

with_net : (below : LaxPayload) (found : LaxHeaderLayers) (layers : HeaderLayers)
    → found ≡ whole_layers layers → HasNet layers → AreWhole below found layers
with_net below found layers is (n, some) = record {
  same = is;
  payload = rw is (rw some refl);
}

layer_cases : WholeParts → (four six arp : Bool) (bytes : List ℕ) (q : EtherPayload)
    (layers : HeaderLayers) →
    (if four then strict.ipv4_layers (length bytes) (ipv4_headers_at bytes)
    else (if six then strict.ipv6_layers (length bytes) (ipv6_headers_at bytes)
    else (if arp then strict.arp_layers (packet_at bytes)
    else Ok (strict.payload_alone (strict_payload.Ether q))))) ≡ Ok layers →
    AreWhole (lax.Ether (complete_ether q))
    (if four then lax_ipv4_headers (lax_ipv4_packet_at bytes)
    else (if six then lax_ipv6_headers (lax_ipv6_headers_at bytes)
    else (if arp then lax_arp_headers (packet_at bytes) else no_lax_headers None))) layers
layer_cases law true six arp bytes q layers is = with_net _ _ layers
    (ipv4_whole law (length bytes) bytes (ipv4_packet_at bytes) layers refl is)
    (ipv4_net (length bytes) (ipv4_packet_at bytes) layers is)
layer_cases law false true arp bytes q layers is = with_net _ _ layers
    (ipv6_whole (length bytes) bytes (ipv6_headers_at bytes) layers refl is)
    (ipv6_net (length bytes) (ipv6_headers_at bytes) layers is)
layer_cases law false false true bytes q layers is = with_net _ _ layers (arp_whole bytes layers is)
    (arp_net (packet_at bytes) layers is)
layer_cases law false false false bytes q layers is =
    record { same = grind arith; payload = grind arith }

-- after the tags
modified_whole : (o : Option LinkExtSlice)
    → lax_modified_after (option_map whole_tag o) ≡ whole_payload None (modified_after o)
modified_whole None = refl
modified_whole (Some (Vlan bytes)) = refl
modified_whole (Some (Macsec m)) = grind arith

named_whole : (p : EtherPayload) (o : Option LinkExtSlice)
    → lax_named_after (complete_ether p) (option_map whole_tag o)
    ≡ option_map complete_ether (named_by (Some (link_slice.EtherPayload p)) o)
named_whole p None = refl
named_whole p (Some t) = payload_same t

-- the payload below the layers
below_is : (p : EtherPayload) (t : Tagged) → tags_in most_tags p ≡ Ok t →
    lax_after_tags (map whole_tag t.tags)
    (lax_named_after (complete_ether p) (lax_last_of (map whole_tag t.tags)))
    ≡ lax_after_tags (map whole_tag t.tags) (option_map complete_ether t.last)
below_is p t is =
    ap (λ o. lax_after_tags (map whole_tag t.tags) (lax_named_after (complete_ether p) o))
    (last_whole t.tags)
    ∙ ap (lax_after_tags (map whole_tag t.tags)) (named_whole p (last_of t.tags)
    ∙ ap (option_map complete_ether) (last_is most_tags (Some (link_slice.EtherPayload p)) p t refl is))

after_tags_whole : (tags : List LinkExtSlice) (q : EtherPayload)
    → lax_after_tags (map whole_tag tags) (Some (complete_ether q))
    ≡ lax.Ether (complete_ether (record q { len_source = source_after tags }))
after_tags_whole tags q = ap (λ b. lax.Ether (bounded b (complete_ether q))) (bound_whole Slice tags)

modified_is : (tags : List LinkExtSlice)
    → lax_after_tags (map whole_tag tags) None ≡ whole_payload None (modified_after (last_of tags))
modified_is tags = ap lax_modified_after (last_whole tags) ∙ modified_whole (last_of tags)

layers_whole : WholeParts → (tags : List LinkExtSlice) (last : Option EtherPayload)
    (layers : HeaderLayers) → layers_after tags last ≡ Ok layers
    → AreWhole (lax_after_tags (map whole_tag tags) (option_map complete_ether last))
    (lax_headers_in (option_map complete_ether last)) layers
layers_whole law tags None layers is =
    subst (λ (l : HeaderLayers). AreWhole (lax_after_tags (map whole_tag tags) None) (no_lax_headers None) l)
    (grind arith) (record { same = refl; payload = modified_is tags })
layers_whole law tags (Some q) layers is =
    subst (λ (x : LaxPayload). AreWhole x (lax_headers_in (Some (complete_ether q))) layers)
    (sym (after_tags_whole tags q))
    (layer_cases law (q.ether_type.0 == ipv4_type) (q.ether_type.0 == ipv6_type)
    (q.ether_type.0 == arp_type) q.payload (record q { len_source = source_after tags }) layers is)

-- fields of the tags
fields_whole : (tags : List LinkExtSlice) → map lax_fields_of (map whole_tag tags) ≡ map fields_of tags
fields_whole [] = refl
fields_whole (Vlan bytes ∷ tags) = ap (λ (xs : List LinkExtHeader). fields_of (Vlan bytes) ∷ xs) (fields_whole tags)
fields_whole (Macsec m ∷ tags) = ap (λ (xs : List LinkExtHeader). fields_of (Macsec m) ∷ xs) (fields_whole tags)

abbrev whole_tagged : Tagged → LaxTagged
whole_tagged t = record {
  tags = map whole_tag t.tags;
  len = t.len;
  last = option_map complete_ether t.last;
  stop = None;
}

with_layers : WholeParts → (link_len : ℕ) (link : Option LinkHeader) (p : EtherPayload) (t : Tagged)
    (r : Result HeaderLayers SliceError) (h : Headers) → tags_in most_tags p ≡ Ok t
    → layers_after t.tags t.last ≡ r → headers_with link t.tags (later t.len r) ≡ Ok h
    → lax_headers_tagged link_len link (complete_ether p) (whole_tagged t)
    (lax_headers_in (option_map complete_ether t.last)) ≡ whole_headers h
with_layers law link_len link p t (Ok layers) h tagged at is =
    let whole = layers_whole law t.tags t.last layers at in
    let payload = ap (or_else (lax_headers_in (option_map complete_ether t.last)).payload)
    (below_is p t tagged) ∙ whole.payload in
    let net = ap (λ (l : LaxHeaderLayers). l.net) whole.same in
    let header = ap (λ (l : LaxHeaderLayers). l.transport) whole.same in
    let stop = ap (λ (l : LaxHeaderLayers). first_stop None (option_map (stop_by (link_len + t.len)) l.stop)) whole.same in
    (λ i. record {
      link = link;
      link_exts = fields_whole t.tags i;
      net = net i;
      transport = header i;
      payload = payload i;
      stop = stop i;
    }) ∙ grind arith
with_layers law link_len link p t (Err e) h tagged at is = cc

with_tags : WholeParts → (link_len : ℕ) (link : Option LinkHeader) (p : EtherPayload)
    (r : Result Tagged SliceError) (h : Headers) → tags_in most_tags p ≡ r
    → headers_tagged link r ≡ Ok h → lax_headers_after link_len link p ≡ whole_headers h
with_tags law link_len link p (Ok t) h at is = rw (tags_whole law 3 p t at)
    (with_layers law link_len link p t (layers_after t.tags t.last) h at refl is)
with_tags law link_len link p (Err e) h at is = cc

headers_whole : WholeParts → (link_len : ℕ) (link : Option LinkHeader) (p : EtherPayload) (h : Headers)
    → headers_after link p ≡ Ok h → lax_headers_after link_len link p ≡ whole_headers h
headers_whole law link_len link p h is = with_tags law link_len link p (tags_in most_tags p) h refl is

later_ok : (n : ℕ) (r : Result Headers SliceError) (h : Headers) → later n r ≡ Ok h → r ≡ Ok h
later_ok n r h is = grind arith

frame_whole : WholeParts → (r : Result (List ℕ) LenError) (h : Headers) → in_frame r ≡ Ok h
    → in_lax_frame r ≡ Ok (whole_headers h)
frame_whole law (Ok frame) h is = ap Ok (headers_whole law ethernet_len
    (Some (Ethernet2 (ethernet_header_of frame))) (payload_of frame) h (later_ok ethernet_len _ h is))
frame_whole law (Err e) h is = cc

pub ethernet_whole : WholeParts → (bytes : List ℕ) (h : Headers) → ethernet_headers bytes ≡ Ok h
    → lax_ethernet_headers bytes ≡ Ok (whole_headers h)
ethernet_whole law bytes h is = frame_whole law (whole_at Ethernet2Header ethernet_len bytes) h is

pub ether_type_whole : WholeParts → (t : EtherType) (bytes : List ℕ) (h : Headers)
    → ether_type_headers t bytes ≡ Ok h → lax_ether_type_headers t bytes ≡ whole_headers h
ether_type_whole law t bytes h is = headers_whole law 0 None (ether_payload t bytes) h is

-- without a link header
ip4_whole : WholeParts → (bytes : List ℕ) (r : Result Ipv4Packet Ipv4Fault) (layers : HeaderLayers)
    → ipv4_packet_at bytes ≡ r → strict.ip_layers (length bytes) (of_ipv4 (with_ipv4_headers r)) ≡ Ok layers
    → of_lax_ipv4_headers (lax_ipv4_packet_at bytes) ≡ Ok (whole_layers layers)
ip4_whole law bytes (Ok packet) layers at is = rw (law.ipv4 bytes packet at)
    (ap Ok (packet_whole (length bytes) (length packet.header + length (auth_bytes packet.auth))
    (lax_ipv4_value (whole_ipv4 packet)) (ipv4_payload packet) layers is))
ip4_whole law bytes (Err e) layers at is = cc

ip6_there : (bytes : List ℕ) (parts : IpHeaders × IpPayload)
    (r : Result LaxIpv6Headers (HeaderSliceError Ipv6HeaderFault)) (layers : HeaderLayers)
    → IsThere r parts → in_packet (length bytes) parts.0 parts.1 ≡ Ok layers
    → of_lax_ipv6_headers r ≡ Ok (whole_layers layers)
ip6_there bytes parts r layers there is =
    rw (there.1) (ap Ok (packet_whole (length bytes) there.0 parts.0 parts.1 layers is))

ip6_whole : (bytes : List ℕ) (r : Result (IpHeaders × IpPayload) Ipv6Fault) (layers : HeaderLayers)
    → ipv6_headers_at bytes ≡ r → strict.ip_layers (length bytes) (of_ipv6 r) ≡ Ok layers
    → of_lax_ipv6_headers (lax_ipv6_headers_at bytes) ≡ Ok (whole_layers layers)
ip6_whole bytes (Ok parts) layers at is = ip6_there bytes parts (lax_ipv6_headers_at bytes) layers
    (after_whole bytes (header_at bytes) parts at) is
ip6_whole bytes (Err e) layers at is = cc

version_cases : WholeParts → (none four six : Bool) (bytes : List ℕ) (e : HeadersSliceError)
    (f : HeadersSliceError) (g : HeaderSliceError IpHeaderFault) (k : HeaderSliceError IpHeaderFault)
    (layers : HeaderLayers) →
    strict.ip_layers (length bytes) (if none then Err e
    else (if four then of_ipv4 (ipv4_headers_at bytes)
    else (if six then of_ipv6 (ipv6_headers_at bytes) else Err f))) ≡ Ok layers →
    (if none then Err g
    else (if four then of_lax_ipv4_headers (lax_ipv4_packet_at bytes)
    else (if six then of_lax_ipv6_headers (lax_ipv6_headers_at bytes) else Err k)))
    ≡ Ok (whole_layers layers)
version_cases law true four six bytes e f g k layers is = cc
version_cases law false true six bytes e f g k layers is =
    ip4_whole law bytes (ipv4_packet_at bytes) layers refl is
version_cases law false false true bytes e f g k layers is =
    ip6_whole bytes (ipv6_headers_at bytes) layers refl is
version_cases law false false false bytes e f g k layers is = cc

-- every IP packet has a packet of the network layer
ip_net : (found : ℕ) (r : Result (IpHeaders × IpPayload) HeadersSliceError) (layers : HeaderLayers)
    → strict.ip_layers found r ≡ Ok layers → HasNet layers
ip_net found (Ok parts) layers is = net_of _ _ parts.1 (message_in parts.1) layers is
ip_net found (Err e) layers is = cc

ip_case : WholeParts → (bytes : List ℕ) (r : Result HeaderLayers SliceError) (h : Headers)
    → strict.ip_layers (length bytes) (ip_headers_at bytes) ≡ r → headers_with None [] r ≡ Ok h
    → lax_ip_packet_headers bytes ≡ Ok (whole_headers h)
ip_case law bytes (Ok layers) h at is =
    let same : lax_ip_layers bytes ≡ Ok (whole_layers layers) =
    version_cases law (length bytes == 0) (version_of bytes == 4) (version_of bytes == 6) bytes _ _ _ _ layers at in
    let whole = with_net lax.Empty (whole_layers layers) layers refl
    (ip_net (length bytes) (ip_headers_at bytes) layers at) in
    let payload = whole.payload in
    rw same (grind arith)
ip_case law bytes (Err e) h at is = cc

pub ip_whole : WholeParts → (bytes : List ℕ) (h : Headers) → ip_packet_headers bytes ≡ Ok h
    → lax_ip_packet_headers bytes ≡ Ok (whole_headers h)
ip_whole law bytes h is =
    ip_case law bytes (strict.ip_layers (length bytes) (ip_headers_at bytes)) h refl is
