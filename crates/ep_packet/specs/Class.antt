-- The class of an Ethernet II frame: a whole message, a fragment, something else, or refused.
use Rattle.std.specs.Prelude.{ℕ, ⊤, ◌<◌, ◌^◌, ◌==◌, if◌then◌else◌, Bool, List, Option, Some, None, Result, Ok, Err}
use Rattle.std.specs.Option.{option_map_or}
use Rattle.std.specs.Result.{result_ok}
use Rattle.ep_base.specs.declared.err.layer.Layer.TheVariants.{Ethernet2Header}
use Rattle.ep_ip.specs.Ipv4 as v4
use Rattle.ep_ip.specs.Ipv6 as v6
use Rattle.ep_ipslice.specs.Ipv4Packet.{ipv4_packet_at}
use Rattle.ep_ipslice.specs.Ipv6Packet.{ipv6_packet_at, extensions_in}
use Rattle.ep_ipslice.specs.Packet.{FragmentFields, IpPayload, Ipv4Packet, Ipv6Packet, ipv4_fragment_fields}
use Rattle.ep_ipslice.specs.Packet.{ipv4_payload, ipv6_fragment_fields}
use Rattle.ep_link.specs.Arp.{packet_at}
use Rattle.ep_link.specs.Ethernet.{ethernet_len, payload_of}
use Rattle.ep_packet.specs.Readable.{ReadMessage, as_read, message_at}
use Rattle.ep_packet.specs.Readable.ReadMessage.{Icmpv4, Icmpv6, Raw, Tcp, Udp}
use Rattle.ep_packet.specs.Sliced.{arp_type, ipv4_type, ipv6_type}
use Rattle.ep_packet.specs.Tags.{Tagged, most_tags, tags_in, vlan_ids_of}
use Rattle.ep_packet.specs.declared.addresses.Addresses.{Addresses}
use Rattle.ep_packet.specs.declared.addresses.Addresses.TheVariants.{V4, V6}
use Rattle.ep_packet.specs.declared.class.Class.{Class as ReturnedClass}
use Rattle.ep_packet.specs.declared.class.Class.TheVariants as returned
use Rattle.ep_packet.specs.declared.err.packet.slice_error.SliceError.{SliceError}
use Rattle.ep_packet.specs.declared.net.net_slice.NetSlice.{NetSlice}
use Rattle.ep_packet.specs.declared.net.net_slice.NetSlice.TheVariants as net
use Rattle.ep_packet.specs.declared.sliced_fragment.SlicedFragment.{SlicedFragment}
use Rattle.ep_packet.specs.declared.sliced_packet.SlicedPacket.{SlicedPacket}
use Rattle.ep_packet.specs.declared.transport.transport_slice.TransportSlice.{TransportSlice}
use Rattle.ep_packet.specs.declared.transport.transport_slice.TransportSlice.TheVariants as transport
use Rattle.ep_tag.specs.Ether.{EtherPayload}
use Rattle.ep_tag.specs.Prefix.{whole_at}

-- what identifies a datagram: its fragments share it, and no others do
pub record FragmentName : Type 0 where
  pub vlan_ids : List ℕ
  pub addresses : Addresses
  pub identification : ℕ
  pub number : ℕ

-- a message in a datagram that isn't fragmented, with all its bytes and as it is read; a fragment:
-- its offset in units of 8 bytes, whether more follow, and its bytes; something else; or a frame
-- that isn't whole or breaks its format
pub data Class : Type 0 where
  Whole : (addresses : Addresses) → (number : ℕ) → (bytes : List ℕ)
      → (message : ReadMessage) → Class
  Cut : (name : FragmentName) → (offset : ℕ) → (more : Bool) → (bytes : List ℕ) → Class
  Other : Class
  Refused : Class

abbrev pub ipv4_addresses : Ipv4Packet → Addresses
ipv4_addresses packet = V4 (v4.source_of packet.header) (v4.destination_of packet.header)

abbrev pub ipv6_addresses : Ipv6Packet → Addresses
ipv6_addresses packet = V6 (v6.source_of packet.header) (v6.destination_of packet.header)

-- a fragment, if these fields say so: after a fragment header that doesn't say so, another one may
abbrev pub fragmented_class : List ℕ → Addresses → IpPayload → Option FragmentFields → Class
fragmented_class vlan_ids addresses p None = Other
fragmented_class vlan_ids addresses p (Some fields) =
    if v4.is_fragmenting fields.more fields.offset
    then Cut (record {
      vlan_ids = vlan_ids;
      addresses = addresses;
      identification = fields.identification;
      number = p.ip_number.0;
    }) fields.offset fields.more p.payload
    else Other

-- the class of an IP packet with this payload, after VLAN tags with these identifiers: a fragment,
-- or else a message, if that can be read (RFC 791; RFC 8200, section 4.5)
abbrev pub ip_class : List ℕ → Addresses → IpPayload → Option FragmentFields → Class
ip_class vlan_ids addresses p fields =
    if p.fragmented then fragmented_class vlan_ids addresses p fields
    else option_map_or (λ message. Whole addresses p.ip_number.0 p.payload message)
    (result_ok (message_at p.ip_number.0 p.payload)) Refused

-- by what the last ether type names
abbrev pub payload_class : List ℕ → EtherPayload → Class
payload_class vlan_ids p =
    if p.ether_type.0 == ipv4_type
    then option_map_or (λ packet. ip_class vlan_ids (ipv4_addresses packet) (ipv4_payload packet)
    (Some (ipv4_fragment_fields packet.header))) (result_ok (ipv4_packet_at p.payload)) Refused
    else (if p.ether_type.0 == ipv6_type
    then option_map_or (λ packet. ip_class vlan_ids (ipv6_addresses packet) packet.payload
    (ipv6_fragment_fields (extensions_in packet))) (result_ok (ipv6_packet_at p.payload)) Refused
    else (if p.ether_type.0 == arp_type
    then option_map_or (λ packet. Other) (result_ok (packet_at p.payload)) Refused else Other))

-- by what follows the link header: tags, and what the last ether type names, if it names anything
abbrev pub class_of : List ℕ → Class
class_of bytes = option_map_or (λ frame. option_map_or (λ (tagged : Tagged).
    option_map_or (λ p. payload_class (vlan_ids_of tagged.tags) p) tagged.last Other)
    (result_ok (tags_in most_tags (payload_of frame))) Refused)
    (result_ok (whole_at Ethernet2Header ethernet_len bytes)) Refused

-- the class of a sliced packet: its message is the transport layer's, or else the bytes
abbrev pub transport_message : List ℕ → Option TransportSlice → ReadMessage
transport_message bytes None = Raw bytes
transport_message bytes (Some (transport.Udp m)) = Udp m
transport_message bytes (Some (transport.Tcp m)) = Tcp m
transport_message bytes (Some (transport.Icmpv4 m)) = Icmpv4 m
transport_message bytes (Some (transport.Icmpv6 m)) = Icmpv6 m

abbrev pub whole_class : Addresses → IpPayload → Option TransportSlice → Class
whole_class addresses p message = Whole addresses p.ip_number.0 p.payload
    (transport_message p.payload message)

abbrev pub net_class : List ℕ → Option NetSlice → Option TransportSlice → Class
net_class vlan_ids None message = Other
net_class vlan_ids (Some (net.Ipv4 packet)) message =
    if (ipv4_payload packet).fragmented
    then fragmented_class vlan_ids (ipv4_addresses packet) (ipv4_payload packet)
    (Some (ipv4_fragment_fields packet.header))
    else whole_class (ipv4_addresses packet) (ipv4_payload packet) message
net_class vlan_ids (Some (net.Ipv6 packet)) message =
    if packet.payload.fragmented then fragmented_class vlan_ids (ipv6_addresses packet) packet.payload
    (ipv6_fragment_fields (extensions_in packet))
    else whole_class (ipv6_addresses packet) packet.payload message
net_class vlan_ids (Some (net.Arp packet)) message = Other

abbrev pub packet_parsed : SlicedPacket → Class
packet_parsed packet = net_class (vlan_ids_of packet.link_exts.items) packet.net packet.transport

abbrev pub sliced_class : Result SlicedPacket SliceError → Class
sliced_class (Ok packet) = packet_parsed packet
sliced_class (Err e) = Refused

-- all fields of a fragment: offset, whether more follow, and bytes
abbrev pub fragment_values : SlicedFragment → ℕ × Bool × List ℕ
fragment_values fragment = (fragment.offset, fragment.more_fragments, fragment.bytes.now)

-- the class that the code returns
abbrev pub as_class : ReturnedClass → Class
as_class (returned.Whole m) = Whole m.addresses m.ip_number.0 m.bytes.now (as_read m.message)
as_class (returned.Cut m) = Cut (record {
  vlan_ids = m.vlan_ids.items;
  addresses = m.addresses;
  identification = m.identification;
  number = m.ip_number.0;
}) m.fragment.offset m.fragment.more_fragments m.fragment.bytes.now
as_class returned.Other = Other
as_class returned.Refused = Refused

-- an identification has 16 bits over IPv4
abbrev pub IdentificationFits : Addresses → ℕ → Type 0
IdentificationFits (V4 source destination) identification = identification < 2 ^ 16
IdentificationFits (V6 source destination) identification = ⊤

abbrev pub ClassFits : ReturnedClass → Type 0
ClassFits (returned.Whole m) = ⊤
ClassFits (returned.Cut m) = IdentificationFits m.addresses m.identification
ClassFits returned.Other = ⊤
ClassFits returned.Refused = ⊤
