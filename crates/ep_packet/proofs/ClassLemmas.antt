-- The class of a frame is that of its layers.
use Rattle.std.proofs.Common.{arith, ◌≡◌, ◌↔◌, ℕ, Bool, true, false, cond, List, Option, Some, None, Result, Ok, Err}
use Rattle.std.proofs.Common.{IsErr, IfOk, if◌then◌else◌, refl}
use Rattle.std.proofs.lemmas.Bool.Decides.{nat_tests}
use Rattle.std.specs.Option.{option_map_or}
use Rattle.std.specs.Prelude.{⊤}
use Rattle.std.specs.Result.{result_ok}
use Rattle.ep_base.specs.declared.err.len_error.LenError.{LenError}
use Rattle.ep_ipslice.specs.Ipv6Packet.{extensions_in}
use Rattle.ep_ipslice.specs.Packet.{FragmentFields, IpPayload, Ipv4Packet, Ipv6Packet, IsWholeIpv6}
use Rattle.ep_ipslice.specs.Packet.{ipv4_fragment_fields, ipv4_payload, ipv6_fragment_fields}
use Rattle.ep_ipslice.specs.declared.err.ipv4.slice_error.SliceError.{SliceError as Ipv4Fault}
use Rattle.ep_ipslice.specs.declared.err.ipv6.slice_error.SliceError.{SliceError as Ipv6Fault}
use Rattle.ep_link.specs.Ethernet.{payload_of}
use Rattle.ep_link.specs.declared.link.link_slice.LinkSlice.{LinkSlice}
use Rattle.ep_packet.specs.Class.{Class, class_of, fragmented_class, ip_class, ipv4_addresses, ipv6_addresses}
use Rattle.ep_packet.specs.Class.{net_class, payload_class, sliced_class, whole_class}
use Rattle.ep_packet.specs.Class.Class.{Other, Refused, Whole}
use Rattle.ep_packet.specs.Readable.{ReadMessage, message_at}
use Rattle.ep_packet.specs.Readable.ReadMessage.{Icmpv4, Icmpv6, Raw, Tcp, Udp}
use Rattle.ep_packet.specs.SliceFault.{later}
use Rattle.ep_packet.specs.Sliced.{Layers, arp_layers, result_within, in_frame, ipv4_layers, ipv6_layers, layers_in}
use Rattle.ep_packet.specs.Sliced.{packet_tagged, packet_with, read_transport, sliced_ethernet}
use Rattle.ep_packet.specs.Tags.{Tagged, most_tags, tags_in, vlan_ids_of}
use Rattle.ep_packet.specs.declared.addresses.Addresses.{Addresses}
use Rattle.ep_packet.specs.declared.err.packet.slice_error.SliceError.{SliceError}
use Rattle.ep_packet.specs.declared.net.net_slice.NetSlice.TheVariants as net
use Rattle.ep_packet.specs.declared.sliced_packet.SlicedPacket.{SlicedPacket}
use Rattle.ep_packet.specs.declared.transport.transport_slice.TransportSlice.{TransportSlice}
use Rattle.ep_tag.specs.Ether.{EtherPayload}
use Rattle.ep_tag.specs.declared.link.link_ext_slice.LinkExtSlice.{LinkExtSlice}

-- the class of what was found, else a frame is refused
abbrev pub class_where : {A E : Type 0} → (A → Class) → Result A E → Class
class_where class r = option_map_or class (result_ok r) Refused

-- the class of an IP packet after tags with these identifiers
abbrev pub ipv4_class : List ℕ → Ipv4Packet → Class
ipv4_class ids packet = ip_class ids (ipv4_addresses packet) (ipv4_payload packet)
    (Some (ipv4_fragment_fields packet.header))

abbrev pub ipv6_class : List ℕ → Ipv6Packet → Class
ipv6_class ids packet = ip_class ids (ipv6_addresses packet) packet.payload (ipv6_fragment_fields (extensions_in packet))

abbrev pub ipv4_class_at : List ℕ → Result Ipv4Packet Ipv4Fault → Class
ipv4_class_at ids r = class_where (λ packet. ipv4_class ids packet) r

abbrev pub ipv6_class_at : List ℕ → Result Ipv6Packet Ipv6Fault → Class
ipv6_class_at ids r = class_where (λ packet. ipv6_class ids packet) r

-- of what the last ether type names, and of what follows a link header
abbrev pub last_class : List ℕ → Option EtherPayload → Class
last_class ids last = option_map_or (λ p. payload_class ids p) last Other

abbrev pub tagged_class : Result Tagged SliceError → Class
tagged_class r = class_where (λ (t : Tagged). last_class (vlan_ids_of t.tags) t.last) r

-- the class of the layers, after tags with these identifiers
abbrev pub layers_class : List ℕ → Result Layers SliceError → Class
layers_class ids (Ok layers) = net_class ids layers.net layers.transport
layers_class ids (Err e) = Refused

-- a message is recovered from its slice, where a message of another protocol is all of the bytes
abbrev IsOwn : List ℕ → ReadMessage → Type 0
IsOwn bytes (Raw m) = m ≡ bytes
IsOwn bytes (Icmpv4 m) = ⊤
IsOwn bytes (Tcp m) = ⊤
IsOwn bytes (Udp m) = ⊤
IsOwn bytes (Icmpv6 m) = ⊤

pub chosen : {A : Type 0} (P : A → Type 0) (b : Bool) (x y : A) → P x → P y → P (cond b x y)
chosen P true x y left right = left
chosen P false x y left right = right

abbrev AllOwn : List ℕ → Result ReadMessage SliceError → Type 0
AllOwn bytes r = IfOk r (IsOwn bytes)

-- what is wrong with bytes that are no message
pub unread : (r : Result ReadMessage SliceError) (e : SliceError)
    → Err e ≡ read_transport r → Err e ≡ r
unread r e is = grind arith

-- a fragment over IPv6, by the first fragment header of the packet's own bytes
taken : {X : Type 0} (b : Bool) (x y : X) → b ≡ true → cond b x y ≡ x
taken true x y is = refl
taken false x y is = cc

pub ipv6_fragment_agrees : (ids : List ℕ) (packet : Ipv6Packet) (message : Option TransportSlice)
    (whole : IsWholeIpv6 packet)
    (fields : Option FragmentFields) → packet.payload.fragmented ≡ true
    → extensions_in packet ≡ whole.pieces
    → ipv6_fragment_fields whole.pieces ≡ fields
    → net_class ids (Some (net.Ipv6 packet)) message
    ≡ fragmented_class ids (ipv6_addresses packet) packet.payload fields
ipv6_fragment_agrees ids packet message whole fields is same returned = grind arith

-- the class of a packet, by what was read of its payload
abbrev ChosenClass : Class → Addresses → IpPayload → Bool → Option TransportSlice → Class
ChosenClass fragment addresses p fragmented message = if fragmented then fragment
    else whole_class addresses p message

abbrev message_read : Class → Addresses → IpPayload → Bool
    → Result (Option TransportSlice) SliceError → Class
message_read fragment addresses p fragmented (Ok message) =
    ChosenClass fragment addresses p fragmented message
message_read fragment addresses p fragmented (Err e) = Refused

uncut : (fragment : Class) (addresses : Addresses) (p : IpPayload) (r : Result ReadMessage SliceError)
    → AllOwn p.payload r →
    message_read fragment addresses p false (result_within p.len_source (read_transport r))
    ≡ class_where (λ message. Whole addresses p.ip_number.0 p.payload message) r
uncut fragment addresses p r own = grind arith

payload_parsed : (fragment : Class) (addresses : Addresses) (p : IpPayload) (fragmented : Bool) →
    message_read fragment addresses p fragmented
    (if fragmented then Ok None
    else result_within p.len_source (read_transport (message_at p.ip_number.0 p.payload)))
    ≡ (if fragmented then fragment
    else class_where (λ message. Whole addresses p.ip_number.0 p.payload message)
    (message_at p.ip_number.0 p.payload))
payload_parsed fragment addresses p fragmented = grind arith

pub ipv4_agrees : (ids : List ℕ) (r : Result Ipv4Packet Ipv4Fault)
    → layers_class ids (ipv4_layers r) ≡ ipv4_class_at ids r
ipv4_agrees ids r = grind (arith, nat_tests)

pub ipv6_agrees : (ids : List ℕ) (r : Result Ipv6Packet Ipv6Fault)
    → layers_class ids (ipv6_layers r) ≡ ipv6_class_at ids r
ipv6_agrees ids (Ok packet) = grind arith
ipv6_agrees ids (Err e) = refl

arp_agrees : (ids : List ℕ) (r : Result (List ℕ) LenError)
    → layers_class ids (arp_layers r) ≡ class_where (λ packet. Other) r
arp_agrees ids r = grind arith

chosen_agrees : (ids : List ℕ) (b : Bool) (x y : Result Layers SliceError) (j k : Class)
    → layers_class ids x ≡ j → layers_class ids y ≡ k → layers_class ids (cond b x y) ≡ cond b j k
chosen_agrees ids b x y j k left right = grind arith

last_agrees : (ids : List ℕ) (last : Option EtherPayload)
    → layers_class ids (layers_in last) ≡ last_class ids last
last_agrees ids last = grind (arith, chosen_agrees, ipv4_agrees, ipv6_agrees, arp_agrees)

with_agrees : (header : Option LinkSlice) (tags : List LinkExtSlice) (n m : ℕ)
    (r : Result Layers SliceError) → sliced_class (later n (packet_with header tags (later m r)))
    ≡ layers_class (vlan_ids_of tags) r
with_agrees header tags n m r = grind arith

pub tagged_agrees : (header : Option LinkSlice) (n : ℕ) (r : Result Tagged SliceError)
    → sliced_class (later n (packet_tagged header r)) ≡ tagged_class r
tagged_agrees header n r = grind (arith, with_agrees, last_agrees)

frame_agrees : (r : Result (List ℕ) LenError)
    → sliced_class (in_frame r) ≡ class_where (λ frame. tagged_class (tags_in most_tags (payload_of frame))) r
frame_agrees r = grind (arith, tagged_agrees)

pub class_agrees : (frame : List ℕ) (r : Result SlicedPacket SliceError)
    → r ≡ sliced_ethernet frame → sliced_class r ≡ class_of frame
class_agrees frame r same = grind (arith, frame_agrees)

pub err_is_refused : (r : Result SlicedPacket SliceError) → IsErr r ↔ (sliced_class r ≡ Refused)
err_is_refused r = grind arith

pub refusal_agrees : (frame : List ℕ) (r : Result SlicedPacket SliceError)
    → r ≡ sliced_ethernet frame → IsErr r ↔ (class_of frame ≡ Refused)
refusal_agrees frame r same = rw (← class_agrees frame r same) (err_is_refused r)
