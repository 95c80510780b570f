-- The headers of the network and the transport layer and the payload after them agree with their
-- slices.
use Rattle.std.proofs.Common.{◌≡◌, ◌∙◌, ℕ, ◌+◌, ◌-◌, ◌==◌, Bool, true, false, [], if◌then◌else◌, List, ◌++◌}
use Rattle.std.proofs.Common.{length, Option, Some, None, Result, Ok, Err, refl, sym, ap, append_assoc, length-append}
use Rattle.std.proofs.Common.{arith}
use Rattle.std.proofs.lemmas.List.{append-nil}
use Rattle.std.specs.Option.{option_map, option_map_or}
use Rattle.std.specs.List.{list_any}
use Rattle.ep_base.proofs.Prefixes.{err_ok}
use Rattle.ep_ext.specs.Chain.{Chain, IsPiece, Row, fault_of}
use Rattle.ep_ext.specs.Follow.{has_slot}
use Rattle.ep_ext.specs.Fragment.{fragments}
use Rattle.ep_ext.specs.Ipv4Exts.{auth_bytes, ipv4_exts_of}
use Rattle.ep_ext.specs.Slot.{Order, slot_of}
use Rattle.ep_ext.specs.Value.{Piece, bytes_of, slots, value_of}
use Rattle.ep_ext.specs.declared.net.ipv6_ext_slot.Ipv6ExtSlot.{Ipv6ExtSlot}
use Rattle.ep_ext.specs.declared.net.ipv6_ext_slot.Ipv6ExtSlot.TheVariants.{HopByHop, Destination, Routing, Fragment}
use Rattle.ep_ext.specs.declared.net.ipv6_ext_slot.Ipv6ExtSlot.TheVariants.{Authentication, FinalDestination}
use Rattle.ep_ip.specs.Ipv4 as v4
use Rattle.ep_ip.specs.Ipv6 as v6
use Rattle.ep_ipslice.specs.IpSlice.{ip_packet_at, no_version, with_ipv4, with_ipv6}
use Rattle.ep_ipslice.specs.Ipv4Packet.{ipv4_packet_at}
use Rattle.ep_ipslice.specs.Ipv6Packet.{ipv6_packet_at}
use Rattle.ep_ipslice.specs.Ipv6Walk.{pieces_within}
use Rattle.ep_ipslice.specs.Packet.{IpPayload, Ipv4Packet, Ipv6Packet, IsIpv6Body, IsIpv6Packet, body_source}
use Rattle.ep_ipslice.specs.Packet.{ipv4_payload}
use Rattle.ep_ipslice.specs.declared.err.ip.header_error.HeaderError.TheVariants.{UnsupportedIpVersion}
use Rattle.ep_ipslice.specs.declared.err.ip.headers_error.HeadersError.TheVariants as headers_error
use Rattle.ep_ipslice.specs.declared.err.ip.headers_slice_error.HeadersSliceError.TheVariants as slice_error
use Rattle.ep_ipslice.specs.declared.err.ip.slice_error.SliceError.TheVariants as ip_fault
use Rattle.ep_ipslice.specs.declared.err.ipv4.slice_error.SliceError.{SliceError as Ipv4Fault}
use Rattle.ep_ipslice.specs.declared.err.ipv6.slice_error.SliceError.{SliceError as Ipv6Fault}
use Rattle.ep_ipslice.specs.Ipv6Exts.{is_fragmenting_piece}
use Rattle.ep_link.specs.Arp as arp
use Rattle.ep_packet.specs.HeaderLayers as values
use Rattle.ep_packet.specs.HeaderLayers.{HeaderLayers, in_packet, payload_alone, with_message}
use Rattle.ep_packet.specs.IpHeaders.{with_ipv4_headers}
use Rattle.ep_packet.specs.IpHeadersAt.{ip_headers_at, ipv4_headers_at, ipv6_headers_at}
use Rattle.ep_packet.specs.IpHeadersAt as at
use Rattle.ep_packet.specs.NetHeaders.{of_ip}
use Rattle.ep_packet.specs.NetSlice.{ip_payload_in}
use Rattle.ep_packet.specs.PacketView.{ip_payload_of}
use Rattle.ep_packet.specs.Payload.{Payload, Ether, Ip}
use Rattle.ep_packet.specs.ReadIpHeaders.{IsIpv6Headers}
use Rattle.ep_packet.specs.SameHeaders.{AreFieldsOf, AreNetFields, IsInSlots, IsWholeIn, after_layers, after_packet}
use Rattle.ep_packet.specs.SameHeaders.{transport_fields}
use Rattle.ep_packet.specs.SliceFault.{of_ipv4, of_ipv6}
use Rattle.ep_packet.specs.Sliced as slices
use Rattle.ep_packet.specs.Sliced.{Layers, no_layers, transport_in, with_transport}
use Rattle.ep_packet.specs.declared.err.packet.slice_error.SliceError.{SliceError}
use Rattle.ep_packet.specs.declared.err.packet.slice_error.SliceError.TheVariants.{Len}
use Rattle.ep_packet.specs.declared.net.ip_headers.IpHeaders.{IpHeaders}
use Rattle.ep_packet.specs.declared.net.ip_headers.IpHeaders.TheVariants as ip
use Rattle.ep_packet.specs.declared.net.net_headers.NetHeaders.{NetHeaders}
use Rattle.ep_packet.specs.declared.net.net_slice.NetSlice.{NetSlice}
use Rattle.ep_packet.specs.declared.net.net_slice.NetSlice.TheVariants as net
use Rattle.ep_packet.specs.declared.transport.transport_slice.TransportSlice.{TransportSlice}
use Rattle.ep_packet.specs.declared.transport.transport_slice.TransportSlice.TheVariants as slice
use Rattle.ep_tag.specs.Ether.{EtherPayload}
use Rattle.ep_packet.proofs.Agreement.{SlotsAreViews}
use Rattle.ep_packet.proofs.HeadersAt.{RowsFound, number_is, parts_are}
use Rattle.ep_packet.proofs.HeadersOfMessages.{parts_in, parts_of}

-- the laws of lower layers about packets and rows of extension headers
pub record PacketLaws : Type 0 where
  pub found : RowsFound
  pub views : SlotsAreViews
  pub begins : (bytes : List ℕ) (packet : Ipv6Packet) → ipv6_packet_at bytes ≡ Ok packet
      → IsIpv6Packet bytes packet

-- no header has no bytes
nothing_begins : (position : Ipv6ExtSlot) (header following : List ℕ) → IsPiece position header
    → [] ≡ header ++ following → ⊥
nothing_begins HopByHop header following piece is =
    omega (arith, piece.least, ap length is, length-append header following)
nothing_begins Destination header following piece is =
    omega (arith, piece.least, ap length is, length-append header following)
nothing_begins Routing header following piece is =
    omega (arith, piece.least, ap length is, length-append header following)
nothing_begins Fragment header following piece is =
    omega (arith, piece.whole, ap length is, length-append header following)
nothing_begins Authentication header following piece is =
    omega (arith, piece.least, ap length is, length-append header following)
nothing_begins FinalDestination header following piece is =
    omega (arith, piece.least, ap length is, length-append header following)

alone : (order : Order) (first : ℕ) (pieces : List Piece) (last : ℕ)
    → Row order [] first pieces last → Chain order first (bytes_of pieces) pieces last []
alone order first pieces last row = record {
  row = row;
  cut = sym (append-nil (bytes_of pieces));
  ended = λ position header following named piece is. nothing_begins position header following piece is;
}

-- rows of the same bytes are the same
rows_same : RowsFound → (order : Order) (first : ℕ) (p q : List Piece) (last end : ℕ)
    → Row order [] first p last → Row order [] first q end → bytes_of p ≡ bytes_of q → p ≡ q
rows_same found order first p q last end row other same =
    sym (found order first (bytes_of p) p last [] (alone order first p last row))
    ∙ ap (λ (xs : List ℕ). pieces_within (length xs) order [] first xs) same
    ∙ found order first (bytes_of q) q end [] (alone order first q end other)

no_slot_taken : (passed : List Ipv6ExtSlot) (last : ℕ) → has_slot last ≡ false
    → (slot_of passed last ≡ None) × ((last == 0) ≡ false)
no_slot_taken passed last is = grind arith

none_named : (position : Ipv6ExtSlot) (o : Option Ipv6ExtSlot) → o ≡ None → o ≡ Some position → ⊥
none_named position o none is = cc

no_fault : (pieces : List Piece) (last : ℕ) (rest : List ℕ) → slot_of (slots pieces) last ≡ None
    → (last == 0) ≡ false → fault_of slot_of pieces last rest ≡ None
no_fault pieces last rest none other = rw (none, other) refl

-- the headers of a packet whose extension headers all have a slot
abbrev value_in : (packet : Ipv6Packet) (h : NetHeaders) → IsInSlots packet h → IpHeaders
value_in packet h placed = ip.Ipv6 (v6.ipv6_header_of packet.header) (value_of placed.pieces)

headers_in_slots : PacketLaws → (bytes : List ℕ) (packet : Ipv6Packet) (h : NetHeaders)
    → IsIpv6Packet bytes packet → (placed : IsInSlots packet h)
    → IsIpv6Headers bytes (value_in packet h placed) packet.payload
headers_in_slots laws bytes packet h is placed =
    let first : ℕ = v6.next_header_of packet.header in
    let q = laws.views first placed.pieces placed.last placed.row in
    let same : bytes_of placed.pieces ≡ bytes_of is.pieces =
    grind arith in
    let seen : q.0 ≡ is.pieces =
    grind (arith, rows_same) in
    let last_same : placed.last ≡ is.last =
    grind (arith, number_is) in
    let none = no_slot_taken (slots placed.pieces) placed.last (ap has_slot last_same ∙ is.ended) in
    let parted : list_any is_fragmenting_piece is.pieces
    ≡ option_map_or fragments (value_of placed.pieces).fragment false =
    grind arith in
    let payload : List ℕ = packet.payload.payload in
    let body : List ℕ = bytes_of placed.pieces ++ payload in
    let source = body_source packet.header (length bytes - 40) in
    let begins : IsIpv6Body bytes packet.header source body =
    grind (arith, append_assoc, length-append) in
    grind arith

-- the layers of headers that belong to these layers of slices; without an IP packet, this is the
-- payload
abbrev pub returned : Payload → Option NetHeaders → Layers → HeaderLayers
returned below h layers =
    record {
      net = h;
      transport = option_map transport_fields layers.transport;
      payload = after_layers layers.net layers.transport below;
    }

-- a packet and the message in it
layers_are : (packet : NetSlice) (n : ℕ) (r : Result (Option TransportSlice) SliceError)
    (layers : Layers) → with_transport packet n r ≡ Ok layers →
    (o : Option TransportSlice) × (r ≡ Ok o)
    × (record { net = Some packet; transport = o } ≡ layers)
layers_are packet n r layers is = grind arith

joined : (packet : NetSlice) (position : ℕ) (h : IpHeaders) (p : IpPayload) (below : Payload)
    (o : Option TransportSlice) → after_packet packet ≡ Ip p →
    with_message (of_ip h) position p (Ok (option_map parts_of o))
    ≡ Ok (returned below (Some (of_ip h)) (record { net = Some packet; transport = o }))
joined packet position h p below o following = grind arith

packet_same : (packet : NetSlice) (n found : ℕ) (h : IpHeaders) (p : IpPayload) (below : Payload)
    (headers : Option NetHeaders) (layers : Layers) →
    ip_payload_in packet ≡ Some p → after_packet packet ≡ Ip p
    → with_transport packet n (transport_in p) ≡ Ok layers → headers ≡ Some (of_ip h) →
    IsWholeIn (ip_payload_of layers.net) layers.transport
    → in_packet found h p ≡ Ok (returned below headers layers)
packet_same packet n found h p below headers layers payload following is fields whole =
    let parts = layers_are packet n (transport_in p) layers is in
    let counts = λ (datagram : List ℕ) (named : parts.0 ≡ Some (slice.Udp datagram)).
    whole p datagram (ap (λ (l : Layers). ip_payload_of l.net) (sym parts.2) ∙ payload)
    (ap (λ (l : Layers). l.transport) (sym parts.2) ∙ named) in
    ap (with_message (of_ip h) (values.packet_len h found - length p.payload) p)
    (parts_in p parts.0 parts.1 counts)
    ∙ joined packet (values.packet_len h found - length p.payload) h p below parts.0 following
    ∙ (λ i. Ok (returned below (sym fields i) (parts.2 i)))

-- the fields of the packet that the layers have
fields_in : (packet : NetSlice) (n : ℕ) (r : Result (Option TransportSlice) SliceError)
    (headers : Option NetHeaders) (layers : Layers) → with_transport packet n r ≡ Ok layers
    → AreNetFields layers.net headers →
    (fields : NetHeaders) × (headers ≡ Some fields) × AreFieldsOf packet fields
fields_in packet n r headers layers is are = grind arith

-- of version 4
ipv4_same : (found : ℕ) (below : Payload) (headers : Option NetHeaders) (layers : Layers)
    (r : Result Ipv4Packet Ipv4Fault) → slices.ipv4_layers r ≡ Ok layers
    → AreNetFields layers.net headers →
    IsWholeIn (ip_payload_of layers.net) layers.transport
    → values.ipv4_layers found (with_ipv4_headers r) ≡ Ok (returned below headers layers)
ipv4_same found below headers layers (Ok packet) is are whole =
    let n : ℕ = length packet.header + length (auth_bytes packet.auth) in
    let fields = fields_in (net.Ipv4 packet) n
    (transport_in (ipv4_payload packet)) headers layers is are in
    packet_same (net.Ipv4 packet) n found
    (ip.Ipv4 (v4.ipv4_header_of packet.header) (ipv4_exts_of packet.auth))
    (ipv4_payload packet) below headers layers refl refl is (fields.1 ∙ ap Some fields.2) whole
ipv4_same found below headers layers (Err e) is are whole = absurd (err_ok (of_ipv4 e) layers is)

-- of version 6
ipv6_same : PacketLaws → (found : ℕ) (below : Payload) (headers : Option NetHeaders)
    (layers : Layers) (bytes : List ℕ) (r : Result Ipv6Packet Ipv6Fault) → ipv6_packet_at bytes ≡ r
    → slices.ipv6_layers r ≡ Ok layers →
    AreNetFields layers.net headers → IsWholeIn (ip_payload_of layers.net) layers.transport
    → values.ipv6_layers found (ipv6_headers_at bytes) ≡ Ok (returned below headers layers)
ipv6_same laws found below headers layers bytes (Ok packet) at is are whole =
    let n : ℕ = length packet.header + length packet.exts.slice in
    let fields = fields_in (net.Ipv6 packet) n
    (transport_in packet.payload) headers layers is are in
    let placed : IsInSlots packet fields.0 = fields.2 in
    let h : IpHeaders = value_in packet fields.0 placed in
    ap (values.ipv6_layers found)
    (parts_are laws.found bytes h packet.payload
    (headers_in_slots laws bytes packet fields.0 (laws.begins bytes packet at) placed))
    ∙ packet_same (net.Ipv6 packet) n found h packet.payload below headers layers refl refl is
    (fields.1 ∙ ap Some placed.fields) whole
ipv6_same laws found below headers layers bytes (Err e) at is are whole = grind arith

layer_cases : PacketLaws → (a b c : Bool) (bytes : List ℕ) (q : EtherPayload)
    (headers : Option NetHeaders) (layers : Layers) →
    (if a then slices.ipv4_layers (ipv4_packet_at bytes)
    else (if b then slices.ipv6_layers (ipv6_packet_at bytes)
    else (if c then slices.arp_layers (arp.packet_at bytes) else Ok no_layers))) ≡ Ok layers →
    AreNetFields layers.net headers → IsWholeIn (ip_payload_of layers.net) layers.transport →
    (if a then values.ipv4_layers (length bytes) (ipv4_headers_at bytes)
    else (if b then values.ipv6_layers (length bytes) (ipv6_headers_at bytes)
    else (if c then values.arp_layers (arp.packet_at bytes) else Ok (payload_alone (Ether q)))))
    ≡ Ok (returned (Ether q) headers layers)
layer_cases laws true b c bytes q headers layers is are whole = grind (arith, ipv4_same)
layer_cases laws false true c bytes q headers layers is are whole =
    ipv6_same laws (length bytes) (Ether q) headers layers bytes
    (ipv6_packet_at bytes) refl is are whole
layer_cases laws false false true bytes q headers layers is are whole = grind arith
layer_cases laws false false false bytes q headers layers is are whole = grind arith

-- the layers in what an ether type names
pub layers_same : PacketLaws → (p q : EtherPayload) (headers : Option NetHeaders) (layers : Layers)
    → p.ether_type ≡ q.ether_type → p.payload ≡ q.payload → slices.layers_of p ≡ Ok layers →
    AreNetFields layers.net headers → IsWholeIn (ip_payload_of layers.net) layers.transport
    → values.layers_of q ≡ Ok (returned (Ether q) headers layers)
layers_same laws p q headers layers typed same is are whole =
    let n : ℕ = q.ether_type.0 in
    layer_cases laws (n == slices.ipv4_type) (n == slices.ipv6_type)
    (n == slices.arp_type) q.payload q headers layers
    (sym (λ i. slices.layers_of
    (record { ether_type = typed i; len_source = p.len_source; payload = same i })) ∙ is)
    are whole

-- an IP packet of either version
ip4_agrees : (layers : Layers) (r : Result Ipv4Packet Ipv4Fault)
    → slices.ip_layers (with_ipv4 r) ≡ Ok layers → slices.ipv4_layers r ≡ Ok layers
ip4_agrees layers r is = grind arith

ip6_agrees : (layers : Layers) (r : Result Ipv6Packet Ipv6Fault)
    → slices.ip_layers (with_ipv6 r) ≡ Ok layers → slices.ipv6_layers r ≡ Ok layers
ip6_agrees layers r is = grind arith

of_ip4 : (found : ℕ) (x : HeaderLayers) (r : Result (IpHeaders × IpPayload) Ipv4Fault)
    → values.ipv4_layers found r ≡ Ok x → values.ip_layers found (at.of_ipv4 r) ≡ Ok x
of_ip4 found x r is = grind arith

of_ip6 : (found : ℕ) (x : HeaderLayers) (r : Result (IpHeaders × IpPayload) Ipv6Fault)
    → values.ipv6_layers found r ≡ Ok x → values.ip_layers found (at.of_ipv6 r) ≡ Ok x
of_ip6 found x r is = grind arith

ip_cases : PacketLaws → (a b c : Bool) (bytes : List ℕ) (below : Payload)
    (headers : Option NetHeaders) (layers : Layers) →
    slices.ip_layers (if a then Err (ip_fault.Len no_version)
    else (if b then with_ipv4 (ipv4_packet_at bytes)
    else (if c then with_ipv6 (ipv6_packet_at bytes)
    else Err (ip_fault.IpHeaders
    (headers_error.Ip (UnsupportedIpVersion (v4.version_of bytes))))))) ≡ Ok layers →
    AreNetFields layers.net headers → IsWholeIn (ip_payload_of layers.net) layers.transport →
    values.ip_layers (length bytes) (if a then Err (slice_error.Len no_version)
    else (if b then at.of_ipv4 (ipv4_headers_at bytes)
    else (if c then at.of_ipv6 (ipv6_headers_at bytes)
    else Err (slice_error.Content
    (headers_error.Ip (UnsupportedIpVersion (v4.version_of bytes)))))))
    ≡ Ok (returned below headers layers)
ip_cases laws true b c bytes below headers layers is are whole = cc
ip_cases laws false true c bytes below headers layers is are whole =
    of_ip4 (length bytes) (returned below headers layers) (ipv4_headers_at bytes)
    (ipv4_same (length bytes) below headers layers (ipv4_packet_at bytes)
    (ip4_agrees layers (ipv4_packet_at bytes) is) are whole)
ip_cases laws false false true bytes below headers layers is are whole =
    of_ip6 (length bytes) (returned below headers layers) (ipv6_headers_at bytes)
    (ipv6_same laws (length bytes) below headers layers bytes (ipv6_packet_at bytes) refl
    (ip6_agrees layers (ipv6_packet_at bytes) is) are whole)
ip_cases laws false false false bytes below headers layers is are whole = cc

pub ip_same : PacketLaws → (bytes : List ℕ) (below : Payload) (headers : Option NetHeaders)
    (layers : Layers) → slices.ip_layers (ip_packet_at bytes) ≡ Ok layers →
    AreNetFields layers.net headers → IsWholeIn (ip_payload_of layers.net) layers.transport
    → values.ip_layers (length bytes) (ip_headers_at bytes) ≡ Ok (returned below headers layers)
ip_same laws bytes below headers layers is are whole =
    ip_cases laws (length bytes == 0) (v4.version_of bytes == 4)
    (v4.version_of bytes == 6) bytes below headers layers is are whole
