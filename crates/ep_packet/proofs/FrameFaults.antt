-- The fault at which a frame is refused is the first one.
use Rattle.std.proofs.Common.{◌≡◌, ◌∙◌, ℕ, ◌-◌, ◌≤◌, ◌==◌, Bool, true, false, List, length, [], arith}
use Rattle.std.proofs.Common.{Option, Some, None, Result, Ok, Err, refl, sym, ap, subst}
use Rattle.std.specs.Prelude.{nat_lt, if◌then◌else◌}
use Rattle.std.proofs.lemmas.Bool.{eqb-true, ltb-false, ltb-true}
use Rattle.ep_base.proofs.Prefixes.{err_same}
use Rattle.ep_base.specs.LenError.{too_few_bytes}
use Rattle.ep_base.specs.declared.err.layer.Layer.TheVariants.{Ethernet2Header}
use Rattle.ep_base.specs.declared.err.len_error.LenError.{LenError}
use Rattle.ep_base.specs.declared.err.slice_error.SliceError.{SliceError as HeaderSliceError}
use Rattle.ep_base.specs.declared.link.ether_type.EtherType.{EtherType}
use Rattle.ep_ext.specs.Chain.{Fault, fault_of}
use Rattle.ep_ext.specs.Slot.{Order, slot_of}
use Rattle.ep_ext.specs.Value.{Piece}
use Rattle.ep_ip.specs.Ipv4.{version_of}
use Rattle.ep_ip.specs.Ipv6.{next_header_of}
use Rattle.ep_ip.specs.Ipv6Fault.{header_at}
use Rattle.ep_ip.specs.declared.err.ipv6.header_error.HeaderError.{HeaderError as Ipv6HeaderFault}
use Rattle.ep_ipslice.specs.IpSlice.{IsIpFault, NoBytes, OfIpv4, OfIpv6, ip_packet_at, ipv4_fault, ipv6_fault}
use Rattle.ep_ipslice.specs.IpSlice.{no_version}
use Rattle.ep_ipslice.specs.Ipv4Packet.{ipv4_packet_at}
use Rattle.ep_ipslice.specs.Ipv6Fault.{IsFaultIn, IsIpv6Fault, IsRowFault, OfExtensions, OfHeader, OfLength}
use Rattle.ep_ipslice.specs.Ipv6Fault.{of_exts_fault}
use Rattle.ep_ipslice.specs.Ipv6Packet.{body_of, ipv6_packet_at, number_after, rest_after}
use Rattle.ep_ipslice.specs.Ipv6Walk.{pieces_within}
use Rattle.ep_ipslice.specs.Packet.{IpPayload, Ipv4Packet, Ipv6Packet, body_len, body_source}
use Rattle.ep_ipslice.specs.declared.err.ip.header_error.HeaderError.TheVariants.{UnsupportedIpVersion}
use Rattle.ep_ipslice.specs.declared.err.ip.headers_error.HeadersError.TheVariants as headers_error
use Rattle.ep_ipslice.specs.declared.err.ip.headers_slice_error.HeadersSliceError.{HeadersSliceError}
use Rattle.ep_ipslice.specs.declared.err.ip.headers_slice_error.HeadersSliceError.TheVariants as headers_slice
use Rattle.ep_ipslice.specs.declared.err.ip.slice_error.SliceError.{SliceError as IpFault}
use Rattle.ep_ipslice.specs.declared.err.ip.slice_error.SliceError.TheVariants as ip_fault
use Rattle.ep_ipslice.specs.declared.err.ipv4.slice_error.SliceError.{SliceError as Ipv4Fault}
use Rattle.ep_ipslice.specs.declared.err.ipv6.slice_error.SliceError.{SliceError as Ipv6Fault}
use Rattle.ep_ipslice.specs.declared.err.ipv6.slice_error.SliceError.TheVariants as ipv6_error
use Rattle.ep_ipslice.specs.declared.net.ip_slice.IpSlice.{IpSlice}
use Rattle.ep_ipslice.specs.declared.net.ip_slice.IpSlice.TheVariants as ip
use Rattle.ep_ipslice.proofs.Found.{not_whole}
use Rattle.ep_link.specs.Arp as arp
use Rattle.ep_link.specs.Ethernet.{ethernet_header_of, ethernet_len, payload_of as payload_of_frame}
use Rattle.ep_link.specs.Frame.{without_fcs}
use Rattle.ep_link.specs.Sll.{sll_len}
use Rattle.ep_link.specs.SllFault as sll_fault
use Rattle.ep_link.specs.SllPayload as sll
use Rattle.ep_link.specs.declared.err.linux_sll.header_error.HeaderError.{HeaderError as SllError}
use Rattle.ep_link.specs.declared.link.link_header.LinkHeader.TheVariants as link_header
use Rattle.ep_link.specs.declared.link.link_slice.LinkSlice.TheVariants as link
use Rattle.ep_link.specs.declared.link.link_header.LinkHeader.{LinkHeader}
use Rattle.ep_link.specs.declared.link.link_slice.LinkSlice.{LinkSlice}
use Rattle.ep_packet.specs.FrameFault as fault
use Rattle.ep_packet.specs.FrameFault.{IsCookedFault, IsEtherTypeFault, IsEtherTypeHeadersFault, IsFaultAfter}
use Rattle.ep_packet.specs.FrameFault.{IsFrameFault, IsFrameHeadersFault, IsHeaderLayersFault, IsIpPacketFault}
use Rattle.ep_packet.specs.FrameFault.{IsIpPacketHeadersFault, IsLayersFault}
use Rattle.ep_packet.specs.HeaderLayers as headers
use Rattle.ep_packet.specs.HeaderLayers.{HeaderLayers}
use Rattle.ep_packet.specs.IpHeadersAt.{ip_headers_at, ipv4_headers_at, ipv6_headers_at, ipv6_parts_after}
use Rattle.ep_packet.specs.IpHeadersAt.{ipv6_parts_unless, headers_in_slots}
use Rattle.ep_packet.specs.IpHeaders.{with_ipv4_headers}
use Rattle.ep_packet.specs.IpHeadersAt as at
use Rattle.ep_packet.specs.Payload as payload
use Rattle.ep_packet.specs.IsTagged.{IsTagged}
use Rattle.ep_packet.specs.PacketHeaders as packet_headers
use Rattle.ep_packet.specs.PacketHeaders.{Headers, ether_type_headers, ethernet_headers, headers_after, headers_tagged}
use Rattle.ep_packet.specs.PacketHeaders.{headers_with, ip_packet_headers, layers_after}
use Rattle.ep_packet.specs.PacketView.{source_after}
use Rattle.ep_packet.specs.ReadIpHeaders.{IsIpHeadersFault}
use Rattle.ep_packet.specs.SliceFault.{later, of_ipv4, of_ipv6, offset_by}
use Rattle.ep_packet.specs.Sliced as sliced
use Rattle.ep_packet.specs.Sliced.{ether_payload, in_cooked, in_linux_sll, packet_after, sliced_ether_type}
use Rattle.ep_packet.specs.Sliced.{sliced_ethernet, sliced_ip, sliced_linux_sll, Layers, arp_layers, arp_type}
use Rattle.ep_packet.specs.Sliced.{ip_layers, ipv4_layers, ipv4_type, ipv6_layers, ipv6_type, layers_in, packet_tagged}
use Rattle.ep_packet.specs.Sliced.{packet_with}
use Rattle.ep_packet.specs.Tags.{Tagged, most_tags, tags_in}
use Rattle.ep_packet.specs.declared.err.packet.slice_error.SliceError.{SliceError}
use Rattle.ep_packet.specs.declared.err.packet.slice_error.SliceError.TheVariants.{Len}
use Rattle.ep_packet.specs.declared.net.ip_headers.IpHeaders.{IpHeaders}
use Rattle.ep_packet.specs.declared.net.net_slice.NetSlice.TheVariants as net
use Rattle.ep_packet.specs.declared.sliced_packet.SlicedPacket.{SlicedPacket}
use Rattle.ep_packet.proofs.FaultLemmas.{moved_nothing}
use Rattle.ep_packet.proofs.SlicedLemmas.{sll_whole}
use Rattle.ep_packet.proofs.MessageFaults.{payload_faulty, payload_parts_faulty}
use Rattle.ep_packet.proofs.TagFaults.{tags_first}
use Rattle.ep_packet.proofs.TaggedLaws.{MacsecIsRead, tags_found}
use Rattle.ep_tag.specs.Ether.{EtherPayload}
use Rattle.ep_tag.specs.declared.link.link_ext_slice.LinkExtSlice.{LinkExtSlice}

abbrev Parts : Type 0
Parts = IpHeaders × IpPayload

-- laws of the layers, as they are called
pub record FaultsAreFirst : Type 0 where
  pub macsec : MacsecIsRead
  pub ipv6 : (bytes : List ℕ) (e : Ipv6Fault) → ipv6_packet_at bytes ≡ Err e → IsIpv6Fault bytes e
  pub ip : (bytes : List ℕ) (e : IpFault) → ip_packet_at bytes ≡ Err e → IsIpFault bytes e
  pub row : (order : Order) (bytes header : List ℕ) (fault : Fault)
      → body_len header (length bytes - 40) ≤ length bytes - 40 → (pieces : List Piece)
      → pieces ≡ pieces_within (length (body_of bytes header)) order []
      (next_header_of header) (body_of bytes header)
      → fault_of order pieces (number_after (next_header_of header) pieces)
      (rest_after bytes header pieces) ≡ Some fault
      → IsRowFault order bytes header
      (of_exts_fault (body_source header (length bytes - 40)) fault.0)

-- a result of reading later bytes is refused only if the reading there is
pub later_err : {A : Type 0} (n : ℕ) (r : Result A SliceError) (e : SliceError) → later n r ≡ Err e
    → (f : SliceError) × (r ≡ Err f) × (e ≡ offset_by n f)
later_err n (Ok x) e is = cc
later_err {A} n (Err f) e is = (f, refl, sym (err_same {A = A} _ _ is))

-- a fault of the layers after all tags
after_tags : MacsecIsRead → (IsLayers : EtherType → List ℕ → SliceError → Type 0)
    (p q : EtherPayload) (t : Tagged) (e f : SliceError) → tags_in most_tags p ≡ Ok t
    → t.last ≡ Some q → IsLayers q.ether_type q.payload f → e ≡ offset_by t.len f
    → IsFaultAfter IsLayers p e
after_tags law IsLayers p q t e f read last is error =
    let stands = tags_found law most_tags p t read in
    fault.InLayers t.tags q f (subst (IsTagged most_tags p t.tags) last stands.tagged) is
    (error ∙ ap (λ (n : ℕ). offset_by n f) stands.len)

-- a fault of a tag
in_tags : MacsecIsRead → (IsLayers : EtherType → List ℕ → SliceError → Type 0) (p : EtherPayload)
    (e : SliceError) → tags_in most_tags p ≡ Err e → IsFaultAfter IsLayers p e
in_tags law IsLayers p e is =
    let first = tags_first law most_tags p e is in
    fault.InTag first.tags first.next first.fault first.few first.are first.tag first.error

ipv4_case : (t : EtherType) (bytes : List ℕ) (r : Result Ipv4Packet Ipv4Fault) (e : SliceError)
    → t.0 ≡ ipv4_type → ipv4_packet_at bytes ≡ r → ipv4_layers r ≡ Err e → IsLayersFault t bytes e
ipv4_case t bytes (Ok packet) e named read is =
    fault.InIpv4 packet named read (payload_faulty (net.Ipv4 packet) _ _ e is)
ipv4_case t bytes (Err x) e named read is =
    fault.InNet (fault.OfIpv4 x named read (sym (err_same {A = Layers} _ _ is)))

ipv6_case : FaultsAreFirst → (t : EtherType) (bytes : List ℕ) (r : Result Ipv6Packet Ipv6Fault)
    (e : SliceError) → t.0 ≡ ipv6_type → ipv6_packet_at bytes ≡ r → ipv6_layers r ≡ Err e
    → IsLayersFault t bytes e
ipv6_case law t bytes (Ok packet) e named read is =
    fault.InIpv6 packet named read (payload_faulty (net.Ipv6 packet) _ _ e is)
ipv6_case law t bytes (Err x) e named read is =
    fault.InNet (fault.OfIpv6 x named (law.ipv6 bytes x read) (sym (err_same {A = Layers} _ _ is)))

arp_part : (t : EtherType) (bytes : List ℕ) (r : Result (List ℕ) LenError) (e : SliceError)
    → t.0 ≡ arp_type → arp.packet_at bytes ≡ r → arp_layers r ≡ Err e → IsLayersFault t bytes e
arp_part t bytes (Ok packet) e named read is = cc
arp_part t bytes (Err x) e named read is =
    fault.InNet (fault.OfArp x named read (sym (err_same {A = Layers} _ _ is)))

layers_by : FaultsAreFirst → (v4 v6 a : Bool) (p : EtherPayload) (e : SliceError)
    → (p.ether_type.0 == ipv4_type) ≡ v4 → (p.ether_type.0 == ipv6_type) ≡ v6
    → (p.ether_type.0 == arp_type) ≡ a
    → (if v4 then ipv4_layers (ipv4_packet_at p.payload)
    else (if v6 then ipv6_layers (ipv6_packet_at p.payload)
    else (if a then arp_layers (arp.packet_at p.payload)
    else Ok (record { net = None; transport = None })))) ≡ Err e
    → IsLayersFault p.ether_type p.payload e
layers_by law true v6 a p e is4 is6 isa is =
    ipv4_case p.ether_type p.payload (ipv4_packet_at p.payload) e
    (eqb-true p.ether_type.0 ipv4_type is4) refl is
layers_by law false true a p e is4 is6 isa is =
    ipv6_case law p.ether_type p.payload (ipv6_packet_at p.payload) e
    (eqb-true p.ether_type.0 ipv6_type is6) refl is
layers_by law false false true p e is4 is6 isa is =
    arp_part p.ether_type p.payload (arp.packet_at p.payload) e
    (eqb-true p.ether_type.0 arp_type isa) refl is
layers_by law false false false p e is4 is6 isa is = cc

pub with_err : (header : Option LinkSlice) (tags : List LinkExtSlice) (r : Result Layers SliceError)
    (e : SliceError) → packet_with header tags r ≡ Err e → r ≡ Err e
with_err header tags r e is = grind arith

last_faulty : FaultsAreFirst → (p : EtherPayload) (t : Tagged) (o : Option EtherPayload)
    (e f : SliceError) → tags_in most_tags p ≡ Ok t → t.last ≡ o → layers_in o ≡ Err f
    → e ≡ offset_by t.len f → IsFaultAfter IsLayersFault p e
last_faulty law p t None e f read last is error = cc
last_faulty law p t (Some q) e f read last is error =
    after_tags law.macsec IsLayersFault p q t e f read last
    (layers_by law (q.ether_type.0 == ipv4_type) (q.ether_type.0 == ipv6_type)
    (q.ether_type.0 == arp_type) q f refl refl refl is) error

-- of views
pub packet_faulty : FaultsAreFirst → (header : Option LinkSlice) (p : EtherPayload)
    (r : Result Tagged SliceError) (e : SliceError) → tags_in most_tags p ≡ r
    → packet_tagged header r ≡ Err e → IsFaultAfter IsLayersFault p e
packet_faulty law header p (Err x) e read is =
    in_tags law.macsec IsLayersFault p e (read ∙ ap Err (err_same {A = SlicedPacket} _ _ is))
packet_faulty law header p (Ok t) e read is =
    let f = later_err t.len (layers_in t.last) e
    (with_err header t.tags (later t.len (layers_in t.last)) e is) in
    last_faulty law p t t.last e f.0 read refl f.1 f.2

ip_part : FaultsAreFirst → (bytes : List ℕ) (r : Result IpSlice IpFault) (e : SliceError)
    → ip_packet_at bytes ≡ r → ip_layers r ≡ Err e → IsIpPacketFault bytes e
ip_part law bytes (Ok (ip.Ipv4 packet)) e read is =
    fault.InMessage (ip.Ipv4 packet) read (payload_faulty (net.Ipv4 packet) _ _ e is)
ip_part law bytes (Ok (ip.Ipv6 packet)) e read is =
    fault.InMessage (ip.Ipv6 packet) read (payload_faulty (net.Ipv6 packet) _ _ e is)
ip_part law bytes (Err x) e read is =
    fault.InPacket x (law.ip bytes x read) (sym (err_same {A = Layers} _ _ is))

-- of an IP packet and the message in it
pub ip_faulty : FaultsAreFirst → (bytes : List ℕ) (e : SliceError)
    → ip_layers (ip_packet_at bytes) ≡ Err e → IsIpPacketFault bytes e
ip_faulty law bytes e is = ip_part law bytes (ip_packet_at bytes) e refl is

-- headers as values: where an IPv6 header and its extension headers end at a fault
unless_part : FaultsAreFirst → (bytes header : List ℕ) (pieces : List Piece) (o : Option Fault)
    (e : Ipv6Fault) → header_at bytes ≡ Ok header
    → body_len header (length bytes - 40) ≤ length bytes - 40
    → pieces ≡ headers_in_slots (next_header_of header) (body_of bytes header)
    → at.fault_after bytes header pieces ≡ o → ipv6_parts_unless bytes header pieces o ≡ Err e
    → IsFaultIn slot_of bytes e
unless_part law bytes header pieces None e read fits are ends is = cc
unless_part law bytes header pieces (Some x) e read fits are ends is =
    subst (IsFaultIn slot_of bytes) (err_same {A = Parts} _ _ is)
    (OfExtensions header read (law.row slot_of bytes header x fits pieces are ends))

sized_part : FaultsAreFirst → (bytes header : List ℕ) (pieces : List Piece) (short : Bool)
    (e : Ipv6Fault) → header_at bytes ≡ Ok header
    → pieces ≡ headers_in_slots (next_header_of header) (body_of bytes header)
    → nat_lt (length bytes - 40) (body_len header (length bytes - 40)) ≡ short
    → (if short then Err (ipv6_error.Len (not_whole header (length bytes)))
    else ipv6_parts_unless bytes header pieces (at.fault_after bytes header pieces)) ≡ Err e
    → IsFaultIn slot_of bytes e
sized_part law bytes header pieces true e read are size is =
    OfLength header read (record {
      size = ltb-true (length bytes - 40) (body_len header (length bytes - 40)) size;
      error = sym (err_same {A = Parts} _ _ is);
    })
sized_part law bytes header pieces false e read are size is =
    unless_part law bytes header pieces (at.fault_after bytes header pieces) e read
    (ltb-false (length bytes - 40) (body_len header (length bytes - 40)) size) are refl is

after_header : FaultsAreFirst → (bytes : List ℕ)
    (r : Result (List ℕ) (HeaderSliceError Ipv6HeaderFault)) (e : Ipv6Fault) → header_at bytes ≡ r
    → ipv6_parts_after bytes r ≡ Err e → IsFaultIn slot_of bytes e
after_header law bytes (Err x) e read is = OfHeader x read (sym (err_same {A = Parts} _ _ is))
after_header law bytes (Ok header) e read is =
    sized_part law bytes header (headers_in_slots (next_header_of header) (body_of bytes header))
    (nat_lt (length bytes - 40) (body_len header (length bytes - 40))) e read refl refl is

pub ipv6_in_slots : FaultsAreFirst → (bytes : List ℕ) (e : Ipv6Fault) → ipv6_headers_at bytes ≡ Err e
    → IsFaultIn slot_of bytes e
ipv6_in_slots law bytes e is = after_header law bytes (header_at bytes) e refl is

ipv4_found : (r : Result Ipv4Packet Ipv4Fault) (e : Ipv4Fault) → with_ipv4_headers r ≡ Err e
    → r ≡ Err e
ipv4_found r e is = grind arith

ipv4_headers_part : (t : EtherType) (bytes : List ℕ) (r : Result Parts Ipv4Fault) (e : SliceError)
    → t.0 ≡ ipv4_type → ipv4_headers_at bytes ≡ r
    → headers.ipv4_layers (length bytes) r ≡ Err e → IsHeaderLayersFault t bytes e
ipv4_headers_part t bytes (Ok parts) e named read is =
    fault.InIpv4 parts.0 parts.1 named read (payload_parts_faulty _ _ parts.1 e is)
ipv4_headers_part t bytes (Err x) e named read is =
    fault.InNet (fault.OfIpv4 x named (ipv4_found (ipv4_packet_at bytes) x read)
    (sym (err_same {A = HeaderLayers} _ _ is)))

ipv6_headers_part : FaultsAreFirst → (t : EtherType) (bytes : List ℕ) (r : Result Parts Ipv6Fault)
    (e : SliceError) → t.0 ≡ ipv6_type → ipv6_headers_at bytes ≡ r
    → headers.ipv6_layers (length bytes) r ≡ Err e → IsHeaderLayersFault t bytes e
ipv6_headers_part law t bytes (Ok parts) e named read is =
    fault.InIpv6 parts.0 parts.1 named read (payload_parts_faulty _ _ parts.1 e is)
ipv6_headers_part law t bytes (Err x) e named read is =
    fault.InNet (fault.OfIpv6 x named (ipv6_in_slots law bytes x read)
    (sym (err_same {A = HeaderLayers} _ _ is)))

arp_headers_part : (t : EtherType) (bytes : List ℕ) (r : Result (List ℕ) LenError) (e : SliceError)
    → t.0 ≡ arp_type → arp.packet_at bytes ≡ r → headers.arp_layers r ≡ Err e
    → IsHeaderLayersFault t bytes e
arp_headers_part t bytes (Ok packet) e named read is = cc
arp_headers_part t bytes (Err x) e named read is =
    fault.InNet (fault.OfArp x named read (sym (err_same {A = HeaderLayers} _ _ is)))

header_layers_by : FaultsAreFirst → (v4 v6 a : Bool) (p : EtherPayload) (e : SliceError)
    → (p.ether_type.0 == ipv4_type) ≡ v4 → (p.ether_type.0 == ipv6_type) ≡ v6
    → (p.ether_type.0 == arp_type) ≡ a
    → (if v4 then headers.ipv4_layers (length p.payload) (ipv4_headers_at p.payload)
    else (if v6 then headers.ipv6_layers (length p.payload) (ipv6_headers_at p.payload)
    else (if a then headers.arp_layers (arp.packet_at p.payload)
    else Ok (headers.payload_alone (payload.Ether p))))) ≡ Err e
    → IsHeaderLayersFault p.ether_type p.payload e
header_layers_by law true v6 a p e is4 is6 isa is =
    ipv4_headers_part p.ether_type p.payload (ipv4_headers_at p.payload) e
    (eqb-true p.ether_type.0 ipv4_type is4) refl is
header_layers_by law false true a p e is4 is6 isa is =
    ipv6_headers_part law p.ether_type p.payload (ipv6_headers_at p.payload) e
    (eqb-true p.ether_type.0 ipv6_type is6) refl is
header_layers_by law false false true p e is4 is6 isa is =
    arp_headers_part p.ether_type p.payload (arp.packet_at p.payload) e
    (eqb-true p.ether_type.0 arp_type isa) refl is
header_layers_by law false false false p e is4 is6 isa is = cc

headers_with_err : (link : Option LinkHeader) (tags : List LinkExtSlice)
    (r : Result HeaderLayers SliceError) (e : SliceError) → headers_with link tags r ≡ Err e
    → r ≡ Err e
headers_with_err link tags r e is = grind arith

last_headers_faulty : FaultsAreFirst → (p : EtherPayload) (t : Tagged) (o : Option EtherPayload)
    (e f : SliceError) → tags_in most_tags p ≡ Ok t → t.last ≡ o → layers_after t.tags o ≡ Err f
    → e ≡ offset_by t.len f → IsFaultAfter IsHeaderLayersFault p e
last_headers_faulty law p t None e f read last is error = cc
last_headers_faulty law p t (Some q) e f read last is error =
    after_tags law.macsec IsHeaderLayersFault p q t e f read last
    (header_layers_by law (q.ether_type.0 == ipv4_type) (q.ether_type.0 == ipv6_type)
    (q.ether_type.0 == arp_type) (record q { len_source = source_after t.tags }) f
    refl refl refl is) error

pub headers_faulty : FaultsAreFirst → (link : Option LinkHeader) (p : EtherPayload)
    (r : Result Tagged SliceError) (e : SliceError) → tags_in most_tags p ≡ r
    → headers_tagged link r ≡ Err e → IsFaultAfter IsHeaderLayersFault p e
headers_faulty law link p (Err x) e read is =
    in_tags law.macsec IsHeaderLayersFault p e (read ∙ ap Err (err_same {A = Headers} _ _ is))
headers_faulty law link p (Ok t) e read is =
    let f = later_err t.len (layers_after t.tags t.last) e
    (headers_with_err link t.tags (later t.len (layers_after t.tags t.last)) e is) in
    last_headers_faulty law p t t.last e f.0 read refl f.1 f.2

-- headers of an IP packet of either version
v4_version : (bytes : List ℕ) (r : Result Parts Ipv4Fault) (e : HeadersSliceError)
    → version_of bytes ≡ 4 → ipv4_headers_at bytes ≡ r → at.of_ipv4 r ≡ Err e
    → IsIpHeadersFault bytes e
v4_version bytes (Ok parts) e version read is = cc
v4_version bytes (Err x) e version read is = (
  ipv4_fault x,
  OfIpv4 x version (ipv4_found (ipv4_packet_at bytes) x read) refl,
  sym (err_same {A = Parts} _ _ is),
)

v6_version : FaultsAreFirst → (bytes : List ℕ) (r : Result Parts Ipv6Fault) (e : HeadersSliceError)
    → version_of bytes ≡ 6 → ipv6_headers_at bytes ≡ r → at.of_ipv6 r ≡ Err e
    → IsIpHeadersFault bytes e
v6_version law bytes (Ok parts) e version read is = cc
v6_version law bytes (Err x) e version read is = (
  ipv6_fault x,
  OfIpv6 x version (ipv6_in_slots law bytes x read) refl,
  sym (err_same {A = Parts} _ _ is),
)

headers_by : FaultsAreFirst → (none four six : Bool) (bytes : List ℕ) (e : HeadersSliceError)
    → (length bytes == 0) ≡ none → (version_of bytes == 4) ≡ four → (version_of bytes == 6) ≡ six
    → (if none then Err (headers_slice.Len no_version)
    else (if four then at.of_ipv4 (ipv4_headers_at bytes)
    else (if six then at.of_ipv6 (ipv6_headers_at bytes)
    else Err (headers_slice.Content
    (headers_error.Ip (UnsupportedIpVersion (version_of bytes))))))) ≡ Err e
    → IsIpHeadersFault bytes e
headers_by law true four six bytes e size v4 v6 is = (
  ip_fault.Len no_version,
  NoBytes (eqb-true (length bytes) 0 size) refl,
  sym (err_same {A = Parts} _ _ is),
)
headers_by law false true six bytes e size v4 v6 is = grind (arith, v4_version, eqb-true)
headers_by law false false true bytes e size v4 v6 is = grind (arith, v6_version, eqb-true)
headers_by law false false false bytes e size v4 v6 is = (
  ip_fault.IpHeaders (headers_error.Ip (UnsupportedIpVersion (version_of bytes))),
  grind arith,
  sym (err_same {A = Parts} _ _ is),
)

pub ip_headers_fault : FaultsAreFirst → (bytes : List ℕ) (e : HeadersSliceError)
    → ip_headers_at bytes ≡ Err e → IsIpHeadersFault bytes e
ip_headers_fault law bytes e is =
    headers_by law (length bytes == 0) (version_of bytes == 4) (version_of bytes == 6) bytes e
    refl refl refl is

ip_headers_part : FaultsAreFirst → (bytes : List ℕ) (r : Result Parts HeadersSliceError)
    (e : SliceError) → ip_headers_at bytes ≡ r → headers.ip_layers (length bytes) r ≡ Err e
    → IsIpPacketHeadersFault bytes e
ip_headers_part law bytes (Ok parts) e read is =
    fault.InMessage parts.0 parts.1 read (payload_parts_faulty _ _ parts.1 e is)
ip_headers_part law bytes (Err x) e read is =
    fault.InPacket x (ip_headers_fault law bytes x read) (sym (err_same {A = HeaderLayers} _ _ is))

pub ip_headers_faulty : FaultsAreFirst → (bytes : List ℕ) (e : SliceError)
    → headers.ip_layers (length bytes) (ip_headers_at bytes) ≡ Err e
    → IsIpPacketHeadersFault bytes e
ip_headers_faulty law bytes e is = ip_headers_part law bytes (ip_headers_at bytes) e refl is

-- an Ethernet II frame
ethernet_by : FaultsAreFirst → (frame : List ℕ) (short : Bool) (e : SliceError)
    → nat_lt (length frame) ethernet_len ≡ short
    → sliced.in_frame (if short then Err (too_few_bytes Ethernet2Header ethernet_len (length frame))
    else Ok frame) ≡ Err e → IsFrameFault frame e
ethernet_by law frame true e size is = grind arith
ethernet_by law frame false e size is =
    let p : EtherPayload = payload_of_frame frame in
    let header : LinkSlice = link.Ethernet2 (without_fcs frame) in
    let f = later_err ethernet_len (packet_after header p) e is in
    fault.Following f.0 (ltb-false (length frame) ethernet_len size)
    (packet_faulty law (Some header) p (tags_in most_tags p) f.0 refl f.1) f.2

pub ethernet_fault : FaultsAreFirst → (frame : List ℕ) (e : SliceError)
    → sliced_ethernet frame ≡ Err e → IsFrameFault frame e
ethernet_fault law frame e is = ethernet_by law frame (nat_lt (length frame) ethernet_len) e refl is

ethernet_headers_by : FaultsAreFirst → (frame : List ℕ) (short : Bool) (e : SliceError)
    → nat_lt (length frame) ethernet_len ≡ short
    → packet_headers.in_frame (if short
    then Err (too_few_bytes Ethernet2Header ethernet_len (length frame)) else Ok frame) ≡ Err e
    → IsFrameHeadersFault frame e
ethernet_headers_by law frame true e size is = grind arith
ethernet_headers_by law frame false e size is =
    let p : EtherPayload = payload_of_frame frame in
    let header : LinkHeader = link_header.Ethernet2 (ethernet_header_of frame) in
    let f = later_err ethernet_len (headers_after (Some header) p) e is in
    fault.Following f.0 (ltb-false (length frame) ethernet_len size)
    (headers_faulty law (Some header) p (tags_in most_tags p) f.0 refl f.1) f.2

pub ethernet_headers_fault : FaultsAreFirst → (frame : List ℕ) (e : SliceError)
    → ethernet_headers frame ≡ Err e → IsFrameHeadersFault frame e
ethernet_headers_fault law frame e is =
    ethernet_headers_by law frame (nat_lt (length frame) ethernet_len) e refl is

-- bytes after an ether type
pub ether_type_fault : FaultsAreFirst → (t : EtherType) (bytes : List ℕ) (e : SliceError)
    → sliced_ether_type t bytes ≡ Err e → IsEtherTypeFault t bytes e
ether_type_fault law t bytes e is =
    let p : EtherPayload = ether_payload t bytes in
    packet_faulty law (Some (link.EtherPayload p)) p (tags_in most_tags p) e refl is

pub ether_type_headers_fault : FaultsAreFirst → (t : EtherType) (bytes : List ℕ) (e : SliceError)
    → ether_type_headers t bytes ≡ Err e → IsEtherTypeHeadersFault t bytes e
ether_type_headers_fault law t bytes e is =
    let p : EtherPayload = ether_payload t bytes in
    headers_faulty law None p (tags_in most_tags p) e refl is

-- a packet of a Linux cooked capture
cooked_by : FaultsAreFirst → (packet : List ℕ) (o : Option EtherPayload) (e : SliceError)
    → sll_fault.whole_at packet ≡ Ok packet → sll.named_payload (sll.payload_of packet) ≡ o
    → in_linux_sll packet o ≡ Err e → IsCookedFault packet e
cooked_by law packet None e whole named is = cc
cooked_by law packet (Some p) e whole named is =
    let header : LinkSlice = link.LinuxSll packet in
    let f = later_err sll_len (packet_after header p) e is in
    fault.Following p f.0 whole named
    (packet_faulty law (Some header) p (tags_in most_tags p) f.0 refl f.1) f.2

cooked_read : FaultsAreFirst → (packet : List ℕ) (r : Result (List ℕ) (HeaderSliceError SllError))
    (e : SliceError) → sll_fault.whole_at packet ≡ r → in_cooked r ≡ Err e → IsCookedFault packet e
cooked_read law packet (Ok taken) e read is =
    let same : taken ≡ packet = (sll_whole packet taken (sym read)).0 in
    cooked_by law packet (sll.named_payload (sll.payload_of packet)) e
    (read ∙ ap Ok same) refl
    (ap (λ (xs : List ℕ). in_linux_sll xs (sll.named_payload (sll.payload_of xs))) (sym same) ∙ is)
cooked_read law packet (Err x) e read is =
    fault.InHeader x read (sym (err_same {A = SlicedPacket} _ _ is))

pub cooked_fault : FaultsAreFirst → (packet : List ℕ) (e : SliceError)
    → sliced_linux_sll packet ≡ Err e → IsCookedFault packet e
cooked_fault law packet e is = cooked_read law packet (sll_fault.whole_at packet) e refl is

-- an IP packet
pub ip_packet_fault : FaultsAreFirst → (bytes : List ℕ) (e : SliceError) → sliced_ip bytes ≡ Err e
    → IsIpPacketFault bytes e
ip_packet_fault law bytes e is =
    ip_faulty law bytes e (with_err None [] (ip_layers (ip_packet_at bytes)) e is)

pub ip_packet_headers_fault : FaultsAreFirst → (bytes : List ℕ) (e : SliceError)
    → ip_packet_headers bytes ≡ Err e → IsIpPacketHeadersFault bytes e
ip_packet_headers_fault law bytes e is = ip_headers_faulty law bytes e
    (headers_with_err None [] (headers.ip_layers (length bytes) (ip_headers_at bytes)) e is)

-- a result of reading no bytes later
pub later_nothing : {A : Type 0} (r : Result A SliceError) → later 0 r ≡ r
later_nothing (Ok x) = refl
later_nothing (Err e) = ap Err (moved_nothing e)
