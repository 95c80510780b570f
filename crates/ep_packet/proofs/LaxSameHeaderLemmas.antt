-- Headers of packets as far as they are there are those of their slices.
use Rattle.std.proofs.Common.{◌≡◌, ◌∙◌, sym, ap, subst, refl, ℕ, ◌+◌, ◌==◌, Bool, true, false, List, [], length, Option}
use Rattle.std.proofs.Common.{Some, None, Result, Ok, Err}
use Rattle.std.specs.Prelude.{if◌then◌else◌}
use Rattle.std.specs.Option.{option_map}
use Rattle.ep_base.specs.declared.err.layer.Layer.TheVariants.{Ethernet2Header}
use Rattle.ep_base.specs.declared.err.len_error.LenError.{LenError}
use Rattle.ep_base.specs.declared.err.slice_error.SliceError.{SliceError as HeaderSliceError}
use Rattle.ep_base.specs.declared.err.slice_error.SliceError.TheVariants as slice_error
use Rattle.ep_base.specs.declared.link.ether_type.EtherType.{EtherType}
use Rattle.ep_ext.specs.declared.err.ip_auth.header_error.HeaderError.{HeaderError as AuthFault}
use Rattle.ep_ip.specs.Ipv4.{version_of}
use Rattle.ep_ip.specs.Ipv6.{next_header_of}
use Rattle.ep_ip.specs.Ipv6Fault.{header_at}
use Rattle.ep_ip.specs.declared.err.ipv4.header_error.HeaderError.{HeaderError as Ipv4HeaderFault}
use Rattle.ep_ip.specs.declared.err.ipv6.header_error.HeaderError.{HeaderError as Ipv6HeaderFault}
use Rattle.ep_ipslice.specs.Ipv6Packet.{body_of, extensions_of}
use Rattle.ep_ipslice.specs.LaxIp.{auth_stop, with_lax_ipv4, with_lax_ipv6}
use Rattle.ep_ipslice.specs.LaxPackets.{LaxIpv4Packet, StoppedIpv4, lax_ipv4_packet_at, lax_ipv6_after, lax_ipv6_packet_at}
use Rattle.ep_ipslice.specs.LaxPackets.{lax_ipv6_with}
use Rattle.ep_ipslice.specs.declared.err.ip.header_error.HeaderError.{HeaderError as IpHeaderFault}
use Rattle.ep_link.specs.Arp.{packet_at}
use Rattle.ep_link.specs.Ethernet.{ethernet_len, payload_of}
use Rattle.ep_link.specs.Frame.{without_fcs}
use Rattle.ep_link.specs.Sll.{sll_len}
use Rattle.ep_link.specs.SllFault as sll_fault
use Rattle.ep_link.specs.SllPayload as sll
use Rattle.ep_link.specs.declared.err.linux_sll.header_error.HeaderError.{HeaderError as SllFault}
use Rattle.ep_link.specs.declared.link.link_slice.LinkSlice.{LinkSlice}
use Rattle.ep_link.specs.declared.link.link_slice.LinkSlice.TheVariants as link
use Rattle.ep_packet.specs.LaxIpHeadersAt.{lax_ipv6_headers_after, lax_ipv6_headers_at, with_lax_ipv6_headers}
use Rattle.ep_packet.specs.LaxPacketHeaders.{LaxHeaderLayers, LaxHeaders, in_lax_cooked, in_lax_frame, in_lax_ipv4_headers}
use Rattle.ep_packet.specs.LaxPacketHeaders.{in_lax_ipv6_headers, in_lax_linux_sll, lax_after_headers, lax_after_tags}
use Rattle.ep_packet.specs.LaxPacketHeaders.{lax_arp_headers, lax_ether_type_headers, lax_ethernet_headers}
use Rattle.ep_packet.specs.LaxPacketHeaders.{lax_headers_alone_in, lax_headers_in, lax_headers_tagged}
use Rattle.ep_packet.specs.LaxPacketHeaders.{lax_ip_packet_headers, lax_ipv4_headers, lax_ipv6_headers, lax_last_of}
use Rattle.ep_packet.specs.LaxPacketHeaders.{lax_linux_sll_headers, lax_named_after, no_lax_headers}
use Rattle.ep_packet.specs.LaxPacketHeaders.{of_lax_ipv4_headers, of_lax_ipv6_headers, or_else, with_lax_layers}
use Rattle.ep_packet.specs.LaxPayload.{LaxPayload, Empty}
use Rattle.ep_packet.specs.LaxSameHeaders.{AreLaxHeadersOf, AreLaxNetFields, cooked_or, is_lax_ipv6, lax_after_layers}
use Rattle.ep_packet.specs.LaxSliced as slices
use Rattle.ep_packet.specs.LaxSliced.{LaxLayers, first_stop, lax_packet_tagged, lax_sliced_ether_type}
use Rattle.ep_packet.specs.LaxSliced.{lax_sliced_ethernet}
use Rattle.ep_packet.specs.LaxTags.{LaxTagged, Stop, lax_tags_in, stop_by}
use Rattle.ep_packet.specs.LaxView.{lax_named_by}
use Rattle.ep_packet.specs.PacketView.{link_payload}
use Rattle.ep_packet.specs.SameHeaders.{link_fields, transport_fields}
use Rattle.ep_packet.specs.Sliced.{arp_type, ether_payload, ipv4_type, ipv6_type}
use Rattle.ep_packet.specs.Tags.{most_tags}
use Rattle.ep_packet.specs.declared.lax_sliced_packet.LaxSlicedPacket.{LaxSlicedPacket}
use Rattle.ep_packet.specs.declared.net.lax_net_slice.LaxNetSlice.TheVariants as net
use Rattle.ep_packet.specs.declared.transport.transport_slice.TransportSlice.{TransportSlice}
use Rattle.ep_tag.specs.Ether.{EtherPayload, LaxEtherPayload, complete_ether}
use Rattle.ep_tag.specs.Prefix.{whole_at}
use Rattle.ep_tag.specs.declared.link.lax_link_ext_slice.LaxLinkExtSlice.{LaxLinkExtSlice}

-- headers that belong to layers of slices
record AreLayersOf (layers : LaxLayers) (h : LaxHeaderLayers) : Type 0 where
  net : AreLaxNetFields layers.net h.net
  transport : is_lax_ipv6 layers.net ≡ false → h.transport ≡ option_map transport_fields layers.transport
  payload : is_lax_ipv6 layers.net ≡ false → (below : LaxPayload)
      → or_else h.payload below ≡ lax_after_layers layers.net layers.transport below
  stop : is_lax_ipv6 layers.net ≡ false → h.stop ≡ layers.stop

never : {P : Type 0} → true ≡ false → P
never is = cc is

-- the payload of an IPv4 packet, or of the message in it
ipv4_payload : (packet : LaxIpv4Packet) (m : Option TransportSlice) (below : LaxPayload)
    → lax_after_headers (packet.incomplete, packet.payload) m
    ≡ lax_after_layers (Some (net.Ipv4 packet)) m below
ipv4_payload packet None below = refl
ipv4_payload packet (Some m) below = refl

in_ipv4_same : (s : StoppedIpv4) (stop : Option Stop) → stop ≡ option_map slices.auth_stop s.1
    → AreLayersOf (slices.in_lax_ipv4 s.0 stop) (in_lax_ipv4_headers s)
in_ipv4_same s stop is = record {
  net = (_, refl, refl);
  transport = λ other. rw is refl;
  payload = λ other below. rw is (ipv4_payload s.0 _ below);
  stop = λ other. rw is refl;
}

none_same : (stop : Option Stop) → AreLayersOf (slices.no_layers stop) (no_lax_headers stop)
none_same stop = record {
  net = refl;
  transport = λ other. refl;
  payload = λ other below. refl;
  stop = λ other. refl;
}

ipv4_same : (r : Result StoppedIpv4 (HeaderSliceError Ipv4HeaderFault))
    → AreLayersOf (slices.lax_ipv4_layers r) (lax_ipv4_headers r)
ipv4_same (Ok s) = in_ipv4_same s (option_map slices.auth_stop s.1) refl
ipv4_same (Err e) = none_same _

in_ipv6_same : (bytes header : List ℕ) (stop : Option Stop)
    → AreLayersOf (slices.in_lax_ipv6 (lax_ipv6_with bytes header
    (extensions_of (next_header_of header) (body_of bytes header))).0 stop)
    (in_lax_ipv6_headers (lax_ipv6_headers_after bytes header))
in_ipv6_same bytes header stop = record {
  net = (_, refl, (_, refl));
  transport = never;
  payload = never;
  stop = never;
}

ipv6_same : (bytes : List ℕ) (r : Result (List ℕ) (HeaderSliceError Ipv6HeaderFault))
    → AreLayersOf (slices.lax_ipv6_layers (lax_ipv6_after bytes r))
    (lax_ipv6_headers (with_lax_ipv6_headers bytes r))
ipv6_same bytes (Ok header) = in_ipv6_same bytes header _
ipv6_same bytes (Err e) = none_same _

arp_same : (r : Result (List ℕ) LenError)
    → AreLayersOf (slices.lax_arp_layers r) (lax_arp_headers r)
arp_same (Ok packet) = record {
  net = (_, refl, refl);
  transport = λ other. refl;
  payload = λ other below. refl;
  stop = λ other. refl;
}
arp_same (Err e) = none_same _

layer_cases : (four six arp : Bool) (bytes : List ℕ) → AreLayersOf
    (if four then slices.lax_ipv4_layers (lax_ipv4_packet_at bytes)
    else (if six then slices.lax_ipv6_layers (lax_ipv6_packet_at bytes)
    else (if arp then slices.lax_arp_layers (packet_at bytes) else slices.no_layers None)))
    (if four then lax_ipv4_headers (lax_ipv4_packet_at bytes)
    else (if six then lax_ipv6_headers (lax_ipv6_headers_at bytes)
    else (if arp then lax_arp_headers (packet_at bytes) else no_lax_headers None)))
layer_cases true six arp bytes = ipv4_same (lax_ipv4_packet_at bytes)
layer_cases false true arp bytes = ipv6_same bytes (header_at bytes)
layer_cases false false true bytes = arp_same (packet_at bytes)
layer_cases false false false bytes = none_same None

layers_same : (o : Option LaxEtherPayload) → AreLayersOf (slices.lax_layers_in o) (lax_headers_in o)
layers_same None = none_same None
layers_same (Some p) = layer_cases (p.ether_type.0 == ipv4_type) (p.ether_type.0 == ipv6_type)
    (p.ether_type.0 == arp_type) p.payload

-- what a link header names
named_same : (header : LinkSlice) (p : EtherPayload) (o : Option LaxLinkExtSlice)
    → link_payload (Some header) ≡ Some p
    → lax_named_after (complete_ether p) o ≡ lax_named_by (Some header) o
named_same header p None linked = sym (ap (option_map complete_ether) linked)
named_same header p (Some t) linked = refl

cooked_same : (header : LinkSlice) (p : EtherPayload) (below : LaxPayload)
    → link_payload (Some header) ≡ Some p → cooked_or (Some header) below ≡ below
cooked_same (link.Ethernet2 frame) p below linked = refl
cooked_same (link.LinuxSll bytes) p below linked = rw linked refl
cooked_same (link.EtherPayload q) p below linked = refl
cooked_same (link.LinuxSllPayload q) p below linked = refl

tagged_same : (link_len : ℕ) (header : LinkSlice) (p : EtherPayload) (t : LaxTagged)
    → link_payload (Some header) ≡ Some p
    → AreLaxHeadersOf (lax_packet_tagged link_len (Some header) t)
    (lax_headers_tagged link_len (link_fields (Some header)) (complete_ether p) t (lax_headers_in t.last))
tagged_same link_len header p t linked =
    let same = layers_same t.last in
    let below = lax_after_tags t.tags (lax_named_by (Some header) (lax_last_of t.tags)) in
    record {
      link = refl;
      link_exts = refl;
      net = same.net;
      transport = same.transport;
      payload = λ other.
          ap (λ o. or_else (lax_headers_in t.last).payload (lax_after_tags t.tags o))
          (named_same header p (lax_last_of t.tags) linked)
          ∙ ap (or_else (lax_headers_in t.last).payload) (sym (cooked_same header p below linked))
          ∙ same.payload other (cooked_or (Some header) below);
      stop = λ other. ap (λ s. first_stop (option_map (stop_by link_len) t.stop)
          (option_map (stop_by (link_len + t.len)) s)) (same.stop other);
    }

-- that there are headers, and that they are those of the slices
abbrev AreSame : {E : Type 0} → Result LaxHeaders E → Result LaxSlicedPacket E → Type 0
AreSame r (Ok packet) = (h : LaxHeaders) × (r ≡ Ok h) × AreLaxHeadersOf packet h
AreSame r (Err e) = r ≡ Err e

pub of_packet : {E : Type 0} (r : Result LaxHeaders E) (s : Result LaxSlicedPacket E)
    (packet : LaxSlicedPacket) → AreSame r s → s ≡ Ok packet
    → (h : LaxHeaders) × (r ≡ Ok h) × AreLaxHeadersOf packet h
of_packet r s packet same is = subst (AreSame r) is same

pub of_fault : {E : Type 0} (r : Result LaxHeaders E) (s : Result LaxSlicedPacket E) (e : E)
    → AreSame r s → s ≡ Err e → r ≡ Err e
of_fault r s e same is = subst (AreSame r) is same

frame_same : (r : Result (List ℕ) LenError) → AreSame (in_lax_frame r) (slices.in_lax_frame r)
frame_same (Ok frame) = (
  _,
  refl,
  tagged_same ethernet_len (link.Ethernet2 (without_fcs frame)) (payload_of frame)
      (lax_tags_in most_tags (complete_ether (payload_of frame))) refl,
)
frame_same (Err e) = refl

pub ethernet_same : (bytes : List ℕ) → AreSame (lax_ethernet_headers bytes) (lax_sliced_ethernet bytes)
ethernet_same bytes = frame_same (whole_at Ethernet2Header ethernet_len bytes)

pub ether_type_same : (t : EtherType) (bytes : List ℕ)
    → AreLaxHeadersOf (lax_sliced_ether_type t bytes) (lax_ether_type_headers t bytes)
ether_type_same t bytes = tagged_same 0 (link.EtherPayload (ether_payload t bytes)) (ether_payload t bytes)
    (lax_tags_in most_tags (complete_ether (ether_payload t bytes))) refl

cooked_case : (bytes : List ℕ) (o : Option EtherPayload) → sll.named_payload (sll.payload_of bytes) ≡ o
    → AreLaxHeadersOf (slices.in_lax_linux_sll bytes o) (in_lax_linux_sll bytes o)
cooked_case bytes None is = record {
  link = refl;
  link_exts = refl;
  net = refl;
  transport = λ other. refl;
  payload = λ other. rw is refl;
  stop = λ other. refl;
}
cooked_case bytes (Some p) is = tagged_same sll_len (link.LinuxSll bytes) p
    (lax_tags_in most_tags (complete_ether p)) is

packet_same : (r : Result (List ℕ) (HeaderSliceError SllFault))
    → AreSame (in_lax_cooked r) (slices.in_lax_cooked r)
packet_same (Ok bytes) = (_, refl, cooked_case bytes (sll.named_payload (sll.payload_of bytes)) refl)
packet_same (Err e) = refl

pub linux_sll_same : (bytes : List ℕ)
    → AreSame (lax_linux_sll_headers bytes) (slices.lax_sliced_linux_sll bytes)
linux_sll_same bytes = packet_same (sll_fault.whole_at bytes)

-- without a link header
alone_same : (layers : LaxLayers) (h : LaxHeaderLayers) → AreLayersOf layers h
    → AreLaxHeadersOf (slices.lax_packet_of None [] layers) (lax_headers_alone_in h)
alone_same layers h same = record {
  link = refl;
  link_exts = refl;
  net = same.net;
  transport = same.transport;
  payload = λ other. same.payload other Empty;
  stop = same.stop;
}

-- what stopped, through a fault of either version
pub auth_is : (stop : Option (HeaderSliceError AuthFault))
    → option_map slices.exts_stop (option_map auth_stop stop) ≡ option_map slices.auth_stop stop
auth_is None = refl
auth_is (Some (slice_error.Len e)) = refl
auth_is (Some (slice_error.Content e)) = refl

ip4_same : (r : Result StoppedIpv4 (HeaderSliceError Ipv4HeaderFault))
    → AreSame (with_lax_layers (of_lax_ipv4_headers r)) (slices.in_lax_version (with_lax_ipv4 r))
ip4_same (Ok s) = (_, refl, alone_same _ _ (in_ipv4_same s _ (auth_is s.1)))
ip4_same (Err e) = refl

ip6_same : (bytes : List ℕ) (r : Result (List ℕ) (HeaderSliceError Ipv6HeaderFault))
    → AreSame (with_lax_layers (of_lax_ipv6_headers (with_lax_ipv6_headers bytes r)))
    (slices.in_lax_version (with_lax_ipv6 (lax_ipv6_after bytes r)))
ip6_same bytes (Ok header) = (_, refl, alone_same _ _ (in_ipv6_same bytes header _))
ip6_same bytes (Err e) = refl

version_cases : (none four six : Bool) (bytes : List ℕ) (e f : HeaderSliceError IpHeaderFault) → AreSame
    (with_lax_layers (if none then Err e
    else (if four then of_lax_ipv4_headers (lax_ipv4_packet_at bytes)
    else (if six then of_lax_ipv6_headers (lax_ipv6_headers_at bytes) else Err f))))
    (slices.in_lax_version (if none then Err e
    else (if four then with_lax_ipv4 (lax_ipv4_packet_at bytes)
    else (if six then with_lax_ipv6 (lax_ipv6_packet_at bytes) else Err f))))
version_cases true four six bytes e f = refl
version_cases false true six bytes e f = ip4_same (lax_ipv4_packet_at bytes)
version_cases false false true bytes e f = ip6_same bytes (header_at bytes)
version_cases false false false bytes e f = refl

pub ip_same : (bytes : List ℕ) → AreSame (lax_ip_packet_headers bytes) (slices.lax_sliced_ip bytes)
ip_same bytes = version_cases (length bytes == 0) (version_of bytes == 4) (version_of bytes == 6) bytes _ _
