-- Where a packet of the network layer is refused, its headers ahead of the fault are what is there of it.
use Rattle.std.proofs.Common.{◌≡◌, ◌∙◌, sym, ap, ap₂, refl, subst, ℕ, ◌+◌, ◌-◌, ◌≤◌, ◌==◌, Bool, true, false, List, [], ◌∷◌, ◌++◌}
use Rattle.std.proofs.Common.{length, drop, Option, Some, None, Result, Ok, Err}
use Rattle.std.specs.Prelude.{if◌then◌else◌, nat_lt}
use Rattle.std.specs.Option.{option_map}
use Rattle.std.proofs.lemmas.Bool.{eqb-true, le-ltb, ltb-false}
use Rattle.std.proofs.lemmas.List.{drop_at}
use Rattle.std.specs.Result.{result_map_both}
use Rattle.std.specs.List.{list_any}
use Rattle.ep_base.proofs.Prefixes.{err_same}
use Rattle.ep_base.specs.Bytes.{num}
use Rattle.ep_base.specs.LenError.{too_few_bytes}
use Rattle.ep_base.specs.declared.err.layer.Layer.TheVariants as layer
use Rattle.ep_base.specs.declared.err.len_error.LenError.{LenError}
use Rattle.ep_base.specs.declared.err.slice_error.SliceError.{SliceError as HeaderSliceError}
use Rattle.ep_base.specs.declared.err.slice_error.SliceError.TheVariants as slice_error
use Rattle.ep_base.specs.declared.len_source.LenSource.{LenSource}
use Rattle.ep_base.specs.declared.len_source.LenSource.TheVariants.{Ipv4HeaderTotalLen, Slice}
use Rattle.ep_base.specs.declared.link.ether_type.EtherType.{EtherType}
use Rattle.ep_ext.specs.Chain.{Chain, Fault, Row, fault_of}
use Rattle.ep_ext.specs.Ipv4Exts.{auth_after, auth_bytes}
use Rattle.ep_ext.specs.Slot.{Order}
use Rattle.ep_ext.specs.Value.{Piece, bytes_of}
use Rattle.ep_ext.specs.declared.err.ip_auth.header_error.HeaderError.{HeaderError as AuthFault}
use Rattle.ep_ext.specs.declared.err.ipv6_exts.header_error.HeaderError.{HeaderError as ExtsFault}
use Rattle.ep_ext.specs.declared.net.ipv6_ext_slot.Ipv6ExtSlot.{Ipv6ExtSlot}
use Rattle.ep_ip.specs.Ipv4.{protocol_of, total_len_of, is_fragmenting, more_fragments_of, fragment_offset_of}
use Rattle.ep_ip.specs.Ipv4Fault as v4
use Rattle.ep_ip.specs.Ipv6.{next_header_of}
use Rattle.ep_ip.specs.Ipv6Fault as v6
use Rattle.ep_ip.specs.declared.err.ipv4.header_error.HeaderError.{HeaderError as Ipv4HeaderFault}
use Rattle.ep_ip.specs.declared.err.ipv6.header_error.HeaderError.{HeaderError as Ipv6HeaderFault}
use Rattle.ep_ipslice.specs.Ipv4Packet as strict4
use Rattle.ep_ipslice.specs.Ipv4Packet.{ipv4_packet_at, of_auth_fault}
use Rattle.ep_ipslice.specs.Ipv6Exts.{exts_of, view_order, is_fragmenting_piece}
use Rattle.ep_ipslice.specs.Ipv6Fault.{IsRowFault, of_exts_fault}
use Rattle.ep_ipslice.specs.Ipv6Fault as fault6
use Rattle.ep_ipslice.specs.Ipv6Packet as strict6
use Rattle.ep_ipslice.specs.Ipv6Packet.{extensions_of, ipv6_packet_at, ipv6_packet_of, number_after, rest_after}
use Rattle.ep_ipslice.specs.Ipv6Packet.{packet_after}
use Rattle.ep_ipslice.specs.Ipv6Walk.{pieces_within}
use Rattle.ep_ipslice.specs.LaxPackets.{LaxIpv6Packet, StoppedIpv4, StoppedIpv6, fault_within, lax_ipv4_after}
use Rattle.ep_ipslice.specs.LaxPackets.{lax_ipv4_body, lax_ipv4_packet_at, lax_ipv4_source, lax_ipv4_with, lax_ipv6_after, lax_ipv6_of}
use Rattle.ep_ipslice.specs.LaxPackets.{lax_ipv6_packet_at, lax_ipv6_source, source_within}
use Rattle.ep_ipslice.specs.LaxPackets.{lax_ipv6_with, row_fault_within, whole_ipv4, whole_ipv6}
use Rattle.ep_ipslice.specs.Packet.{IpPayload, Ipv4Packet, Ipv6Packet, body_len, body_source, ipv4_payload}
use Rattle.ep_ipslice.specs.declared.err.ipv4.slice_error.SliceError.{SliceError as Ipv4Fault}
use Rattle.ep_ipslice.specs.declared.err.ipv4.slice_error.SliceError.TheVariants as ipv4
use Rattle.ep_ipslice.specs.declared.err.ipv6.slice_error.SliceError.{SliceError as Ipv6Fault}
use Rattle.ep_ipslice.specs.declared.err.ipv6.slice_error.SliceError.TheVariants as ipv6
use Rattle.ep_ipslice.proofs.Found.{packet_unless, not_whole, fault_after}
use Rattle.ep_link.specs.Arp as arp
use Rattle.ep_packet.specs.LaxSliced.{LaxLayers, auth_stop, in_lax_ipv4, in_lax_ipv6, ipv6_exts_stop, lax_arp_layers}
use Rattle.ep_packet.specs.LaxSliced.{lax_ipv4_layers, lax_ipv6_layers, lax_layers_of, lax_transport_in, message_layer}
use Rattle.ep_packet.specs.LaxSliced.{no_layers}
use Rattle.ep_packet.specs.LaxSliced.{of_auth, of_ipv4_header, of_ipv6_exts, of_ipv6_header, with_transport}
use Rattle.ep_packet.specs.LaxTags.{Stop}
use Rattle.ep_packet.specs.LaxWhole.{whole_net}
use Rattle.ep_packet.specs.LayersAhead.{IsAuthFault, IsNetAhead, is_passed_over}
use Rattle.ep_packet.specs.LayersAhead as layers_ahead
use Rattle.ep_packet.specs.SliceFault.{of_ipv4, of_ipv6}
use Rattle.ep_packet.specs.Sliced as strict
use Rattle.ep_packet.specs.Sliced.{Layers, arp_layers, arp_type, in_ipv4, in_ipv6, ipv4_layers, ipv4_type, ipv6_layers}
use Rattle.ep_packet.specs.Sliced.{ipv6_type, layers_of}
use Rattle.ep_packet.specs.declared.err.packet.slice_error.SliceError.{SliceError}
use Rattle.ep_packet.specs.declared.err.packet.slice_error.SliceError.TheVariants.{Len}
use Rattle.ep_packet.specs.declared.net.net_slice.NetSlice.{NetSlice}
use Rattle.ep_packet.specs.declared.net.net_slice.NetSlice.TheVariants as net
use Rattle.ep_packet.proofs.AheadMessages.{message_stop, not_passed}
use Rattle.ep_packet.proofs.LaxWholeLemmas.{WholeParts}
use Rattle.ep_packet.proofs.MessageFaults.{payload_faulty}
use Rattle.ep_tag.specs.Ether.{EtherPayload, complete_ether}

-- laws of the layers, as they are called
pub record AheadParts : Type 0 where
  pub whole : WholeParts
  pub row : (order : Order) (bytes header : List ℕ) (fault : Fault)
      → body_len header (length bytes - 40) ≤ length bytes - 40 → (pieces : List Piece)
      → pieces ≡ pieces_within (length (strict6.body_of bytes header)) order []
      (next_header_of header) (strict6.body_of bytes header)
      → fault_of order pieces (number_after (next_header_of header) pieces)
      (rest_after bytes header pieces) ≡ Some fault
      → IsRowFault order bytes header
      (of_exts_fault (body_source header (length bytes - 40)) fault.0)
  pub rows : (order : Order) (first : ℕ) (bytes : List ℕ) (pieces : List Piece)
      (last : ℕ) (rest : List ℕ) → Chain order first bytes pieces last rest
      → pieces_within (length bytes) order [] first bytes ≡ pieces

-- a packet of the network layer that is whole, and what stopped after it
abbrev pub stopped_layers : Option NetSlice → Stop → LaxLayers
stopped_layers net stop = record { net = option_map whole_net net; transport = None; stop = Some stop }

message_after : (packet : NetSlice) (n : ℕ) (p : IpPayload) (stop : Stop)
    → lax_transport_in n p None ≡ (None, Some stop)
    → with_transport (whole_net packet) (lax_transport_in n p None) ≡ stopped_layers (Some packet) stop
message_after packet n p stop is = ap (with_transport (whole_net packet)) is

-- the message of a whole packet
pub ipv4_message : (packet : Ipv4Packet) (e : SliceError) → in_ipv4 packet ≡ Err e
    → is_passed_over e ≡ false → in_lax_ipv4 (whole_ipv4 packet) None
    ≡ stopped_layers (Some (net.Ipv4 packet)) (e, message_layer (ipv4_payload packet).ip_number.0)
ipv4_message packet e is over =
    let n : ℕ = length packet.header + length (auth_bytes packet.auth) in
    message_after (net.Ipv4 packet) n (ipv4_payload packet)
    (e, message_layer (ipv4_payload packet).ip_number.0)
    (message_stop (net.Ipv4 packet) n (ipv4_payload packet) e is over)

pub ipv6_message : (packet : Ipv6Packet) (e : SliceError) → in_ipv6 packet ≡ Err e
    → is_passed_over e ≡ false → in_lax_ipv6 (whole_ipv6 packet) None
    ≡ stopped_layers (Some (net.Ipv6 packet)) (e, message_layer packet.payload.ip_number.0)
ipv6_message packet e is over =
    let n : ℕ = length packet.header + length packet.exts.slice in
    message_after (net.Ipv6 packet) n packet.payload (e, message_layer packet.payload.ip_number.0)
    (message_stop (net.Ipv6 packet) n packet.payload e is over)

-- an IPv4 header alone, with all bytes after it that its total length counts
abbrev pub header_alone : (bytes header : List ℕ) → Ipv4Packet
header_alone bytes header =
    record { header = header; auth = None; payload = strict4.body_of header bytes }

-- why an IPv4 packet is refused whose lengths fit: for its header, or for its authentication header
pub data Ipv4Refused (bytes : List ℕ) (f : Ipv4Fault) : Type 0 where
  ForHeader : (fault : HeaderSliceError Ipv4HeaderFault) → v4.header_at bytes ≡ Err fault
      → f ≡ strict4.of_header_fault fault → Ipv4Refused bytes f
  ForAuth : (header : List ℕ) (fault : HeaderSliceError AuthFault) → IsAuthFault bytes header fault
      → f ≡ of_auth_fault (length header) fault → Ipv4Refused bytes f

-- the total length is below the header's own
abbrev low_total : List ℕ → LenError
low_total header = record (too_few_bytes layer.Ipv4Packet (length header) (total_len_of header))
    { len_source = Ipv4HeaderTotalLen }

auth_tests : (low cut : Bool) (bytes header : List ℕ)
    (r : Result (Option (List ℕ)) (HeaderSliceError AuthFault)) (f : Ipv4Fault)
    → v4.header_at bytes ≡ Ok header → nat_lt (total_len_of header) (length header) ≡ low
    → nat_lt (length bytes) (total_len_of header) ≡ cut
    → auth_after (protocol_of header) (strict4.body_of header bytes) ≡ r →
    (if low then Err (ipv4.Len (low_total header)) else (
    if cut then Err (ipv4.Len (too_few_bytes layer.Ipv4Packet (total_len_of header) (length bytes))) else
    result_map_both {U = Ipv4Packet} (λ auth. record {
      header = header;
      auth = auth;
      payload = drop (length (auth_bytes auth)) (strict4.body_of header bytes);
    }) (of_auth_fault (length header)) r)) ≡ Err f
    → is_passed_over (of_ipv4 f) ≡ false → Ipv4Refused bytes f
auth_tests true cut bytes header r f read counts there at is over =
    absurd (not_passed (of_ipv4 (ipv4.Len (low_total header))) (of_ipv4 f)
    refl (ap of_ipv4 (err_same {A = Ipv4Packet} _ _ is)) over)
auth_tests false true bytes header r f read counts there at is over = absurd (not_passed
    (of_ipv4 (ipv4.Len (too_few_bytes layer.Ipv4Packet (total_len_of header) (length bytes)))) (of_ipv4 f)
    refl (ap of_ipv4 (err_same {A = Ipv4Packet} _ _ is)) over)
auth_tests false false bytes header (Ok auth) f read counts there at is over = cc
auth_tests false false bytes header (Err x) f read counts there at is over =
    let fault : IsAuthFault bytes header x = record {
      read = read;
      counted = ltb-false (total_len_of header) (length header) counts;
      there = ltb-false (length bytes) (total_len_of header) there;
      auth = at;
    } in
    ForAuth header x fault (sym (err_same {A = Ipv4Packet} _ _ is))

after_header : (bytes : List ℕ) (r : Result (List ℕ) (HeaderSliceError Ipv4HeaderFault)) (f : Ipv4Fault)
    → v4.header_at bytes ≡ r → strict4.packet_with bytes r ≡ Err f → is_passed_over (of_ipv4 f) ≡ false
    → Ipv4Refused bytes f
after_header bytes (Err x) f read is over = ForHeader x read (sym (err_same {A = Ipv4Packet} _ _ is))
after_header bytes (Ok header) f read is over =
    auth_tests (nat_lt (total_len_of header) (length header)) (nat_lt (length bytes) (total_len_of header))
    bytes header (auth_after (protocol_of header) (strict4.body_of header bytes)) f read refl refl refl is over

pub ipv4_refused : (bytes : List ℕ) (f : Ipv4Fault) → ipv4_packet_at bytes ≡ Err f
    → is_passed_over (of_ipv4 f) ≡ false → Ipv4Refused bytes f
ipv4_refused bytes f is over = after_header bytes (v4.header_at bytes) f refl is over

-- what is there of the packet then
pub header_stops : (bytes : List ℕ) (fault : HeaderSliceError Ipv4HeaderFault)
    → v4.header_at bytes ≡ Err fault → lax_ipv4_packet_at bytes ≡ Err fault
header_stops bytes fault read = ap (lax_ipv4_after bytes) read

-- what bounds a total length that counts the header
abbrev lax_ipv4_bound : (bytes header : List ℕ) → LenSource
lax_ipv4_bound bytes header = source_within (length bytes) (total_len_of header) Ipv4HeaderTotalLen

abbrev stopped_alone : (header : List ℕ) → HeaderSliceError AuthFault → Bool → LenSource → List ℕ → StoppedIpv4
stopped_alone header fault incomplete source body = (
  record {
    header = header;
    auth = None;
    incomplete = incomplete;
    payload = record {
      ip_number = record { 0 = protocol_of header };
      fragmented = is_fragmenting (more_fragments_of header) (fragment_offset_of header);
      len_source = source;
      payload = body;
    };
  },
  Some (fault_within source (length header) fault),
)

auth_part : (bytes header : List ℕ) (fault : HeaderSliceError AuthFault)
    → nat_lt (total_len_of header) (length header) ≡ false
    → nat_lt (length bytes) (total_len_of header) ≡ false
    → auth_after (protocol_of header) (strict4.body_of header bytes) ≡ Err fault
    → lax_ipv4_after bytes (Ok header) ≡ Ok (
      whole_ipv4 (header_alone bytes header),
      Some (fault_within Ipv4HeaderTotalLen (length header) fault),
    )
auth_part bytes header fault counts there auth =
    let body : lax_ipv4_body bytes header ≡ strict4.body_of header bytes =
    ap (λ (b : Bool). if b then drop (length header) bytes else strict4.body_of header bytes) counts in
    let source : lax_ipv4_source bytes header ≡ Ipv4HeaderTotalLen =
    ap (λ (b : Bool). if b then Slice else lax_ipv4_bound bytes header) counts
    ∙ ap (λ (b : Bool). if b then Slice else Ipv4HeaderTotalLen) there in
    let read : auth_after (protocol_of header) (lax_ipv4_body bytes header) ≡ Err fault =
    ap (auth_after (protocol_of header)) body ∙ auth in
    ap (λ (r : Result (Option (List ℕ)) (HeaderSliceError AuthFault)). Ok (lax_ipv4_with bytes header r)) read
    ∙ ap₂ (λ (b : Bool) (xs : List ℕ). Ok (stopped_alone header fault b (lax_ipv4_source bytes header) xs))
    there body
    ∙ ap (λ (s : LenSource). Ok (stopped_alone header fault false s (strict4.body_of header bytes))) source

pub auth_stops : (bytes header : List ℕ) (fault : HeaderSliceError AuthFault)
    → IsAuthFault bytes header fault → lax_ipv4_packet_at bytes ≡ Ok (
      whole_ipv4 (header_alone bytes header),
      Some (fault_within Ipv4HeaderTotalLen (length header) fault),
    )
auth_stops bytes header fault is = ap (lax_ipv4_after bytes) is.read
    ∙ auth_part bytes header fault (le-ltb (total_len_of header) (length header) is.counted)
    (le-ltb (length bytes) (total_len_of header) is.there) is.auth

auth_fault_same : (n : ℕ) (fault : HeaderSliceError AuthFault)
    → of_auth (fault_within Ipv4HeaderTotalLen n fault) ≡ of_ipv4 (of_auth_fault n fault)
auth_fault_same n (slice_error.Len e) = refl
auth_fault_same n (slice_error.Content e) = refl

header_fault_same : (fault : HeaderSliceError Ipv4HeaderFault)
    → of_ipv4 (strict4.of_header_fault fault) ≡ of_ipv4_header fault
header_fault_same (slice_error.Len e) = refl
header_fault_same (slice_error.Content e) = refl

-- the layers then
pub auth_layers : (bytes header : List ℕ) (fault : HeaderSliceError AuthFault)
    → in_lax_ipv4 (whole_ipv4 (header_alone bytes header))
    (Some (auth_stop (fault_within Ipv4HeaderTotalLen (length header) fault)))
    ≡ stopped_layers (Some (net.Ipv4 (header_alone bytes header)))
    (of_ipv4 (of_auth_fault (length header) fault), layer.IpAuthHeader)
auth_layers bytes header fault =
    ap (λ (e : SliceError). stopped_layers (Some (net.Ipv4 (header_alone bytes header))) (e, layer.IpAuthHeader))
    (auth_fault_same (length header) fault)

-- what of a network layer is there, where it is refused
pub record NetStops (t : EtherType) (bytes : List ℕ) (e : SliceError) (lax : LaxLayers) : Type 0 where
  pub ahead : Option NetSlice
  pub stop : Stop
  pub is : IsNetAhead t bytes ahead stop
  pub error : e ≡ stop.0
  pub same : lax ≡ stopped_layers ahead stop

ipv4_stops : (t : EtherType) (bytes : List ℕ) (f : Ipv4Fault) (e : SliceError) → t.0 ≡ ipv4_type
    → Ipv4Refused bytes f → of_ipv4 f ≡ e → NetStops t bytes e (lax_ipv4_layers (lax_ipv4_packet_at bytes))
ipv4_stops t bytes f e named (ForHeader fault read error) same = record {
  ahead = None;
  stop = (of_ipv4_header fault, layer.Ipv4Header);
  is = layers_ahead.InIpv4Header fault named read refl refl;
  error = sym same ∙ ap of_ipv4 error ∙ header_fault_same fault;
  same = ap lax_ipv4_layers (header_stops bytes fault read);
}
ipv4_stops t bytes f e named (ForAuth header fault is error) same = record {
  ahead = Some (net.Ipv4 (header_alone bytes header));
  stop = (of_ipv4 (of_auth_fault (length header) fault), layer.IpAuthHeader);
  is = layers_ahead.InIpv4 (header_alone bytes header) named (layers_ahead.InAuth header fault is refl refl) refl;
  error = sym same ∙ ap of_ipv4 error;
  same = ap lax_ipv4_layers (auth_stops bytes header fault is) ∙ auth_layers bytes header fault;
}

ipv4_case : AheadParts → (t : EtherType) (bytes : List ℕ) (r : Result Ipv4Packet Ipv4Fault) (e : SliceError)
    → t.0 ≡ ipv4_type → ipv4_packet_at bytes ≡ r → ipv4_layers r ≡ Err e → is_passed_over e ≡ false
    → NetStops t bytes e (lax_ipv4_layers (lax_ipv4_packet_at bytes))
ipv4_case law t bytes (Ok packet) e named read is over = record {
  ahead = Some (net.Ipv4 packet);
  stop = (e, message_layer (ipv4_payload packet).ip_number.0);
  is = layers_ahead.InIpv4 packet named
      (layers_ahead.InMessage e read (payload_faulty (net.Ipv4 packet) _ _ e is) refl) refl;
  error = refl;
  same = ap lax_ipv4_layers (law.whole.ipv4 bytes packet read) ∙ ipv4_message packet e is over;
}
ipv4_case law t bytes (Err f) e named read is over =
    let same : of_ipv4 f ≡ e = err_same {A = Layers} _ _ is in
    ipv4_stops t bytes f e named (ipv4_refused bytes f read (ap is_passed_over same ∙ over)) same

-- why an IPv6 packet is refused whose length fits: for its header, or for an extension header
pub data Ipv6Refused (bytes : List ℕ) (f : Ipv6Fault) : Type 0 where
  ForHeader : (fault : HeaderSliceError Ipv6HeaderFault) → v6.header_at bytes ≡ Err fault
      → f ≡ fault6.of_header_fault fault → Ipv6Refused bytes f
  ForExtension : (header : List ℕ) → v6.header_at bytes ≡ Ok header
      → (row : IsRowFault view_order bytes header f)
      → lax_ipv6_packet_at bytes ≡ Ok (
        whole_ipv6 (ipv6_packet_of bytes header row.pieces),
        Some (row_fault_within (body_source header (length bytes - 40)) row.fault),
      )
      → Ipv6Refused bytes f

-- a packet with these extension headers, whether bytes are missing, and what bounds it
abbrev bounded : (bytes header : List ℕ) → List Piece → Bool → LenSource → LaxIpv6Packet
bounded bytes header pieces incomplete source = record {
  header = header;
  exts = exts_of (next_header_of header) pieces;
  incomplete = incomplete;
  payload = record {
    ip_number = record { 0 = number_after (next_header_of header) pieces };
    fragmented = list_any is_fragmenting_piece pieces;
    len_source = source;
    payload = rest_after bytes header pieces;
  };
}

abbrev stopped : LaxIpv6Packet → Option Fault → StoppedIpv6
stopped packet stop = (packet, stop)

source_whole : (bytes header : List ℕ)
    → nat_lt (length bytes - 40) (body_len header (length bytes - 40)) ≡ false
    → lax_ipv6_source bytes header ≡ body_source header (length bytes - 40)
source_whole bytes header size =
    ap (λ (b : Bool). if b then Slice else body_source header (length bytes - 40)) size

row_whole : (bytes header : List ℕ) (pieces : List Piece) (fault : Fault)
    → nat_lt (length bytes - 40) (body_len header (length bytes - 40)) ≡ false
    → fault_after bytes header pieces ≡ Some fault
    → lax_ipv6_with bytes header pieces ≡ (
      whole_ipv6 (ipv6_packet_of bytes header pieces),
      Some (row_fault_within (body_source header (length bytes - 40)) fault),
    )
row_whole bytes header pieces fault size ends =
    let source = source_whole bytes header size in
    let packet : lax_ipv6_of bytes header pieces ≡ whole_ipv6 (ipv6_packet_of bytes header pieces) =
    ap₂ (bounded bytes header pieces) size source in
    let stop : option_map (row_fault_within (lax_ipv6_source bytes header)) (fault_after bytes header pieces)
    ≡ Some (row_fault_within (body_source header (length bytes - 40)) fault) =
    ap₂ (λ (s : LenSource) (o : Option Fault). option_map (row_fault_within s) o) source ends in
    ap₂ stopped packet stop

row_stops : (bytes header : List ℕ) (pieces : List Piece) (fault : Fault)
    → v6.header_at bytes ≡ Ok header
    → nat_lt (length bytes - 40) (body_len header (length bytes - 40)) ≡ false
    → extensions_of (next_header_of header) (strict6.body_of bytes header) ≡ pieces
    → fault_after bytes header pieces ≡ Some fault
    → lax_ipv6_packet_at bytes ≡ Ok (
      whole_ipv6 (ipv6_packet_of bytes header pieces),
      Some (row_fault_within (body_source header (length bytes - 40)) fault),
    )
row_stops bytes header pieces fault read size are ends = ap (lax_ipv6_after bytes) read
    ∙ ap (λ (ps : List Piece). Ok (lax_ipv6_with bytes header ps)) are
    ∙ ap Ok (row_whole bytes header pieces fault size ends)

row_last : (order : Order) (passed : List Ipv6ExtSlot) (number : ℕ) (pieces : List Piece) (last : ℕ)
    → Row order passed number pieces last → number_after number pieces ≡ last
row_last order passed number [] last row = row
row_last order passed number (piece ∷ pieces) last row =
    row_last order (passed ++ piece.0 ∷ []) (num piece.1 0 1) pieces last row.2

-- the row of the fault is the one that was found
row_found : AheadParts → (bytes header : List ℕ) (f : Ipv6Fault) → v6.header_at bytes ≡ Ok header
    → nat_lt (length bytes - 40) (body_len header (length bytes - 40)) ≡ false
    → IsRowFault view_order bytes header f → Ipv6Refused bytes f
row_found law bytes header f read size row =
    let body : List ℕ = strict6.body_of bytes header in
    let first : ℕ = next_header_of header in
    let are : extensions_of first body ≡ row.pieces =
    law.rows view_order first body row.pieces row.last row.rest row.chain in
    let last : number_after first row.pieces ≡ row.last =
    row_last view_order [] first row.pieces row.last row.chain.row in
    let rest : rest_after bytes header row.pieces ≡ row.rest =
    ap (drop (length (bytes_of row.pieces))) row.chain.cut
    ∙ drop_at (bytes_of row.pieces) row.rest (length (bytes_of row.pieces)) refl in
    let ends : fault_after bytes header row.pieces ≡ Some row.fault =
    ap₂ (λ (n : ℕ) (xs : List ℕ). fault_of view_order row.pieces n xs) last rest ∙ row.found in
    ForExtension header read row (row_stops bytes header row.pieces row.fault read size are ends)

unless_part : AheadParts → (bytes header : List ℕ) (pieces : List Piece) (o : Option Fault) (f : Ipv6Fault)
    → v6.header_at bytes ≡ Ok header
    → nat_lt (length bytes - 40) (body_len header (length bytes - 40)) ≡ false
    → pieces ≡ extensions_of (next_header_of header) (strict6.body_of bytes header)
    → fault_after bytes header pieces ≡ o → packet_unless bytes header pieces o ≡ Err f
    → Ipv6Refused bytes f
unless_part law bytes header pieces None f read size are ends is = cc
unless_part law bytes header pieces (Some x) f read size are ends is =
    let fits = ltb-false (length bytes - 40) (body_len header (length bytes - 40)) size in
    let same : of_exts_fault (body_source header (length bytes - 40)) x.0 ≡ f =
    err_same {A = Ipv6Packet} _ _ is in
    row_found law bytes header f read size
    (subst (IsRowFault view_order bytes header) same (law.row view_order bytes header x fits pieces are ends))

length_test : AheadParts → (short : Bool) (bytes header : List ℕ) (pieces : List Piece) (f : Ipv6Fault)
    → v6.header_at bytes ≡ Ok header
    → nat_lt (length bytes - 40) (body_len header (length bytes - 40)) ≡ short
    → pieces ≡ extensions_of (next_header_of header) (strict6.body_of bytes header) →
    (if short then Err (ipv6.Len (not_whole header (length bytes)))
    else packet_unless bytes header pieces (fault_after bytes header pieces)) ≡ Err f
    → is_passed_over (of_ipv6 f) ≡ false → Ipv6Refused bytes f
length_test law true bytes header pieces f read size are is over =
    absurd (not_passed (of_ipv6 (ipv6.Len (not_whole header (length bytes)))) (of_ipv6 f) refl
    (ap of_ipv6 (err_same {A = Ipv6Packet} _ _ is)) over)
length_test law false bytes header pieces f read size are is over =
    unless_part law bytes header pieces (fault_after bytes header pieces) f read size are refl is

after_ipv6_header : AheadParts → (bytes : List ℕ) (r : Result (List ℕ) (HeaderSliceError Ipv6HeaderFault))
    (f : Ipv6Fault) → v6.header_at bytes ≡ r → packet_after bytes r ≡ Err f
    → is_passed_over (of_ipv6 f) ≡ false → Ipv6Refused bytes f
after_ipv6_header law bytes (Err x) f read is over =
    ForHeader x read (sym (err_same {A = Ipv6Packet} _ _ is))
after_ipv6_header law bytes (Ok header) f read is over =
    length_test law (nat_lt (length bytes - 40) (body_len header (length bytes - 40))) bytes header
    (extensions_of (next_header_of header) (strict6.body_of bytes header)) f read refl refl is over

pub ipv6_refused : AheadParts → (bytes : List ℕ) (f : Ipv6Fault) → ipv6_packet_at bytes ≡ Err f
    → is_passed_over (of_ipv6 f) ≡ false → Ipv6Refused bytes f
ipv6_refused law bytes f is over = after_ipv6_header law bytes (v6.header_at bytes) f refl is over

exts_fault_same : (source : LenSource) (fault : HeaderSliceError ExtsFault)
    → of_ipv6_exts (fault_within source 40 fault) ≡ of_ipv6 (of_exts_fault source fault)
exts_fault_same source (slice_error.Len e) = refl
exts_fault_same source (slice_error.Content e) = refl

ipv6_header_fault_same : (fault : HeaderSliceError Ipv6HeaderFault)
    → of_ipv6 (fault6.of_header_fault fault) ≡ of_ipv6_header fault
ipv6_header_fault_same (slice_error.Len e) = refl
ipv6_header_fault_same (slice_error.Content e) = refl

pub row_layers : (bytes header : List ℕ) (f : Ipv6Fault) (row : IsRowFault view_order bytes header f)
    → in_lax_ipv6 (whole_ipv6 (ipv6_packet_of bytes header row.pieces))
    (Some (ipv6_exts_stop (row_fault_within (body_source header (length bytes - 40)) row.fault)))
    ≡ stopped_layers (Some (net.Ipv6 (ipv6_packet_of bytes header row.pieces))) (of_ipv6 f, row.fault.1)
row_layers bytes header f row =
    ap (λ (e : SliceError). stopped_layers
    (Some (net.Ipv6 (ipv6_packet_of bytes header row.pieces))) (e, row.fault.1))
    (exts_fault_same (body_source header (length bytes - 40)) row.fault.0 ∙ ap of_ipv6 (sym row.error))

ipv6_stops : (t : EtherType) (bytes : List ℕ) (f : Ipv6Fault) (e : SliceError) → t.0 ≡ ipv6_type
    → Ipv6Refused bytes f → of_ipv6 f ≡ e → NetStops t bytes e (lax_ipv6_layers (lax_ipv6_packet_at bytes))
ipv6_stops t bytes f e named (ForHeader fault read error) same = record {
  ahead = None;
  stop = (of_ipv6_header fault, layer.Ipv6Header);
  is = layers_ahead.InIpv6Header fault named read refl refl;
  error = sym same ∙ ap of_ipv6 error ∙ ipv6_header_fault_same fault;
  same = ap lax_ipv6_layers (ap (lax_ipv6_after bytes) read);
}
ipv6_stops t bytes f e named (ForExtension header read row lax) same = record {
  ahead = Some (net.Ipv6 (ipv6_packet_of bytes header row.pieces));
  stop = (of_ipv6 f, row.fault.1);
  is = layers_ahead.InIpv6 (ipv6_packet_of bytes header row.pieces) named
      (layers_ahead.InExtensions header f read row refl refl) refl;
  error = sym same;
  same = ap lax_ipv6_layers lax ∙ row_layers bytes header f row;
}

ipv6_case : AheadParts → (t : EtherType) (bytes : List ℕ) (r : Result Ipv6Packet Ipv6Fault) (e : SliceError)
    → t.0 ≡ ipv6_type → ipv6_packet_at bytes ≡ r → ipv6_layers r ≡ Err e → is_passed_over e ≡ false
    → NetStops t bytes e (lax_ipv6_layers (lax_ipv6_packet_at bytes))
ipv6_case law t bytes (Ok packet) e named read is over = record {
  ahead = Some (net.Ipv6 packet);
  stop = (e, message_layer packet.payload.ip_number.0);
  is = layers_ahead.InIpv6 packet named
      (layers_ahead.InMessage e read (payload_faulty (net.Ipv6 packet) _ _ e is) refl) refl;
  error = refl;
  same = ap lax_ipv6_layers (law.whole.ipv6 bytes packet read) ∙ ipv6_message packet e is over;
}
ipv6_case law t bytes (Err f) e named read is over =
    let same : of_ipv6 f ≡ e = err_same {A = Layers} _ _ is in
    ipv6_stops t bytes f e named (ipv6_refused law bytes f read (ap is_passed_over same ∙ over)) same

arp_case : (t : EtherType) (bytes : List ℕ) (r : Result (List ℕ) LenError) (e : SliceError)
    → t.0 ≡ arp_type → arp.packet_at bytes ≡ r → arp_layers r ≡ Err e
    → NetStops t bytes e (lax_arp_layers (arp.packet_at bytes))
arp_case t bytes (Ok packet) e named read is = cc
arp_case t bytes (Err x) e named read is = record {
  ahead = None;
  stop = (Len x, layer.Arp);
  is = layers_ahead.InArp x named read refl refl;
  error = sym (err_same {A = Layers} _ _ is);
  same = ap lax_arp_layers read;
}

layers_by : AheadParts → (four six a : Bool) (p : EtherPayload) (e : SliceError)
    → (p.ether_type.0 == ipv4_type) ≡ four → (p.ether_type.0 == ipv6_type) ≡ six
    → (p.ether_type.0 == arp_type) ≡ a
    → (if four then ipv4_layers (ipv4_packet_at p.payload)
    else (if six then ipv6_layers (ipv6_packet_at p.payload)
    else (if a then arp_layers (arp.packet_at p.payload) else Ok strict.no_layers))) ≡ Err e
    → is_passed_over e ≡ false → NetStops p.ether_type p.payload e
    (if four then lax_ipv4_layers (lax_ipv4_packet_at p.payload)
    else (if six then lax_ipv6_layers (lax_ipv6_packet_at p.payload)
    else (if a then lax_arp_layers (arp.packet_at p.payload) else no_layers None)))
layers_by law true six a p e is4 is6 isa is over =
    ipv4_case law p.ether_type p.payload (ipv4_packet_at p.payload) e
    (eqb-true p.ether_type.0 ipv4_type is4) refl is over
layers_by law false true a p e is4 is6 isa is over =
    ipv6_case law p.ether_type p.payload (ipv6_packet_at p.payload) e
    (eqb-true p.ether_type.0 ipv6_type is6) refl is over
layers_by law false false true p e is4 is6 isa is over =
    arp_case p.ether_type p.payload (arp.packet_at p.payload) e
    (eqb-true p.ether_type.0 arp_type isa) refl is
layers_by law false false false p e is4 is6 isa is over = cc

-- where what an ether type names is refused, it has the headers ahead of the fault
pub net_stops : AheadParts → (p : EtherPayload) (e : SliceError) → layers_of p ≡ Err e
    → is_passed_over e ≡ false
    → NetStops p.ether_type p.payload e (lax_layers_of (complete_ether p))
net_stops law p e is over = layers_by law (p.ether_type.0 == ipv4_type) (p.ether_type.0 == ipv6_type)
    (p.ether_type.0 == arp_type) p e refl refl refl is over
