-- What stops reading as far as the bytes are there is never a length that it passes over.
use Rattle.std.proofs.Common.{◌≡◌, ◌∙◌, sym, ap, refl, subst, ℕ, zero, suc, ◌+◌, ◌-◌, ◌==◌, ◌&&◌, ◌||◌, not, Bool, true, false, List}
use Rattle.std.proofs.Common.{length, Option, Some, None, Result, Ok, Err, arith}
use Rattle.std.specs.Prelude.{if◌then◌else◌, nat_lt, MatchResult}
use Rattle.std.specs.Option.{option_map}
use Rattle.std.proofs.lemmas.Bool.{eqb-true}
use Rattle.std.specs.Result.{result_map_both, result_err}
use Rattle.ep_base.proofs.Prefixes.{err_same}
use Rattle.ep_base.specs.LenError.{too_few_bytes}
use Rattle.ep_base.specs.SliceError as slice
use Rattle.ep_base.specs.declared.err.layer.Layer.{Layer}
use Rattle.ep_base.specs.declared.err.layer.Layer.TheVariants as layer
use Rattle.ep_base.specs.declared.err.len_error.LenError.{LenError}
use Rattle.ep_base.specs.declared.err.slice_error.SliceError.{SliceError as HeaderSliceError}
use Rattle.ep_base.specs.declared.err.slice_error.SliceError.TheVariants as slice_error
use Rattle.ep_base.specs.declared.len_source.LenSource.{LenSource}
use Rattle.ep_base.specs.declared.len_source.LenSource.TheVariants as source
use Rattle.ep_base.specs.declared.link.ether_type.EtherType.{EtherType}
use Rattle.ep_ext.specs.Auth.{auth_at}
use Rattle.ep_ext.specs.Chain.{layer_of, prefix_of, fault_at}
use Rattle.ep_ext.specs.Ipv4Exts.{auth_after, auth_bytes}
use Rattle.ep_ext.specs.Value.{Piece, bytes_of, slots}
use Rattle.ep_ext.specs.declared.err.ip_auth.header_error.HeaderError.{HeaderError as AuthFault}
use Rattle.ep_ext.specs.declared.err.ipv6_exts.header_error.HeaderError.{HeaderError as ExtsFault}
use Rattle.ep_ext.specs.declared.err.ipv6_exts.header_error.HeaderError.TheVariants.{HopByHopNotAtStart}
use Rattle.ep_ext.specs.declared.net.ipv6_ext_slot.Ipv6ExtSlot.{Ipv6ExtSlot}
use Rattle.ep_ext.specs.declared.net.ipv6_ext_slot.Ipv6ExtSlot.TheVariants as slot
use Rattle.ep_icmp.specs.Icmpv4.{is_timestamp_reply, is_timestamp_request}
use Rattle.ep_icmp.specs.Icmpv4Fault as icmpv4_fault
use Rattle.ep_icmp.specs.Icmpv6Fault as icmpv6_fault
use Rattle.ep_ip.specs.Ipv4.{protocol_of, total_len_of, version_of}
use Rattle.ep_ip.specs.Ipv4Fault as v4
use Rattle.ep_ip.specs.Ipv6.{next_header_of, payload_length_of}
use Rattle.ep_ip.specs.Ipv6Fault as v6
use Rattle.ep_ip.specs.declared.err.ipv4.header_error.HeaderError.{HeaderError as Ipv4HeaderFault}
use Rattle.ep_ip.specs.declared.err.ipv6.header_error.HeaderError.{HeaderError as Ipv6HeaderFault}
use Rattle.ep_ipslice.specs.IpSlice.{no_version}
use Rattle.ep_ipslice.specs.Ipv6Exts.{view_order}
use Rattle.ep_ipslice.specs.Ipv6Packet.{body_of, extensions_of, number_after, rest_after}
use Rattle.ep_ipslice.specs.LaxIp.{ipv4_header_fault, ipv6_header_fault, map_content, with_lax_ipv4, with_lax_ipv6}
use Rattle.ep_ipslice.specs.LaxPackets.{LaxIpv6Packet, StoppedIpv4, StoppedIpv6, fault_within, lax_ipv4_after}
use Rattle.ep_ipslice.specs.LaxPackets.{lax_ipv4_body, lax_ipv4_of, lax_ipv4_packet_at, lax_ipv4_source, lax_ipv4_with}
use Rattle.ep_ipslice.specs.LaxPackets.{lax_ipv6_after, lax_ipv6_of, lax_ipv6_packet_at, lax_ipv6_source, lax_ipv6_with}
use Rattle.ep_ipslice.specs.LaxPackets.{row_fault_within}
use Rattle.ep_ipslice.specs.Packet.{IpPayload, body_len}
use Rattle.ep_ipslice.specs.declared.err.ip.header_error.HeaderError.{HeaderError as IpHeaderFault}
use Rattle.ep_ipslice.specs.declared.err.ip.header_error.HeaderError.TheVariants.{UnsupportedIpVersion}
use Rattle.ep_ipslice.proofs.Found.{fault_after}
use Rattle.ep_link.specs.Arp as arp
use Rattle.ep_link.specs.Ethernet.{ethernet_len, payload_of}
use Rattle.ep_link.specs.Frame.{without_fcs}
use Rattle.ep_link.specs.Sll.{sll_len}
use Rattle.ep_link.specs.SllFault as sll_fault
use Rattle.ep_link.specs.SllPayload as sll
use Rattle.ep_link.specs.declared.err.linux_sll.header_error.HeaderError.{HeaderError as SllFault}
use Rattle.ep_link.specs.declared.link.link_slice.LinkSlice.{LinkSlice}
use Rattle.ep_link.specs.declared.link.link_slice.LinkSlice.TheVariants as link
use Rattle.ep_packet.specs.LaxSliced.{first_stop, in_lax_cooked, in_lax_frame, in_lax_ipv4, in_lax_ipv6, in_lax_linux_sll}
use Rattle.ep_packet.specs.LaxSliced.{in_lax_version, ipv6_exts_stop, lax_arp_layers, lax_ipv4_layers, lax_ipv6_layers}
use Rattle.ep_packet.specs.LaxSliced.{lax_layers_in, lax_message_at, lax_message_in, lax_packet_after, lax_transport_in}
use Rattle.ep_packet.specs.LaxSliced.{lax_sliced_ether_type, lax_sliced_ethernet, lax_sliced_ip, lax_sliced_linux_sll}
use Rattle.ep_packet.specs.LaxSliced.{message_layer, message_or_stop, no_layers, of_auth, of_ipv4_header, of_ipv6_exts}
use Rattle.ep_packet.specs.LaxSliced.{of_ip_header, of_ipv6_header}
use Rattle.ep_packet.specs.LaxTags.{LaxTagged, Stop, lax_tag_at, lax_tags_in, stop_by}
use Rattle.ep_packet.specs.LayersAhead.{NoLengthStopped, counts_payload, is_passed_over, is_udp_length}
use Rattle.ep_packet.specs.Readable as number
use Rattle.ep_packet.specs.Readable.{ReadMessage, message_at, tcp_fault}
use Rattle.ep_packet.specs.SliceFault.{bounded_by, of_linux_sll, of_macsec, within}
use Rattle.ep_packet.specs.Sliced.{arp_type, ether_payload, ipv4_type, ipv6_type, read_transport, result_within}
use Rattle.ep_packet.specs.Tags.{is_macsec_type, most_tags}
use Rattle.ep_packet.specs.declared.err.packet.slice_error.SliceError.{SliceError}
use Rattle.ep_packet.specs.declared.err.packet.slice_error.SliceError.TheVariants.{Len}
use Rattle.ep_packet.specs.declared.lax_sliced_packet.LaxSlicedPacket.{LaxSlicedPacket}
use Rattle.ep_packet.specs.declared.transport.transport_slice.TransportSlice.{TransportSlice}
use Rattle.ep_packet.proofs.AheadIp.{row_is}
use Rattle.ep_packet.proofs.AheadMessages.{passed_moved}
use Rattle.ep_packet.proofs.LaxCutLemmas.{rest_at}
use Rattle.ep_packet.proofs.LaxSameHeaderLemmas.{auth_is}
use Rattle.ep_packet.proofs.LaxTagsLemmas.{lax_from_tag, lax_macsec_tag, lax_read_further, lax_tags_turn, lax_vlan_tag}
use Rattle.ep_tag.specs.Ether.{EtherPayload, LaxEtherPayload, complete_ether}
use Rattle.ep_tag.specs.LinkExt.{lax_payload_after, lax_tag_len}
use Rattle.ep_tag.specs.MacsecFault as macsec_fault
use Rattle.ep_tag.specs.MacsecLax.{lax_macsec_after, lax_macsec_at}
use Rattle.ep_tag.specs.Prefix.{whole_at}
use Rattle.ep_tag.specs.Vlan.{is_vlan_type, vlan_len}
use Rattle.ep_tag.specs.declared.err.macsec.header_error.HeaderError.{HeaderError as MacsecFault}
use Rattle.ep_tag.specs.declared.link.lax_link_ext_slice.LaxLinkExtSlice.{LaxLinkExtSlice}
use Rattle.ep_tcpudp.specs.TcpFault.{segment_at}
use Rattle.ep_tcpudp.specs.UdpFault.{lax_udp_at}
use Rattle.ep_tcpudp.specs.declared.err.tcp.header_error.HeaderError.{HeaderError as TcpFault}

-- one that stops
abbrev Stays : SliceError → Type 0
Stays e = is_passed_over e ≡ false

stays_moved : (n : ℕ) (stop : Option Stop) → NoLengthStopped stop → NoLengthStopped (option_map (stop_by n) stop)
stays_moved n None stays = stays
stays_moved n (Some stop) stays = passed_moved n stop.0 ∙ stays

-- tags
vlan_stays : (short : Bool) (n : ℕ) (bytes : List ℕ) (stop : Stop)
    → lax_vlan_tag (if short then Err (too_few_bytes layer.VlanHeader vlan_len n) else Ok bytes) ≡ Err stop
    → Stays stop.0
vlan_stays true n bytes stop is =
    subst (λ (s : Stop). Stays s.0) (err_same {A = Option LaxLinkExtSlice} _ _ is) refl
vlan_stays false n bytes stop is = cc

macsec_header_stays : (bytes : List ℕ) (e : HeaderSliceError MacsecFault)
    → macsec_fault.header_at bytes ≡ Err e → Stays (of_macsec e)
macsec_header_stays bytes e is = grind arith

macsec_stays : (bytes : List ℕ) (r : Result (List ℕ) (HeaderSliceError MacsecFault)) (stop : Stop)
    → macsec_fault.header_at bytes ≡ r → lax_macsec_tag (lax_macsec_after bytes r) ≡ Err stop
    → Stays stop.0
macsec_stays bytes (Ok header) stop read is = cc
macsec_stays bytes (Err e) stop read is = subst (λ (s : Stop). Stays s.0)
    (err_same {A = Option LaxLinkExtSlice} _ _ is) (macsec_header_stays bytes e read)

tag_by : (vlan macsec : Bool) (bytes : List ℕ) (stop : Stop)
    → (if vlan then lax_vlan_tag (whole_at layer.VlanHeader vlan_len bytes)
    else (if macsec then lax_macsec_tag (lax_macsec_at bytes) else Ok None)) ≡ Err stop → Stays stop.0
tag_by true macsec bytes stop is = vlan_stays (nat_lt (length bytes) vlan_len) (length bytes) bytes stop is
tag_by false true bytes stop is = macsec_stays bytes (macsec_fault.header_at bytes) stop refl is
tag_by false false bytes stop is = cc

tag_stays : (p : LaxEtherPayload) (stop : Stop) → lax_tag_at p ≡ Err stop → Stays stop.0
tag_stays p stop is = tag_by (is_vlan_type p.ether_type) (is_macsec_type p.ether_type) p.payload stop is

abbrev TagsStay : ℕ → Type 0
TagsStay n = (p : LaxEtherPayload) → NoLengthStopped (lax_tags_in n p).stop

further_stays : (n : ℕ) (o : Option LaxEtherPayload) → TagsStay n
    → NoLengthStopped (lax_read_further (lax_tags_in n) o).stop
further_stays n None each = tt
further_stays n (Some p) each = each p

from_stays : (n : ℕ) (p : LaxEtherPayload) (r : Result (Option LaxLinkExtSlice) Stop) → TagsStay n
    → lax_tag_at p ≡ r → NoLengthStopped (lax_from_tag (lax_tags_in n) p r).stop
from_stays n p (Err stop) each read = tag_stays p stop read
from_stays n p (Ok None) each read = tt
from_stays n p (Ok (Some t)) each read = stays_moved (lax_tag_len t)
    (lax_read_further (lax_tags_in n) (lax_payload_after t)).stop (further_stays n (lax_payload_after t) each)

pub tags_stay : (n : ℕ) → TagsStay n
unfolding lax_tags_in
tags_stay zero p = tt
tags_stay (suc n) p = subst (λ (t : LaxTagged). NoLengthStopped t.stop) (sym (lax_tags_turn n p))
    (from_stays n p (lax_tag_at p) (tags_stay n) refl)

-- messages
read_stays : {E : Type 0} (message : List ℕ → ReadMessage) (fault : E → SliceError)
    (r : Result (List ℕ) E) (e : SliceError) → ((x : E) → r ≡ Err x → Stays (fault x))
    → result_map_both message fault r ≡ Err e → Stays e
read_stays message fault (Ok bytes) e each is = cc
read_stays message fault (Err x) e each is = subst Stays (err_same {A = ReadMessage} _ _ is) (each x refl)

abbrev LenStays : LenError → Type 0
LenStays e = Stays (Len e)

abbrev TcpStays : HeaderSliceError TcpFault → Type 0
TcpStays e = Stays (tcp_fault e)

udp_stays : (bytes : List ℕ) (e : LenError) → lax_udp_at bytes ≡ Err e → LenStays e
udp_stays bytes e is = grind arith

tests_stay : (a b c : Bool) (x y z e : LenError) (m : List ℕ) → LenStays x → LenStays y → LenStays z →
    ◌≡◌ {A = Result (List ℕ) LenError}
    (if a then Err x else (if b then Err y else (if c then Err z else Ok m))) (Err e) → LenStays e
tests_stay true b c x y z e m first second third is = subst LenStays (err_same {A = List ℕ} _ _ is) first
tests_stay false true c x y z e m first second third is = subst LenStays (err_same {A = List ℕ} _ _ is) second
tests_stay false false true x y z e m first second third is = subst LenStays (err_same {A = List ℕ} _ _ is) third
tests_stay false false false x y z e m first second third is = cc

icmpv4_stays : (bytes : List ℕ) (e : LenError) → icmpv4_fault.message_at bytes ≡ Err e → LenStays e
icmpv4_stays bytes e is = tests_stay (nat_lt (length bytes) 8)
    (is_timestamp_request bytes && not (length bytes == 20))
    (is_timestamp_reply bytes && not (length bytes == 20)) (too_few_bytes layer.Icmpv4 8 (length bytes))
    (too_few_bytes layer.Icmpv4Timestamp 20 (length bytes))
    (too_few_bytes layer.Icmpv4TimestampReply 20 (length bytes)) e bytes refl refl refl is

tcp_stays : (bytes : List ℕ) (e : HeaderSliceError TcpFault) → segment_at bytes ≡ Err e → TcpStays e
tcp_stays bytes e is = grind arith

icmpv6_stays : (bytes : List ℕ) (e : LenError) → icmpv6_fault.message_at bytes ≡ Err e → LenStays e
icmpv6_stays bytes e is = grind arith

other_stays : (a b d : Bool) (bytes : List ℕ) (e : SliceError) →
    (if a then result_map_both (λ x. number.Icmpv4 x) (λ e. Len e) (icmpv4_fault.message_at bytes)
    else (if b then result_map_both (λ x. number.Tcp x) tcp_fault (segment_at bytes)
    else (if d then result_map_both (λ x. number.Icmpv6 x) (λ e. Len e)
    (icmpv6_fault.message_at bytes) else Ok (number.Raw bytes)))) ≡ Err e → Stays e
other_stays true b d bytes e is = read_stays _ _ (icmpv4_fault.message_at bytes) e (icmpv4_stays bytes) is
other_stays false true d bytes e is = read_stays _ _ (segment_at bytes) e (tcp_stays bytes) is
other_stays false false true bytes e is =
    read_stays _ _ (icmpv6_fault.message_at bytes) e (icmpv6_stays bytes) is
other_stays false false false bytes e is = cc

message_by : (u : Bool) (k : ℕ) (bytes : List ℕ) (e : SliceError) → (k == number.udp) ≡ u
    → lax_message_at k bytes ≡ Err e → Stays e
message_by true k bytes e here is =
    subst (λ (j : ℕ). lax_message_at j bytes ≡ Err e → Stays e) (sym (eqb-true k number.udp here))
    (λ at. read_stays _ _ (lax_udp_at bytes) e (udp_stays bytes) at) is
message_by false k bytes e not is =
    let strict : message_at k bytes ≡ Err e = sym (ap (λ (c : Bool). if c
    then result_map_both (λ m. number.Udp m) (λ e. Len e) (lax_udp_at bytes) else message_at k bytes) not) ∙ is in
    other_stays (k == number.icmpv4) (k == number.tcp) (k == number.icmpv6) bytes e
    (sym (ap (λ (c : Bool). rest_at c k bytes) not) ∙ strict)

message_stays : (k : ℕ) (bytes : List ℕ) (e : SliceError) → lax_message_at k bytes ≡ Err e → Stays e
message_stays k bytes e is = message_by (k == number.udp) k bytes e refl is

source_stays : (b : Bool) (outer own : LenSource) → is_udp_length outer ≡ false
    → (b || is_udp_length own) ≡ false → (b || is_udp_length (bounded_by outer own)) ≡ false
source_stays true outer own bounds stays = stays
source_stays false outer source.Slice bounds stays = bounds
source_stays false outer own bounds stays = stays

within_stays : (outer : LenSource) (e : SliceError) → is_udp_length outer ≡ false → Stays e
    → Stays (within outer e)
within_stays outer (Len e) bounds stays =
    source_stays (counts_payload e.layer) outer e.len_source bounds stays
within_stays outer e bounds stays = refl

in_payload : (cut : Bool) (outer : LenSource) (r : Result ReadMessage SliceError) (e : SliceError)
    → is_udp_length outer ≡ false → ((f : SliceError) → r ≡ Err f → Stays f)
    → (if cut then Ok None else result_within outer (read_transport r)) ≡ Err e → Stays e
in_payload true outer r e bounds each is = cc
in_payload false outer (Ok m) e bounds each is = cc
in_payload false outer (Err f) e bounds each is = subst Stays
    (err_same {A = Option TransportSlice} _ _ is) (within_stays outer f bounds (each f refl))

after_headers : (n : ℕ) (at : Layer) (r : Result (Option TransportSlice) SliceError)
    → ((e : SliceError) → r ≡ Err e → Stays e) → NoLengthStopped (message_or_stop n at r).1
after_headers n at (Ok m) each = tt
after_headers n at (Err e) each = passed_moved n e ∙ each e refl

transport_stays : (n : ℕ) (p : IpPayload) (stop : Option Stop) → is_udp_length p.len_source ≡ false
    → NoLengthStopped stop → NoLengthStopped (lax_transport_in n p stop).1
transport_stays n p (Some stop) bounds stays = stays
transport_stays n p None bounds stays = after_headers n (message_layer p.ip_number.0) (lax_message_in p)
    (λ e is. in_payload p.fragmented p.len_source (lax_message_at p.ip_number.0 p.payload) e bounds
    (message_stays p.ip_number.0 p.payload) is)

-- IPv4
ipv4_header_stays : (bytes : List ℕ) (e : HeaderSliceError Ipv4HeaderFault) → v4.header_at bytes ≡ Err e
    → Stays (of_ipv4_header e)
ipv4_header_stays bytes e is = grind arith

ipv4_source_by : (low cut : Bool) → is_udp_length (if low then source.Slice
    else (if cut then source.Slice else source.Ipv4HeaderTotalLen)) ≡ false
ipv4_source_by true cut = refl
ipv4_source_by false true = refl
ipv4_source_by false false = refl

ipv4_source : (bytes header : List ℕ) → is_udp_length (lax_ipv4_source bytes header) ≡ false
ipv4_source bytes header = ipv4_source_by (nat_lt (total_len_of header) (length header))
    (nat_lt (length bytes) (total_len_of header))

-- an authentication header in what this source bounds
abbrev AuthStays : LenSource → ℕ → HeaderSliceError AuthFault → Type 0
AuthStays outer n e = Stays (of_auth (fault_within outer n e))

auth_at_stays : (outer : LenSource) (n : ℕ) (body : List ℕ) (e : HeaderSliceError AuthFault)
    → is_udp_length outer ≡ false → auth_at body ≡ Err e → AuthStays outer n e
auth_at_stays outer n body e bounds is = grind arith

some_stays : (outer : LenSource) (n : ℕ) (body : List ℕ) (r : Result (List ℕ) (HeaderSliceError AuthFault))
    (e : HeaderSliceError AuthFault) → is_udp_length outer ≡ false → auth_at body ≡ r
    → result_map_both Some (λ e. e) r ≡ Err e → AuthStays outer n e
some_stays outer n body (Ok auth) e bounds read is = cc
some_stays outer n body (Err x) e bounds read is = subst (AuthStays outer n)
    (err_same {A = Option (List ℕ)} _ _ is) (auth_at_stays outer n body x bounds read)

auth_by : (named : Bool) (outer : LenSource) (n : ℕ) (body : List ℕ) (e : HeaderSliceError AuthFault)
    → is_udp_length outer ≡ false → (if named then result_map_both Some (λ e. e) (auth_at body) else Ok None) ≡ Err e
    → AuthStays outer n e
auth_by true outer n body e bounds is = some_stays outer n body (auth_at body) e bounds refl is
auth_by false outer n body e bounds is = cc

ipv4_with : (bytes header : List ℕ) (r : Result (Option (List ℕ)) (HeaderSliceError AuthFault))
    → auth_after (protocol_of header) (lax_ipv4_body bytes header) ≡ r
    → NoLengthStopped (lax_ipv4_layers (Ok (lax_ipv4_with bytes header r))).stop
ipv4_with bytes header (Ok auth) read =
    transport_stays (length header + length (auth_bytes auth)) (lax_ipv4_of bytes header auth).payload None
    (ipv4_source bytes header) tt
ipv4_with bytes header (Err e) read =
    auth_by (protocol_of header == 51) (lax_ipv4_source bytes header) (length header)
    (lax_ipv4_body bytes header) e (ipv4_source bytes header) read

ipv4_after : (bytes : List ℕ) (r : Result (List ℕ) (HeaderSliceError Ipv4HeaderFault))
    → v4.header_at bytes ≡ r → NoLengthStopped (lax_ipv4_layers (lax_ipv4_after bytes r)).stop
ipv4_after bytes (Err e) read = ipv4_header_stays bytes e read
ipv4_after bytes (Ok header) read = ipv4_with bytes header
    (auth_after (protocol_of header) (lax_ipv4_body bytes header)) refl

pub ipv4_stay : (bytes : List ℕ) → NoLengthStopped (lax_ipv4_layers (lax_ipv4_packet_at bytes)).stop
ipv4_stay bytes = ipv4_after bytes (v4.header_at bytes) refl

-- IPv6
ipv6_header_stays : (bytes : List ℕ) (e : HeaderSliceError Ipv6HeaderFault) → v6.header_at bytes ≡ Err e
    → Stays (of_ipv6_header e)
ipv6_header_stays bytes e is = grind arith

ipv6_source_by : (cut low : Bool) → is_udp_length (if cut then source.Slice
    else (if low then source.Slice else source.Ipv6HeaderPayloadLen)) ≡ false
ipv6_source_by true low = refl
ipv6_source_by false true = refl
ipv6_source_by false false = refl

ipv6_source : (bytes header : List ℕ) → is_udp_length (lax_ipv6_source bytes header) ≡ false
ipv6_source bytes header = ipv6_source_by
    (nat_lt (length bytes - 40) (body_len header (length bytes - 40)))
    ((payload_length_of header == 0) && nat_lt 0 (length bytes - 40))

-- an extension header after so many bytes of others
abbrev RowStays : LenSource → ℕ → HeaderSliceError ExtsFault → Type 0
RowStays outer n e = Stays (of_ipv6_exts (fault_within outer 40 (slice.offset_by e n)))

raw_stays : (outer : LenSource) (n : ℕ) (rest : List ℕ) (e : HeaderSliceError ExtsFault)
    → is_udp_length outer ≡ false → prefix_of slot.HopByHop rest ≡ Err e → RowStays outer n e
raw_stays outer n rest e bounds is = grind arith

prefix_stays : (s : Ipv6ExtSlot) (outer : LenSource) (n : ℕ) (rest : List ℕ) (e : HeaderSliceError ExtsFault)
    → is_udp_length outer ≡ false → prefix_of s rest ≡ Err e → RowStays outer n e
prefix_stays slot.HopByHop outer n rest e bounds is = raw_stays outer n rest e bounds is
prefix_stays slot.Destination outer n rest e bounds is = raw_stays outer n rest e bounds is
prefix_stays slot.Routing outer n rest e bounds is = raw_stays outer n rest e bounds is
prefix_stays slot.Fragment outer n rest e bounds is = grind arith
prefix_stays slot.Authentication outer n rest e bounds is = grind arith
prefix_stays slot.FinalDestination outer n rest e bounds is = raw_stays outer n rest e bounds is

slot_stays : (outer : LenSource) (n : ℕ) (at : Layer) (s : Ipv6ExtSlot) (rest : List ℕ)
    (r : Result (List ℕ) (HeaderSliceError ExtsFault)) → is_udp_length outer ≡ false → prefix_of s rest ≡ r
    → NoLengthStopped (option_map ipv6_exts_stop (option_map (row_fault_within outer)
    (option_map (λ (e : HeaderSliceError ExtsFault). (slice.offset_by e n, at)) (result_err r))))
slot_stays outer n at s rest (Ok header) bounds read = tt
slot_stays outer n at s rest (Err e) bounds read = prefix_stays s outer n rest e bounds read

first_stays : (first : Bool) (outer : LenSource) → NoLengthStopped (option_map ipv6_exts_stop
    (option_map (row_fault_within outer) (if first
    then Some (slice_error.Content HopByHopNotAtStart, layer.Ipv6HopByHopHeader) else None)))
first_stays true outer = refl
first_stays false outer = tt

row_stays : (outer : LenSource) (n : ℕ) (o : Option Ipv6ExtSlot) (last : ℕ) (rest : List ℕ)
    → is_udp_length outer ≡ false
    → NoLengthStopped (option_map ipv6_exts_stop (option_map (row_fault_within outer) (fault_at n o last rest)))
row_stays outer n None last rest bounds = first_stays (last == 0) outer
row_stays outer n (Some s) last rest bounds =
    slot_stays outer n (layer_of s) s rest (prefix_of s rest) bounds refl

ipv6_with : (bytes header : List ℕ) (pieces : List Piece)
    → NoLengthStopped (lax_ipv6_layers (Ok (lax_ipv6_with bytes header pieces))).stop
ipv6_with bytes header pieces =
    let packet : LaxIpv6Packet = lax_ipv6_of bytes header pieces in
    transport_stays (length header + length packet.exts.slice) packet.payload
    (option_map ipv6_exts_stop
    (option_map (row_fault_within (lax_ipv6_source bytes header)) (fault_after bytes header pieces)))
    (ipv6_source bytes header)
    (row_stays (lax_ipv6_source bytes header) (length (bytes_of pieces))
    (view_order (slots pieces) (number_after (next_header_of header) pieces))
    (number_after (next_header_of header) pieces) (rest_after bytes header pieces) (ipv6_source bytes header))

ipv6_after : (bytes : List ℕ) (r : Result (List ℕ) (HeaderSliceError Ipv6HeaderFault))
    → v6.header_at bytes ≡ r → NoLengthStopped (lax_ipv6_layers (lax_ipv6_after bytes r)).stop
ipv6_after bytes (Err e) read = ipv6_header_stays bytes e read
ipv6_after bytes (Ok header) read =
    ipv6_with bytes header (extensions_of (next_header_of header) (body_of bytes header))

pub ipv6_stay : (bytes : List ℕ) → NoLengthStopped (lax_ipv6_layers (lax_ipv6_packet_at bytes)).stop
ipv6_stay bytes = ipv6_after bytes (v6.header_at bytes) refl

-- ARP
arp_len_stays : (bytes : List ℕ) (e : LenError) → arp.packet_at bytes ≡ Err e → LenStays e
arp_len_stays bytes e is = grind arith

arp_by : (bytes : List ℕ) (r : Result (List ℕ) LenError) → arp.packet_at bytes ≡ r
    → NoLengthStopped (lax_arp_layers r).stop
arp_by bytes (Ok packet) read = tt
arp_by bytes (Err e) read = arp_len_stays bytes e read

arp_stays : (bytes : List ℕ) → NoLengthStopped (lax_arp_layers (arp.packet_at bytes)).stop
arp_stays bytes = arp_by bytes (arp.packet_at bytes) refl

layers_by : (four six a : Bool) (bytes : List ℕ)
    → NoLengthStopped (if four then lax_ipv4_layers (lax_ipv4_packet_at bytes)
    else (if six then lax_ipv6_layers (lax_ipv6_packet_at bytes)
    else (if a then lax_arp_layers (arp.packet_at bytes) else no_layers None))).stop
layers_by true six a bytes = ipv4_stay bytes
layers_by false true a bytes = ipv6_stay bytes
layers_by false false true bytes = arp_stays bytes
layers_by false false false bytes = tt

pub layers_stay : (o : Option LaxEtherPayload) → NoLengthStopped (lax_layers_in o).stop
layers_stay None = tt
layers_stay (Some p) = layers_by (p.ether_type.0 == ipv4_type) (p.ether_type.0 == ipv6_type)
    (p.ether_type.0 == arp_type) p.payload

-- packets
first_of_two : (a b : Option Stop) → NoLengthStopped a → NoLengthStopped b → NoLengthStopped (first_stop a b)
first_of_two None b left right = right
first_of_two (Some stop) b left right = left

pub after_stays : (n : ℕ) (header : LinkSlice) (p : EtherPayload)
    → NoLengthStopped (lax_packet_after n header p).stop_err
after_stays n header p =
    let t : LaxTagged = lax_tags_in most_tags (complete_ether p) in
    first_of_two (option_map (stop_by n) t.stop) (option_map (stop_by (n + t.len)) (lax_layers_in t.last).stop)
    (stays_moved n t.stop (tags_stay most_tags (complete_ether p)))
    (stays_moved (n + t.len) (lax_layers_in t.last).stop (layers_stay t.last))

-- a packet that is read, or refused for its first header
abbrev pub PacketStays : {E : Type 0} → (E → SliceError) → Result LaxSlicedPacket E → Type 0
PacketStays fault r = MatchResult r (λ packet. NoLengthStopped packet.stop_err) (λ e. Stays (fault e))

frame_stays : (short : Bool) (n : ℕ) (frame : List ℕ) → PacketStays (λ e. Len e)
    (in_lax_frame (if short then Err (too_few_bytes layer.Ethernet2Header ethernet_len n) else Ok frame))
frame_stays true n frame = refl
frame_stays false n frame =
    after_stays ethernet_len (link.Ethernet2 (without_fcs frame)) (payload_of frame)

pub ethernet_stays : (frame : List ℕ) → PacketStays (λ e. Len e) (lax_sliced_ethernet frame)
ethernet_stays frame = frame_stays (nat_lt (length frame) ethernet_len) (length frame) frame

named_stays : (bytes : List ℕ) (o : Option EtherPayload) → NoLengthStopped (in_lax_linux_sll bytes o).stop_err
named_stays bytes None = tt
named_stays bytes (Some p) = after_stays sll_len (link.LinuxSll bytes) p

sll_stays : (bytes : List ℕ) (e : HeaderSliceError SllFault) → sll_fault.whole_at bytes ≡ Err e
    → Stays (of_linux_sll e)
sll_stays bytes e is = grind arith

cooked_stays : (packet : List ℕ) (r : Result (List ℕ) (HeaderSliceError SllFault))
    → sll_fault.whole_at packet ≡ r → PacketStays of_linux_sll (in_lax_cooked r)
cooked_stays packet (Ok bytes) read = named_stays bytes (sll.named_payload (sll.payload_of bytes))
cooked_stays packet (Err e) read = sll_stays packet e read

pub linux_sll_stays : (bytes : List ℕ) → PacketStays of_linux_sll (lax_sliced_linux_sll bytes)
linux_sll_stays bytes = cooked_stays bytes (sll_fault.whole_at bytes) refl

pub ether_type_stays : (t : EtherType) (bytes : List ℕ) → NoLengthStopped (lax_sliced_ether_type t bytes).stop_err
ether_type_stays t bytes = after_stays 0 (link.EtherPayload (ether_payload t bytes)) (ether_payload t bytes)

-- an IP packet of each version stops as what an ether type names does
ipv4_refused : (e : HeaderSliceError Ipv4HeaderFault) → Stays (of_ipv4_header e)
    → Stays (of_ip_header (map_content ipv4_header_fault e))
ipv4_refused (slice_error.Len e) stays = stays
ipv4_refused (slice_error.Content e) stays = refl

ipv6_refused : (e : HeaderSliceError Ipv6HeaderFault) → Stays (of_ipv6_header e)
    → Stays (of_ip_header (map_content ipv6_header_fault e))
ipv6_refused (slice_error.Len e) stays = stays
ipv6_refused (slice_error.Content e) stays = refl

ipv4_version : (r : Result StoppedIpv4 (HeaderSliceError Ipv4HeaderFault))
    → NoLengthStopped (lax_ipv4_layers r).stop → PacketStays of_ip_header (in_lax_version (with_lax_ipv4 r))
ipv4_version (Err e) stays = ipv4_refused e stays
ipv4_version (Ok s) stays = subst (λ (o : Option Stop). NoLengthStopped (in_lax_ipv4 s.0 o).stop)
    (sym (auth_is s.1)) stays

ipv6_version : (r : Result StoppedIpv6 (HeaderSliceError Ipv6HeaderFault))
    → NoLengthStopped (lax_ipv6_layers r).stop → PacketStays of_ip_header (in_lax_version (with_lax_ipv6 r))
ipv6_version (Err e) stays = ipv6_refused e stays
ipv6_version (Ok s) stays = subst (λ (o : Option Stop). NoLengthStopped (in_lax_ipv6 s.0 o).stop)
    (sym (row_is s.1)) stays

version_by : (none four six : Bool) (bytes : List ℕ) (f : IpHeaderFault)
    → PacketStays of_ip_header (in_lax_version (if none then Err (slice_error.Len no_version)
    else (if four then with_lax_ipv4 (lax_ipv4_packet_at bytes)
    else (if six then with_lax_ipv6 (lax_ipv6_packet_at bytes) else Err (slice_error.Content f)))))
version_by true four six bytes f = refl
version_by false true six bytes f = ipv4_version (lax_ipv4_packet_at bytes) (ipv4_stay bytes)
version_by false false true bytes f = ipv6_version (lax_ipv6_packet_at bytes) (ipv6_stay bytes)
version_by false false false bytes f = refl

pub ip_stays : (bytes : List ℕ) → PacketStays of_ip_header (lax_sliced_ip bytes)
ip_stays bytes = version_by (length bytes == 0) (version_of bytes == 4) (version_of bytes == 6) bytes
    (UnsupportedIpVersion (version_of bytes))
