-- Packets as far as they are there, where more bytes are there.
use Rattle.std.proofs.Common.{◌≡◌, ◌∙◌, sym, ap, ap₂, refl, subst, ℕ, zero, suc, ◌+◌, ◌*◌, ◌≤◌, ◌<◌, ◌==◌, ◌&&◌, ◌||◌, not, Bool, true, false}
use Rattle.std.proofs.Common.{List, [], ◌∷◌, ◌++◌, length, take, drop, get_or, Option, Some, None, Result, Ok, Err, IsOkAnd}
use Rattle.std.proofs.Common.{arith, length-append}
use Rattle.std.specs.Prelude.{if◌then◌else◌, nat_lt, ⊤}
use Rattle.std.specs.Option.{option_map}
use Rattle.std.proofs.lemmas.Bool.Decides.{nat_tests}
use Rattle.std.proofs.lemmas.List.{drop-append-le, get_or_append_left, take-append-le}
use Rattle.std.specs.Result.{result_map_both}
use Rattle.ep_base.specs.LenError.{too_few_bytes}
use Rattle.ep_base.specs.declared.err.layer.Layer.{Layer}
use Rattle.ep_base.specs.declared.err.layer.Layer.TheVariants.{Ethernet2Header, Icmpv4, Icmpv4Timestamp, Icmpv4TimestampReply}
use Rattle.ep_base.specs.declared.err.layer.Layer.TheVariants.{TcpHeader, VlanHeader}
use Rattle.ep_base.specs.declared.err.len_error.LenError.{LenError}
use Rattle.ep_base.specs.declared.err.slice_error.SliceError.{SliceError as HeaderSliceError}
use Rattle.ep_base.specs.declared.err.slice_error.SliceError.TheVariants.{Len, Content}
use Rattle.ep_base.specs.declared.len_source.LenSource.{LenSource}
use Rattle.ep_base.specs.declared.link.ether_type.EtherType.{EtherType}
use Rattle.ep_base.specs.declared.len_source.LenSource.TheVariants.{Slice}
use Rattle.ep_ext.specs.Chain.{Fault}
use Rattle.ep_ext.specs.Ipv4Exts.{auth_bytes}
use Rattle.ep_ext.specs.declared.err.ip_auth.header_error.HeaderError.{HeaderError as AuthFault}
use Rattle.ep_icmp.specs.Icmpv4.{is_timestamp, is_timestamp_reply, is_timestamp_request}
use Rattle.ep_icmp.specs.Icmpv4Fault as icmpv4_fault
use Rattle.ep_icmp.specs.Icmpv6Fault as icmpv6_fault
use Rattle.ep_ip.specs.Ipv4.{version_of}
use Rattle.ep_ip.specs.declared.err.ipv4.header_error.HeaderError.{HeaderError as Ipv4HeaderFault}
use Rattle.ep_ip.specs.declared.err.ipv6.header_error.HeaderError.{HeaderError as Ipv6HeaderFault}
use Rattle.ep_ipslice.specs.IpSlice.{ip_packet_at, with_ipv4, with_ipv6}
use Rattle.ep_ipslice.specs.Ipv4Packet.{ipv4_packet_at}
use Rattle.ep_ipslice.specs.Ipv6Packet.{ipv6_packet_at}
use Rattle.ep_ipslice.specs.LaxIp as lax_ip
use Rattle.ep_ipslice.specs.LaxIp.{lax_ip_packet_at, with_lax_ipv4, with_lax_ipv6}
use Rattle.ep_ipslice.specs.LaxPackets.{LaxIpv4Packet, LaxIpv6Packet, StoppedIpv4, StoppedIpv6}
use Rattle.ep_ipslice.specs.LaxPackets.{lax_ipv4_packet_at, lax_ipv6_packet_at}
use Rattle.ep_ipslice.specs.MoreBytes.{IsPayloadContinued, KeepsIpv4, KeepsIpv6}
use Rattle.ep_ipslice.specs.Packet.{IpPayload}
use Rattle.ep_ipslice.specs.declared.err.ip.header_error.HeaderError.{HeaderError as IpHeaderFault}
use Rattle.ep_link.specs.Arp.{packet_at, packet_len_of}
use Rattle.ep_link.specs.Ethernet as ethernet
use Rattle.ep_link.specs.Ethernet.{ethernet_len}
use Rattle.ep_link.specs.Frame.{without_fcs}
use Rattle.ep_link.specs.Sll.{packet_type_of, sll_len}
use Rattle.ep_link.specs.SllFault as sll_fault
use Rattle.ep_link.specs.SllPayload as sll
use Rattle.ep_link.specs.declared.err.linux_sll.header_error.HeaderError.{HeaderError as SllFault}
use Rattle.ep_link.specs.declared.link.link_slice.LinkSlice.{LinkSlice}
use Rattle.ep_link.specs.declared.link.link_slice.LinkSlice.TheVariants as link
use Rattle.ep_link.specs.declared.link.linux_sll_protocol_type.LinuxSllProtocolType.{LinuxSllProtocolType}
use Rattle.ep_link.specs.declared.link.linux_sll_protocol_type.LinuxSllProtocolType.TheVariants as protocol
use Rattle.ep_packet.specs.KeptLayers.{KeepsLayers, KeepsLink, KeepsNet, KeepsTags, KeepsTransport}
use Rattle.ep_packet.specs.LaxSliced.{LaxLayers, auth_stop, in_lax_ipv4, in_lax_ipv6, ipv6_exts_stop, lax_arp_layers}
use Rattle.ep_packet.specs.LaxSliced.{lax_ipv4_layers, lax_ipv6_layers, lax_layers_in, lax_message_at}
use Rattle.ep_packet.specs.LaxSliced.{in_lax_cooked, in_lax_frame, in_lax_linux_sll, lax_packet_after, lax_sliced_ether_type}
use Rattle.ep_packet.specs.LaxSliced.{lax_sliced_ethernet, lax_sliced_linux_sll, lax_transport_in, message_layer}
use Rattle.ep_packet.specs.LaxSliced.{exts_stop, in_lax_version, lax_packet_of, lax_sliced_ip, message_or_stop, no_layers}
use Rattle.ep_packet.specs.LaxTags.{LaxTagged, Stop, lax_tag_at, lax_tags_in}
use Rattle.ep_packet.specs.Readable as number
use Rattle.ep_packet.specs.Readable.{ReadMessage, tcp_fault}
use Rattle.ep_packet.specs.Sliced.{arp_type, ether_payload, ipv4_type, ipv6_type, read_transport, result_within, transport_of}
use Rattle.ep_packet.specs.Tags.{is_macsec_type, most_tags}
use Rattle.ep_packet.specs.declared.err.packet.slice_error.SliceError.{SliceError}
use Rattle.ep_packet.specs.declared.err.packet.slice_error.SliceError.TheVariants as fault
use Rattle.ep_packet.specs.declared.lax_sliced_packet.LaxSlicedPacket.{LaxSlicedPacket}
use Rattle.ep_packet.specs.declared.net.lax_net_slice.LaxNetSlice.{LaxNetSlice}
use Rattle.ep_packet.specs.declared.transport.transport_slice.TransportSlice.{TransportSlice}
use Rattle.ep_packet.proofs.CutPackets.{arp_is, arp_taken, cooked_is, cooked_taken}
use Rattle.ep_packet.proofs.LaxCutLemmas.{icmpv4_taken, passes, tcp_taken}
use Rattle.ep_packet.proofs.LaxTagsLemmas.{lax_from_tag, lax_macsec_tag, lax_read_further, lax_tags_turn, lax_vlan_tag}
use Rattle.ep_tag.specs.Ether.{EtherPayload, LaxEtherPayload, complete_ether}
use Rattle.ep_tag.specs.LinkExt.{lax_payload_after}
use Rattle.ep_tag.specs.MacsecLax.{LaxMacsec, LaxMacsecPayload, LaxModified, LaxUnmodified, lax_macsec_at}
use Rattle.ep_tag.specs.MacsecLax.{lax_named_payload}
use Rattle.ep_tag.specs.MoreTags as tag_payload
use Rattle.ep_base.proofs.FirstBytes.{take_continued}
use Rattle.ep_base.specs.Bytes.{IsContinued}
use Rattle.ep_tag.specs.MoreTags.{KeepsMacsec, KeepsTag}
use Rattle.ep_tag.specs.Prefix.{whole_at}
use Rattle.ep_tag.specs.Vlan as vlan
use Rattle.ep_tag.specs.Vlan.{is_vlan_type, vlan_len}
use Rattle.ep_tag.specs.declared.err.macsec.header_error.HeaderError.{HeaderError as MacsecFault}
use Rattle.ep_tag.specs.declared.link.lax_link_ext_slice.LaxLinkExtSlice.{LaxLinkExtSlice}
use Rattle.ep_tag.specs.declared.link.lax_link_ext_slice.LaxLinkExtSlice.TheVariants as tag
use Rattle.ep_tcpudp.specs.Tcp.{data_offset_of}
use Rattle.ep_tcpudp.specs.TcpFault.{segment_at}
use Rattle.ep_tcpudp.specs.Udp.{lax_summed_udp, length_of}
use Rattle.ep_tcpudp.specs.UdpFault.{lax_udp_at, udp_at}
use Rattle.ep_tcpudp.specs.declared.err.tcp.header_error.HeaderError.{HeaderError as TcpFault}
use Rattle.ep_tcpudp.specs.declared.err.tcp.header_error.HeaderError.TheVariants.{DataOffsetTooSmall}

-- the laws of the layers, as they are called
pub record MoreParts : Type 0 where
  pub macsec : (bytes more : List ℕ) (before : LaxMacsec) → lax_macsec_at bytes ≡ Ok before
      → IsOkAnd (lax_macsec_at (bytes ++ more)) (λ after. KeepsMacsec before after)
  pub ipv4 : (bytes more : List ℕ) (before : StoppedIpv4) → lax_ipv4_packet_at bytes ≡ Ok before
      → IsOkAnd (lax_ipv4_packet_at (bytes ++ more)) (λ after. KeepsIpv4 before after)
  pub ipv6 : (bytes more : List ℕ) (before : StoppedIpv6) → lax_ipv6_packet_at bytes ≡ Ok before
      → IsOkAnd (lax_ipv6_packet_at (bytes ++ more)) (λ after. KeepsIpv6 before after)
  pub four : (bytes : List ℕ) → version_of bytes ≡ 4
      → (ip_packet_at bytes ≡ with_ipv4 (ipv4_packet_at bytes))
      × (lax_ip_packet_at bytes ≡ with_lax_ipv4 (lax_ipv4_packet_at bytes))
  pub six : (bytes : List ℕ) → version_of bytes ≡ 6
      → (ip_packet_at bytes ≡ with_ipv6 (ipv6_packet_at bytes))
      × (lax_ip_packet_at bytes ≡ with_lax_ipv6 (lax_ipv6_packet_at bytes))

-- what is found where more bytes are there
ok_in : {A E : Type 0} (P : A → Type 0) (r : Result A E) → IsOkAnd r P → (x : A) × (r ≡ Ok x) × P x
ok_in P (Ok x) holds = (x, refl, holds)
ok_in P (Err e) holds = absurd holds

same_byte : (bytes more : List ℕ) (i : ℕ) → i < length bytes → get_or (bytes ++ more) i 0 ≡ get_or bytes i 0
same_byte bytes more i lt = get_or_append_left bytes more 0 i lt

-- messages
abbrev ReadKept : ReadMessage → Result ReadMessage SliceError → Type 0
ReadKept (number.Icmpv4 m) r = is_timestamp m ≡ false
    → (all : List ℕ) × (r ≡ Ok (number.Icmpv4 all)) × IsContinued m all
ReadKept (number.Tcp m) r = (all : List ℕ) × (r ≡ Ok (number.Tcp all)) × IsContinued m all
ReadKept (number.Udp m) r = (all : List ℕ) × (r ≡ Ok (number.Udp all)) × IsContinued m all
ReadKept (number.Icmpv6 m) r = (all : List ℕ) × (r ≡ Ok (number.Icmpv6 all)) × IsContinued m all
ReadKept (number.Raw m) r = ⊤

tcp_more : (bytes more m : List ℕ) → segment_at bytes ≡ Ok m
    → (m ≡ bytes) × (segment_at (bytes ++ more) ≡ Ok (bytes ++ more))
tcp_more bytes more m is =
    let tests = tcp_taken bytes m is in
    let size = length-append bytes more in
    let least : 20 ≤ length bytes = grind (arith, nat_tests) in
    let offset : data_offset_of (bytes ++ more) ≡ data_offset_of bytes =
    grind (arith, same_byte bytes more 12 (omega (arith, least))) in (
      tests.3,
      passes (nat_lt (length (bytes ++ more)) 20) (nat_lt (data_offset_of (bytes ++ more)) 5)
          (nat_lt (length (bytes ++ more)) (4 * data_offset_of (bytes ++ more)))
          (Len (too_few_bytes TcpHeader 20 (length (bytes ++ more))))
          (Content (DataOffsetTooSmall (data_offset_of (bytes ++ more))))
          (Len (too_few_bytes TcpHeader (4 * data_offset_of (bytes ++ more)) (length (bytes ++ more))))
          (bytes ++ more) (grind (arith, nat_tests)) (grind (arith, nat_tests)) (grind (arith, nat_tests)),
    )

no_timestamp : (q r : Bool) → (q || r) ≡ false → (q ≡ false) × (r ≡ false)
no_timestamp q r neither = grind arith

icmpv4_more : (bytes more m : List ℕ) → icmpv4_fault.message_at bytes ≡ Ok m → is_timestamp m ≡ false
    → (m ≡ bytes) × (icmpv4_fault.message_at (bytes ++ more) ≡ Ok (bytes ++ more))
icmpv4_more bytes more m is other =
    let tests = icmpv4_taken bytes m is in
    let size = length-append bytes more in
    let least : 8 ≤ length bytes = grind (arith, nat_tests) in
    let kind = same_byte bytes more 0 (omega (arith, least)) in
    let code = same_byte bytes more 1 (omega (arith, least)) in
    let none : is_timestamp bytes ≡ false = rw tests.3 at other in
    let neither = no_timestamp (is_timestamp_request bytes) (is_timestamp_reply bytes) none in
    let request : is_timestamp_request (bytes ++ more) ≡ is_timestamp_request bytes = grind (arith, kind, code) in
    let reply : is_timestamp_reply (bytes ++ more) ≡ is_timestamp_reply bytes = grind (arith, kind, code) in (
      tests.3,
      passes (nat_lt (length (bytes ++ more)) 8)
          (is_timestamp_request (bytes ++ more) && not (length (bytes ++ more) == 20))
          (is_timestamp_reply (bytes ++ more) && not (length (bytes ++ more) == 20))
          (too_few_bytes Icmpv4 8 (length (bytes ++ more)))
          (too_few_bytes Icmpv4Timestamp 20 (length (bytes ++ more)))
          (too_few_bytes Icmpv4TimestampReply 20 (length (bytes ++ more))) (bytes ++ more)
          (grind (arith, nat_tests)) (rw (request, neither.0) refl) (rw (reply, neither.1) refl),
    )

icmpv6_more : (bytes more m : List ℕ) → icmpv6_fault.message_at bytes ≡ Ok m
    → (m ≡ bytes) × (icmpv6_fault.message_at (bytes ++ more) ≡ Ok (bytes ++ more))
icmpv6_more bytes more m is =
    let size = length-append bytes more in (grind (arith, nat_tests), grind (arith, nat_tests))

summed_more : (small : Bool) (stated : ℕ) (bytes more : List ℕ) → nat_lt stated 8 ≡ small →
    IsContinued (if nat_lt stated 8 then bytes else take stated bytes)
    (if nat_lt stated 8 then bytes ++ more else take stated (bytes ++ more))
summed_more true stated bytes more small = rw small (more, refl)
summed_more false stated bytes more large = rw large (take_continued stated bytes more)

udp_more : (bytes more m : List ℕ) → lax_udp_at bytes ≡ Ok m
    → (all : List ℕ) × (lax_udp_at (bytes ++ more) ≡ Ok all) × IsContinued m all
udp_more bytes more m is =
    let least : 8 ≤ length bytes = grind (arith, nat_tests) in
    let taken : lax_summed_udp bytes ≡ m = grind (arith, nat_tests) in
    let size = length-append bytes more in
    let whole : nat_lt (length (bytes ++ more)) 8 ≡ false = grind (arith, nat_tests) in
    let stated : length_of (bytes ++ more) ≡ length_of bytes = grind (
      arith,
      same_byte bytes more 4 (omega (arith, least)),
      same_byte bytes more 5 (omega (arith, least)),
    ) in
    let kept : IsContinued (lax_summed_udp bytes) (lax_summed_udp (bytes ++ more)) =
    rw stated (summed_more (nat_lt (length_of bytes) 8) (length_of bytes) bytes more refl) in
    (lax_summed_udp (bytes ++ more), rw whole refl, rw taken at kept)

-- the bytes as a message of each protocol
abbrev icmpv4_at : List ℕ → Result ReadMessage SliceError
icmpv4_at bytes = result_map_both (λ m. number.Icmpv4 m) (λ e. fault.Len e) (icmpv4_fault.message_at bytes)

abbrev tcp_at : List ℕ → Result ReadMessage SliceError
tcp_at bytes = result_map_both (λ m. number.Tcp m) tcp_fault (segment_at bytes)

abbrev lax_datagram_at : List ℕ → Result ReadMessage SliceError
lax_datagram_at bytes = result_map_both (λ m. number.Udp m) (λ e. fault.Len e) (lax_udp_at bytes)

abbrev icmpv6_at : List ℕ → Result ReadMessage SliceError
icmpv6_at bytes = result_map_both (λ m. number.Icmpv6 m) (λ e. fault.Len e) (icmpv6_fault.message_at bytes)

ok_is : (x y : ReadMessage) → ◌≡◌ {A = Result ReadMessage SliceError} (Ok x) (Ok y) → x ≡ y
ok_is x y is = cc

icmpv4_read : (bytes more : List ℕ) (r : Result (List ℕ) LenError) (m : ReadMessage)
    → icmpv4_fault.message_at bytes ≡ r → result_map_both (λ x. number.Icmpv4 x) (λ e. fault.Len e) r ≡ Ok m
    → ReadKept m (icmpv4_at (bytes ++ more))
icmpv4_read bytes more (Err e) m at is = cc
icmpv4_read bytes more (Ok x) m at is =
    subst (λ (k : ReadMessage). ReadKept k (icmpv4_at (bytes ++ more))) (ok_is (number.Icmpv4 x) m is)
    (λ other. let found = icmpv4_more bytes more x at other in
    (bytes ++ more, rw found.1 refl, (more, ap (λ (xs : List ℕ). xs ++ more) (sym found.0))))

tcp_read : (bytes more : List ℕ) (r : Result (List ℕ) (HeaderSliceError TcpFault)) (m : ReadMessage)
    → segment_at bytes ≡ r → result_map_both (λ x. number.Tcp x) tcp_fault r ≡ Ok m
    → ReadKept m (tcp_at (bytes ++ more))
tcp_read bytes more (Err e) m at is = cc
tcp_read bytes more (Ok x) m at is =
    subst (λ (k : ReadMessage). ReadKept k (tcp_at (bytes ++ more))) (ok_is (number.Tcp x) m is)
    (let found = tcp_more bytes more x at in
    (bytes ++ more, rw found.1 refl, (more, ap (λ (xs : List ℕ). xs ++ more) (sym found.0))))

udp_read : (bytes more : List ℕ) (r : Result (List ℕ) LenError) (m : ReadMessage)
    → lax_udp_at bytes ≡ r → result_map_both (λ x. number.Udp x) (λ e. fault.Len e) r ≡ Ok m
    → ReadKept m (lax_datagram_at (bytes ++ more))
udp_read bytes more (Err e) m at is = cc
udp_read bytes more (Ok x) m at is =
    subst (λ (k : ReadMessage). ReadKept k (lax_datagram_at (bytes ++ more))) (ok_is (number.Udp x) m is)
    (let found = udp_more bytes more x at in (found.0, rw found.1 refl, found.2))

icmpv6_read : (bytes more : List ℕ) (r : Result (List ℕ) LenError) (m : ReadMessage)
    → icmpv6_fault.message_at bytes ≡ r → result_map_both (λ x. number.Icmpv6 x) (λ e. fault.Len e) r ≡ Ok m
    → ReadKept m (icmpv6_at (bytes ++ more))
icmpv6_read bytes more (Err e) m at is = cc
icmpv6_read bytes more (Ok x) m at is =
    subst (λ (k : ReadMessage). ReadKept k (icmpv6_at (bytes ++ more))) (ok_is (number.Icmpv6 x) m is)
    (let found = icmpv6_more bytes more x at in
    (bytes ++ more, rw found.1 refl, (more, ap (λ (xs : List ℕ). xs ++ more) (sym found.0))))

-- by which protocol the bytes are read
abbrev read_by : (u a b d : Bool) → List ℕ → Result ReadMessage SliceError
read_by u a b d bytes =
    if u then lax_datagram_at bytes
    else (if a then icmpv4_at bytes
    else (if b then tcp_at bytes
    else (if u then result_map_both (λ m. number.Udp m) (λ e. fault.Len e) (udp_at bytes)
    else (if d then icmpv6_at bytes else Ok (number.Raw bytes)))))

read_case : (u a b d : Bool) (bytes more : List ℕ) (m : ReadMessage) → read_by u a b d bytes ≡ Ok m
    → ReadKept m (read_by u a b d (bytes ++ more))
read_case true a b d bytes more m is = udp_read bytes more (lax_udp_at bytes) m refl is
read_case false true b d bytes more m is = icmpv4_read bytes more (icmpv4_fault.message_at bytes) m refl is
read_case false false true d bytes more m is = tcp_read bytes more (segment_at bytes) m refl is
read_case false false false true bytes more m is =
    icmpv6_read bytes more (icmpv6_fault.message_at bytes) m refl is
read_case false false false false bytes more m is =
    subst (λ (k : ReadMessage). ReadKept k (Ok (number.Raw (bytes ++ more)))) (ok_is (number.Raw bytes) m is) tt

message_more : (k : ℕ) (bytes more : List ℕ) (m : ReadMessage) → lax_message_at k bytes ≡ Ok m
    → ReadKept m (lax_message_at k (bytes ++ more))
message_more k bytes more m is = read_case (k == number.udp) (k == number.icmpv4) (k == number.tcp)
    (k == number.icmpv6) bytes more m is

-- the transport layer
abbrev TransportKept : Option TransportSlice → Option TransportSlice → Type 0
TransportKept None after = ⊤
TransportKept (Some m) after = KeepsTransport m after

transport_kept : (n : ℕ) (at : Layer) (source : LenSource) (m : ReadMessage)
    (r : Result ReadMessage SliceError) → ReadKept m r
    → TransportKept (transport_of m) (message_or_stop n at (result_within source (read_transport r))).0
transport_kept n at source (number.Icmpv4 m) r kept = λ other. let found = kept other in
    (found.0, rw found.1 refl, found.2)
transport_kept n at source (number.Tcp m) r kept = (kept.0, rw kept.1 refl, kept.2)
transport_kept n at source (number.Udp m) r kept = (kept.0, rw kept.1 refl, kept.2)
transport_kept n at source (number.Icmpv6 m) r kept = (kept.0, rw kept.1 refl, kept.2)
transport_kept n at source (number.Raw m) r kept = tt

read_more : (n n' : ℕ) (at at' : Layer) (source source' : LenSource) (k : ℕ) (bytes more : List ℕ)
    (r : Result ReadMessage SliceError) → lax_message_at k bytes ≡ r →
    TransportKept (message_or_stop n at (result_within source (read_transport r))).0
    (message_or_stop n' at' (result_within source' (read_transport (lax_message_at k (bytes ++ more))))).0
read_more n n' at at' source source' k bytes more (Ok m) is =
    transport_kept n' at' source' m (lax_message_at k (bytes ++ more)) (message_more k bytes more m is)
read_more n n' at at' source source' k bytes more (Err e) is = tt

transport_case : (fragmented : Bool) (n n' : ℕ) (p q : IpPayload) → p.fragmented ≡ fragmented
    → IsPayloadContinued p q
    → TransportKept (lax_transport_in n p None).0 (lax_transport_in n' q None).0
transport_case true n n' p q fragment kept = rw fragment tt
transport_case false n n' p q whole kept =
    let here : q.fragmented ≡ false = kept.fragmented ∙ whole in
    let read : lax_message_at q.ip_number.0 q.payload
    ≡ lax_message_at p.ip_number.0 (p.payload ++ kept.bytes.0) =
    λ i. lax_message_at (kept.number i).0 (kept.bytes.1 i) in
    rw (whole, here, read)
    (read_more n n' (message_layer p.ip_number.0) (message_layer q.ip_number.0) p.len_source q.len_source
    p.ip_number.0 p.payload kept.bytes.0 (lax_message_at p.ip_number.0 p.payload) refl)

transport_more : (n n' : ℕ) (p q : IpPayload) → IsPayloadContinued p q
    → TransportKept (lax_transport_in n p None).0 (lax_transport_in n' q None).0
transport_more n n' p q kept = transport_case p.fragmented n n' p q refl kept

-- the network layer and the transport layer
abbrev NetKept : Option LaxNetSlice → Option LaxNetSlice → Type 0
NetKept None after = ⊤
NetKept (Some packet) after = KeepsNet packet after

record AreKept (before after : LaxLayers) : Type 0 where
  net : NetKept before.net after.net
  transport : TransportKept before.transport after.transport

nothing : (stop : Option Stop) (after : LaxLayers) → AreKept (no_layers stop) after
nothing stop after = record { net = tt; transport = tt }

-- how faults of extension headers are those of all layers
record IsStops {E : Type 0} (stops : Option E → Option Stop) : Type 0 where
  none : stops None ≡ None
  some : (e : E) → (stop : Stop) × (stops (Some e) ≡ Some stop)

v4_transport : (stops : Option (HeaderSliceError AuthFault) → Option Stop) → IsStops stops
    → (n n' : ℕ) (packet : LaxIpv4Packet) (stop : Option (HeaderSliceError AuthFault))
    (after : StoppedIpv4) → KeepsIpv4 (packet, stop) after →
    TransportKept (lax_transport_in n packet.payload (stops stop)).0
    (lax_transport_in n' after.0.payload (stops after.1)).0
v4_transport stops are n n' packet (Some e) after kept = rw (are.some e).1 tt
v4_transport stops are n n' packet None after kept =
    let going_on : stops after.1 ≡ None = ap stops (kept.going_on refl) ∙ are.none in
    rw (are.none, going_on) (transport_more n n' packet.payload after.0.payload (kept.payload refl))

v4_layers : (stops : Option (HeaderSliceError AuthFault) → Option Stop) → IsStops stops
    → (before after : StoppedIpv4) → KeepsIpv4 before after
    → AreKept (in_lax_ipv4 before.0 (stops before.1)) (in_lax_ipv4 after.0 (stops after.1))
v4_layers stops are before after kept = record {
  net = (
    after.0,
    refl,
    record {
      header = kept.header;
      auth = kept.found;
      whole = λ counted. ap (λ (s : StoppedIpv4). s.0) (kept.whole counted);
    },
  );
  transport = v4_transport stops are (length before.0.header + length (auth_bytes before.0.auth))
      (length after.0.header + length (auth_bytes after.0.auth)) before.0 before.1 after kept;
}

v4_more : MoreParts → (bytes more : List ℕ) (r : Result StoppedIpv4 (HeaderSliceError Ipv4HeaderFault))
    → lax_ipv4_packet_at bytes ≡ r
    → AreKept (lax_ipv4_layers r) (lax_ipv4_layers (lax_ipv4_packet_at (bytes ++ more)))
v4_more law bytes more (Ok before) at =
    let found = ok_in (λ (after : StoppedIpv4). KeepsIpv4 before after)
    (lax_ipv4_packet_at (bytes ++ more)) (law.ipv4 bytes more before at) in
    rw found.1 (v4_layers (option_map auth_stop) (record { none = refl; some = λ e. (auth_stop e, refl) })
    before found.0 found.2)
v4_more law bytes more (Err e) at = nothing _ _

v6_transport : (stops : Option Fault → Option Stop) → IsStops stops → (n n' : ℕ) (packet : LaxIpv6Packet)
    (stop : Option Fault) (after : StoppedIpv6) → KeepsIpv6 (packet, stop) after →
    TransportKept (lax_transport_in n packet.payload (stops stop)).0
    (lax_transport_in n' after.0.payload (stops after.1)).0
v6_transport stops are n n' packet (Some e) after kept = rw (are.some e).1 tt
v6_transport stops are n n' packet None after kept =
    let going_on : stops after.1 ≡ None = ap stops (kept.going_on refl) ∙ are.none in
    rw (are.none, going_on) (transport_more n n' packet.payload after.0.payload (kept.payload refl))

v6_layers : (stops : Option Fault → Option Stop) → IsStops stops → (before after : StoppedIpv6)
    → KeepsIpv6 before after
    → AreKept (in_lax_ipv6 before.0 (stops before.1)) (in_lax_ipv6 after.0 (stops after.1))
v6_layers stops are before after kept = record {
  net = (
    after.0,
    refl,
    record {
      header = kept.header;
      exts = kept.found;
      whole = λ counted some. ap (λ (s : StoppedIpv6). s.0) (kept.whole counted some);
    },
  );
  transport = v6_transport stops are (length before.0.header + length before.0.exts.slice)
      (length after.0.header + length after.0.exts.slice) before.0 before.1 after kept;
}

v6_more : MoreParts → (bytes more : List ℕ) (r : Result StoppedIpv6 (HeaderSliceError Ipv6HeaderFault))
    → lax_ipv6_packet_at bytes ≡ r
    → AreKept (lax_ipv6_layers r) (lax_ipv6_layers (lax_ipv6_packet_at (bytes ++ more)))
v6_more law bytes more (Ok before) at =
    let found = ok_in (λ (after : StoppedIpv6). KeepsIpv6 before after)
    (lax_ipv6_packet_at (bytes ++ more)) (law.ipv6 bytes more before at) in
    rw found.1 (v6_layers (option_map ipv6_exts_stop)
    (record { none = refl; some = λ e. (ipv6_exts_stop e, refl) }) before found.0 found.2)
v6_more law bytes more (Err e) at = nothing _ _

arp_found : (bytes more packet : List ℕ) → packet_at bytes ≡ Ok packet → packet_at (bytes ++ more) ≡ Ok packet
arp_found bytes more packet at =
    let taken = arp_taken bytes packet at in
    let four = same_byte bytes more 4 (omega (arith, taken.0)) in
    let five = same_byte bytes more 5 (omega (arith, taken.0)) in
    let same : packet_len_of (bytes ++ more) ≡ packet_len_of bytes = rw (four, five) refl in
    let size = length-append bytes more in
    arp_is (bytes ++ more) (omega (arith, size, taken.0)) (omega (arith, size, same, taken.1))
    ∙ ap (λ (xs : List ℕ). Ok xs) (ap (λ (n : ℕ). take n (bytes ++ more)) same
    ∙ take-append-le (packet_len_of bytes) bytes more taken.1 ∙ taken.2)

arp_more : (bytes more : List ℕ) (r : Result (List ℕ) LenError) → packet_at bytes ≡ r
    → AreKept (lax_arp_layers r) (lax_arp_layers (packet_at (bytes ++ more)))
arp_more bytes more (Ok packet) at =
    rw (arp_found bytes more packet at) (record { net = refl; transport = tt })
arp_more bytes more (Err e) at = nothing _ _

layers_case : MoreParts → (four six arp : Bool) (bytes more : List ℕ) →
    AreKept (if four then lax_ipv4_layers (lax_ipv4_packet_at bytes)
    else (if six then lax_ipv6_layers (lax_ipv6_packet_at bytes)
    else (if arp then lax_arp_layers (packet_at bytes) else no_layers None)))
    (if four then lax_ipv4_layers (lax_ipv4_packet_at (bytes ++ more))
    else (if six then lax_ipv6_layers (lax_ipv6_packet_at (bytes ++ more))
    else (if arp then lax_arp_layers (packet_at (bytes ++ more)) else no_layers None)))
layers_case law true six arp bytes more = v4_more law bytes more (lax_ipv4_packet_at bytes) refl
layers_case law false true arp bytes more = v6_more law bytes more (lax_ipv6_packet_at bytes) refl
layers_case law false false true bytes more = arp_more bytes more (packet_at bytes) refl
layers_case law false false false bytes more = nothing _ _

-- what an ether type names, of which more may be there
abbrev Continued : LaxEtherPayload → LaxEtherPayload → Type 0
Continued p q = (q.ether_type ≡ p.ether_type) × IsContinued p.payload q.payload

abbrev NextKept : Option LaxEtherPayload → Option LaxEtherPayload → Type 0
NextKept None after = ⊤
NextKept (Some p) after = (q : LaxEtherPayload) × (after ≡ Some q) × Continued p q

abbrev layers_by : EtherType → List ℕ → LaxLayers
layers_by t bytes =
    if t.0 == ipv4_type then lax_ipv4_layers (lax_ipv4_packet_at bytes)
    else (if t.0 == ipv6_type then lax_ipv6_layers (lax_ipv6_packet_at bytes)
    else (if t.0 == arp_type then lax_arp_layers (packet_at bytes) else no_layers None))

layers_more : MoreParts → (before after : Option LaxEtherPayload) → NextKept before after
    → AreKept (lax_layers_in before) (lax_layers_in after)
layers_more law None after kept = nothing _ _
layers_more law (Some p) after kept =
    let q = kept.0 in
    let same : lax_layers_in after ≡ layers_by p.ether_type (p.payload ++ kept.2.1.0) =
    ap lax_layers_in kept.1 ∙ ap₂ layers_by kept.2.0 kept.2.1.1 in
    rw same (layers_case law (p.ether_type.0 == ipv4_type) (p.ether_type.0 == ipv6_type)
    (p.ether_type.0 == arp_type) p.payload kept.2.1.0)

-- tags
abbrev TagKept : Option LaxLinkExtSlice → Result (Option LaxLinkExtSlice) Stop → Type 0
TagKept None after = after ≡ Ok None
TagKept (Some t) after = (u : LaxLinkExtSlice) × (after ≡ Ok (Some u)) × KeepsTag t u
    × NextKept (lax_payload_after t) (lax_payload_after u)

vlan_next : (bytes more : List ℕ) → 4 ≤ length bytes
    → NextKept (lax_payload_after (tag.Vlan bytes)) (lax_payload_after (tag.Vlan (bytes ++ more)))
vlan_next bytes more fits =
    let high = same_byte bytes more 2 (omega (arith, fits)) in
    let low = same_byte bytes more 3 (omega (arith, fits)) in
    let named : vlan.next_type_of (bytes ++ more) ≡ vlan.next_type_of bytes = rw (high, low) refl in (
      complete_ether (vlan.payload_of (bytes ++ more)),
      refl,
      (named, (more, drop-append-le 4 bytes more fits)),
    )

vlan_case : (short : Bool) (bytes more : List ℕ) (o : Option LaxLinkExtSlice)
    → nat_lt (length bytes) vlan_len ≡ short
    → lax_vlan_tag (if short then Err (too_few_bytes VlanHeader vlan_len (length bytes)) else Ok bytes) ≡ Ok o
    → TagKept o (lax_vlan_tag (whole_at VlanHeader vlan_len (bytes ++ more)))
vlan_case true bytes more o size is = cc
vlan_case false bytes more o size is =
    let same : Some (tag.Vlan bytes) ≡ o = cc in
    let fits : 4 ≤ length bytes = grind (arith, nat_tests) in
    let whole : nat_lt (length (bytes ++ more)) vlan_len ≡ false =
    grind (arith, nat_tests, length-append bytes more) in
    subst (λ (k : Option LaxLinkExtSlice). TagKept k (lax_vlan_tag (whole_at VlanHeader vlan_len (bytes ++ more))))
    same (tag.Vlan (bytes ++ more), rw whole refl, (more, refl), vlan_next bytes more fits)

vlan_more : (bytes more : List ℕ) (o : Option LaxLinkExtSlice)
    → lax_vlan_tag (whole_at VlanHeader vlan_len bytes) ≡ Ok o
    → TagKept o (lax_vlan_tag (whole_at VlanHeader vlan_len (bytes ++ more)))
vlan_more bytes more o is = vlan_case (nat_lt (length bytes) vlan_len) bytes more o refl is

payload_next : (p q : LaxMacsecPayload) → tag_payload.IsPayloadContinued p q
    → NextKept (lax_named_payload p) (lax_named_payload q)
payload_next (LaxUnmodified p) (LaxUnmodified q) kept = (q, refl, kept)
payload_next (LaxUnmodified p) (LaxModified later all) kept = absurd kept
payload_next (LaxModified incomplete bytes) q kept = tt

macsec_next : (m n : LaxMacsec) → KeepsMacsec m n
    → NextKept (lax_payload_after (tag.Macsec m)) (lax_payload_after (tag.Macsec n))
macsec_next m n kept = payload_next m.payload n.payload kept.payload

macsec_more : MoreParts → (bytes more : List ℕ) (r : Result LaxMacsec (HeaderSliceError MacsecFault))
    (o : Option LaxLinkExtSlice) → lax_macsec_at bytes ≡ r → lax_macsec_tag r ≡ Ok o
    → TagKept o (lax_macsec_tag (lax_macsec_at (bytes ++ more)))
macsec_more law bytes more (Err e) o at is = cc
macsec_more law bytes more (Ok m) o at is =
    let same : Some (tag.Macsec m) ≡ o = cc in
    let found = ok_in (λ (after : LaxMacsec). KeepsMacsec m after) (lax_macsec_at (bytes ++ more))
    (law.macsec bytes more m at) in
    subst (λ (k : Option LaxLinkExtSlice). TagKept k (lax_macsec_tag (lax_macsec_at (bytes ++ more)))) same
    (tag.Macsec found.0, ap lax_macsec_tag found.1, found.2, macsec_next m found.0 found.2)

tag_case : MoreParts → (vlan macsec : Bool) (bytes more : List ℕ) (o : Option LaxLinkExtSlice)
    → (if vlan then lax_vlan_tag (whole_at VlanHeader vlan_len bytes)
    else (if macsec then lax_macsec_tag (lax_macsec_at bytes) else Ok None)) ≡ Ok o
    → TagKept o (if vlan then lax_vlan_tag (whole_at VlanHeader vlan_len (bytes ++ more))
    else (if macsec then lax_macsec_tag (lax_macsec_at (bytes ++ more)) else Ok None))
tag_case law true macsec bytes more o is = vlan_more bytes more o is
tag_case law false true bytes more o is = macsec_more law bytes more (lax_macsec_at bytes) o refl is
tag_case law false false bytes more o is =
    let same : None ≡ o = cc in
    subst (λ (k : Option LaxLinkExtSlice). TagKept k (Ok None)) same refl

abbrev tag_by : EtherType → List ℕ → Result (Option LaxLinkExtSlice) Stop
tag_by t bytes =
    if is_vlan_type t then lax_vlan_tag (whole_at VlanHeader vlan_len bytes)
    else (if is_macsec_type t then lax_macsec_tag (lax_macsec_at bytes) else Ok None)

tag_more : MoreParts → (p q : LaxEtherPayload) (o : Option LaxLinkExtSlice) → Continued p q
    → lax_tag_at p ≡ Ok o → TagKept o (lax_tag_at q)
tag_more law p q o more is =
    let same : lax_tag_at q ≡ tag_by p.ether_type (p.payload ++ more.1.0) = ap₂ tag_by more.0 more.1.1 in
    rw same (tag_case law (is_vlan_type p.ether_type) (is_macsec_type p.ether_type) p.payload more.1.0 o is)

record AreTagsKept (before after : LaxTagged) : Type 0 where
  tags : KeepsTags before.tags after.tags
  last : NextKept before.last after.last

abbrev TagsGoOn : ℕ → Type 0
TagsGoOn count = (p q : LaxEtherPayload) → Continued p q
    → AreTagsKept (lax_tags_in count p) (lax_tags_in count q)

further_more : (count : ℕ) (p q : Option LaxEtherPayload) → TagsGoOn count → NextKept p q
    → AreTagsKept (lax_read_further (lax_tags_in count) p) (lax_read_further (lax_tags_in count) q)
further_more count None q each kept = record { tags = tt; last = tt }
further_more count (Some p) q each kept =
    rw (ap (lax_read_further (lax_tags_in count)) kept.1) (each p kept.0 kept.2)

from_tag_more : MoreParts → (count : ℕ) (p q : LaxEtherPayload)
    (r : Result (Option LaxLinkExtSlice) Stop) → TagsGoOn count → Continued p q → lax_tag_at p ≡ r
    → AreTagsKept (lax_from_tag (lax_tags_in count) p r) (lax_from_tag (lax_tags_in count) q (lax_tag_at q))
from_tag_more law count p q (Err stop) each more at = record { tags = tt; last = tt }
from_tag_more law count p q (Ok None) each more at =
    let none = tag_more law p q None more at in
    rw none (record { tags = tt; last = (q, refl, more) })
from_tag_more law count p q (Ok (Some t)) each more at =
    let found = tag_more law p q (Some t) more at in
    let inner = further_more count (lax_payload_after t) (lax_payload_after found.0) each found.3 in
    rw found.1 (record { tags = (found.2, inner.tags); last = inner.last })

tags_more : MoreParts → (count : ℕ) → TagsGoOn count
unfolding lax_tags_in
tags_more law zero p q more = record { tags = tt; last = (q, refl, more) }
tags_more law (suc count) p q more =
    let at : LaxTagged = lax_from_tag (lax_tags_in count) p (lax_tag_at p) in
    subst (λ (t : LaxTagged). AreTagsKept t (lax_tags_in (suc count) q)) (sym (lax_tags_turn count p))
    (subst (AreTagsKept at) (sym (lax_tags_turn count q))
    (from_tag_more law count p q (lax_tag_at p) (tags_more law count) more refl))

-- tags and layers together, after a link header of so many bytes
net_in : (before after : Option LaxNetSlice) → NetKept before after
    → (packet : LaxNetSlice) → before ≡ Some packet → KeepsNet packet after
net_in (Some found) after kept packet is =
    let same : found ≡ packet = cc in
    rw same at kept
net_in None after kept packet is = cc

transport_in : (before after : Option TransportSlice) → TransportKept before after
    → (message : TransportSlice) → before ≡ Some message → KeepsTransport message after
transport_in (Some found) after kept message is =
    let same : found ≡ message = cc in
    rw same at kept
transport_in None after kept message is = cc

after_more : MoreParts → (len : ℕ) (old new : LinkSlice) (p q : EtherPayload) → KeepsLink old (Some new)
    → q.ether_type ≡ p.ether_type → IsContinued p.payload q.payload
    → KeepsLayers (lax_packet_after len old p) (lax_packet_after len new q)
after_more law len old new p q header named more =
    let tags = tags_more law most_tags (complete_ether p) (complete_ether q) (named, more) in
    let before : LaxTagged = lax_tags_in most_tags (complete_ether p) in
    let after : LaxTagged = lax_tags_in most_tags (complete_ether q) in
    let layers = layers_more law before.last after.last tags.last in
    record {
      link = λ found is. let same : old ≡ found = cc in
          subst (λ (k : LinkSlice). KeepsLink k (Some new)) same header;
      link_exts = tags.tags;
      net = net_in (lax_layers_in before.last).net (lax_layers_in after.last).net layers.net;
      transport = transport_in (lax_layers_in before.last).transport (lax_layers_in after.last).transport
          layers.transport;
    }

ethernet_case : MoreParts → (short : Bool) (bytes more : List ℕ) (before : LaxSlicedPacket)
    → nat_lt (length bytes) ethernet_len ≡ short
    → in_lax_frame (if short then Err (too_few_bytes Ethernet2Header ethernet_len (length bytes)) else Ok bytes)
    ≡ Ok before → IsOkAnd (lax_sliced_ethernet (bytes ++ more)) (λ after. KeepsLayers before after)
ethernet_case law true bytes more before size is = cc
ethernet_case law false bytes more before size is =
    let fits : ethernet_len ≤ length bytes = grind (arith, nat_tests) in
    let whole : nat_lt (length (bytes ++ more)) ethernet_len ≡ false =
    grind (arith, nat_tests, length-append bytes more) in
    let high = same_byte bytes more 12 (omega (arith, fits)) in
    let low = same_byte bytes more 13 (omega (arith, fits)) in
    let named : ethernet.next_type_of (bytes ++ more) ≡ ethernet.next_type_of bytes = rw (high, low) refl in
    let kept = after_more law ethernet_len (link.Ethernet2 (without_fcs bytes)) (link.Ethernet2 (without_fcs (bytes ++ more)))
    (ethernet.payload_of bytes) (ethernet.payload_of (bytes ++ more))
    (bytes ++ more, refl, (more, refl)) named (more, drop-append-le ethernet_len bytes more fits) in
    let same : lax_packet_after ethernet_len (link.Ethernet2 (without_fcs bytes)) (ethernet.payload_of bytes) ≡ before = cc in
    rw whole (rw same at kept)

pub ethernet_more : MoreParts → (bytes more : List ℕ) (before : LaxSlicedPacket)
    → lax_sliced_ethernet bytes ≡ Ok before
    → IsOkAnd (lax_sliced_ethernet (bytes ++ more)) (λ after. KeepsLayers before after)
ethernet_more law bytes more before is =
    ethernet_case law (nat_lt (length bytes) ethernet_len) bytes more before refl is

pub ether_type_more : MoreParts → (t : EtherType) (bytes more : List ℕ)
    → KeepsLayers (lax_sliced_ether_type t bytes) (lax_sliced_ether_type t (bytes ++ more))
ether_type_more law t bytes more = after_more law 0 (link.EtherPayload (ether_payload t bytes))
    (link.EtherPayload (ether_payload t (bytes ++ more))) (ether_payload t bytes) (ether_payload t (bytes ++ more))
    (bytes ++ more, refl, (more, refl)) refl (more, refl)

-- cooked captures
without_layers : (bytes more : List ℕ) → KeepsLayers (in_lax_linux_sll bytes None)
    (in_lax_linux_sll (bytes ++ more) None)
without_layers bytes more = record {
  link = λ found is.
      let same : link.LinuxSll bytes ≡ found = cc in
      subst (λ (k : LinkSlice). KeepsLink k (Some (link.LinuxSll (bytes ++ more)))) same
      (bytes ++ more, refl, (more, refl));
  link_exts = tt;
  net = λ packet is. cc;
  transport = λ message is. cc;
}

named_more : MoreParts → (t : LinuxSllProtocolType) (bytes more following : List ℕ) →
    KeepsLayers (in_lax_linux_sll bytes (sll.ether_payload_of t following))
    (in_lax_linux_sll (bytes ++ more) (sll.ether_payload_of t (following ++ more)))
named_more law (protocol.EtherType t) bytes more following =
    after_more law sll_len (link.LinuxSll bytes) (link.LinuxSll (bytes ++ more))
    (record { ether_type = t; len_source = Slice; payload = following })
    (record { ether_type = t; len_source = Slice; payload = following ++ more })
    (bytes ++ more, refl, (more, refl)) refl (more, refl)
named_more law (protocol.Ignored n) bytes more following = without_layers bytes more
named_more law (protocol.NetlinkProtocolType n) bytes more following = without_layers bytes more
named_more law (protocol.GenericRoutingEncapsulationProtocolType n) bytes more following =
    without_layers bytes more
named_more law (protocol.LinuxNonstandardEtherType n) bytes more following = without_layers bytes more

cooked_case : MoreParts → (bytes more : List ℕ) (r : Result (List ℕ) (HeaderSliceError SllFault))
    (before : LaxSlicedPacket) → sll_fault.whole_at bytes ≡ r → in_lax_cooked r ≡ Ok before
    → IsOkAnd (lax_sliced_linux_sll (bytes ++ more)) (λ after. KeepsLayers before after)
cooked_case law bytes more (Err e) before at is = cc
cooked_case law bytes more (Ok found) before at is =
    let taken = cooked_taken bytes found at in
    let b0 = same_byte bytes more 0 (omega (arith, taken.0)) in
    let b1 = same_byte bytes more 1 (omega (arith, taken.0)) in
    let b2 = same_byte bytes more 2 (omega (arith, taken.0)) in
    let b3 = same_byte bytes more 3 (omega (arith, taken.0)) in
    let b14 = same_byte bytes more 14 (omega (arith, taken.0)) in
    let b15 = same_byte bytes more 15 (omega (arith, taken.0)) in
    let kind : packet_type_of (bytes ++ more) ≡ packet_type_of bytes = rw (b0, b1) refl in
    let protocol_is : (sll.payload_of (bytes ++ more)).protocol_type ≡ (sll.payload_of bytes).protocol_type =
    rw (b2, b3, b14, b15) refl in
    let here = cooked_is (bytes ++ more) (omega (arith, length-append bytes more, taken.0))
    (omega (arith, kind, taken.1)) in
    let same : in_lax_linux_sll bytes (sll.named_payload (sll.payload_of bytes)) ≡ before =
    ap (λ (xs : List ℕ). in_lax_linux_sll xs (sll.named_payload (sll.payload_of xs))) taken.2 ∙ cc in
    let kept = named_more law (sll.payload_of bytes).protocol_type bytes more (drop sll_len bytes) in
    let later : in_lax_linux_sll (bytes ++ more) (sll.named_payload (sll.payload_of (bytes ++ more)))
    ≡ in_lax_linux_sll (bytes ++ more)
    (sll.ether_payload_of (sll.payload_of bytes).protocol_type (drop sll_len bytes ++ more)) =
    ap₂ (λ (t : LinuxSllProtocolType) (xs : List ℕ). in_lax_linux_sll (bytes ++ more) (sll.ether_payload_of t xs))
    protocol_is (drop-append-le sll_len bytes more taken.0) in
    rw (here, later) (rw same at kept)

pub linux_sll_more : MoreParts → (bytes more : List ℕ) (before : LaxSlicedPacket)
    → lax_sliced_linux_sll bytes ≡ Ok before
    → IsOkAnd (lax_sliced_linux_sll (bytes ++ more)) (λ after. KeepsLayers before after)
linux_sll_more law bytes more before is =
    cooked_case law bytes more (sll_fault.whole_at bytes) before refl is

-- IP packets without a link header
bare_more : (before after : LaxLayers) → AreKept before after
    → KeepsLayers (lax_packet_of None [] before) (lax_packet_of None [] after)
bare_more before after kept = record {
  link = λ header is. cc;
  link_exts = tt;
  net = net_in before.net after.net kept.net;
  transport = transport_in before.transport after.transport kept.transport;
}

version_more : (bytes more : List ℕ) (n : ℕ) → version_of bytes ≡ suc n → version_of (bytes ++ more) ≡ suc n
version_more [] more n is = cc
version_more (b ∷ bytes) more n is = is

abbrev v4_stops : Option (HeaderSliceError AuthFault) → Option Stop
v4_stops o = option_map exts_stop (option_map lax_ip.auth_stop o)

abbrev v6_stops : Option Fault → Option Stop
v6_stops o = option_map exts_stop (option_map lax_ip.row_stop o)

four_more : MoreParts → (bytes more : List ℕ) (r : Result StoppedIpv4 (HeaderSliceError Ipv4HeaderFault))
    (before : LaxSlicedPacket) → version_of bytes ≡ 4 → lax_ipv4_packet_at bytes ≡ r
    → in_lax_version (with_lax_ipv4 r) ≡ Ok before
    → IsOkAnd (lax_sliced_ip (bytes ++ more)) (λ after. KeepsLayers before after)
four_more law bytes more (Err e) before version at is = cc
four_more law bytes more (Ok s) before version at is =
    let found = ok_in (λ (after : StoppedIpv4). KeepsIpv4 s after) (lax_ipv4_packet_at (bytes ++ more))
    (law.ipv4 bytes more s at) in
    let here = (law.four (bytes ++ more) (version_more bytes more 3 version)).1 in
    let same : lax_packet_of None [] (in_lax_ipv4 s.0 (v4_stops s.1)) ≡ before = cc in
    let kept = bare_more (in_lax_ipv4 s.0 (v4_stops s.1)) (in_lax_ipv4 found.0.0 (v4_stops found.0.1))
    (v4_layers v4_stops (record { none = refl; some = λ e. (_, refl) }) s found.0 found.2) in
    rw (here, found.1) (rw same at kept)

six_more : MoreParts → (bytes more : List ℕ) (r : Result StoppedIpv6 (HeaderSliceError Ipv6HeaderFault))
    (before : LaxSlicedPacket) → version_of bytes ≡ 6 → lax_ipv6_packet_at bytes ≡ r
    → in_lax_version (with_lax_ipv6 r) ≡ Ok before
    → IsOkAnd (lax_sliced_ip (bytes ++ more)) (λ after. KeepsLayers before after)
six_more law bytes more (Err e) before version at is = cc
six_more law bytes more (Ok s) before version at is =
    let found = ok_in (λ (after : StoppedIpv6). KeepsIpv6 s after) (lax_ipv6_packet_at (bytes ++ more))
    (law.ipv6 bytes more s at) in
    let here = (law.six (bytes ++ more) (version_more bytes more 5 version)).1 in
    let same : lax_packet_of None [] (in_lax_ipv6 s.0 (v6_stops s.1)) ≡ before = cc in
    let kept = bare_more (in_lax_ipv6 s.0 (v6_stops s.1)) (in_lax_ipv6 found.0.0 (v6_stops found.0.1))
    (v6_layers v6_stops (record { none = refl; some = λ e. (_, refl) }) s found.0 found.2) in
    rw (here, found.1) (rw same at kept)

ip_case : MoreParts → (none four six : Bool) (bytes more : List ℕ) (before : LaxSlicedPacket)
    (e f : HeaderSliceError IpHeaderFault) → (version_of bytes == 4) ≡ four → (version_of bytes == 6) ≡ six →
    in_lax_version (if none then Err e
    else (if four then with_lax_ipv4 (lax_ipv4_packet_at bytes)
    else (if six then with_lax_ipv6 (lax_ipv6_packet_at bytes) else Err f))) ≡ Ok before
    → IsOkAnd (lax_sliced_ip (bytes ++ more)) (λ after. KeepsLayers before after)
ip_case law true four six bytes more before e f is_four is_six is = cc
ip_case law false true six bytes more before e f is_four is_six is =
    four_more law bytes more (lax_ipv4_packet_at bytes) before (grind (arith, nat_tests)) refl is
ip_case law false false true bytes more before e f is_four is_six is =
    six_more law bytes more (lax_ipv6_packet_at bytes) before (grind (arith, nat_tests)) refl is
ip_case law false false false bytes more before e f is_four is_six is = cc

pub ip_more : MoreParts → (bytes more : List ℕ) (before : LaxSlicedPacket) → lax_sliced_ip bytes ≡ Ok before
    → IsOkAnd (lax_sliced_ip (bytes ++ more)) (λ after. KeepsLayers before after)
ip_more law bytes more before is = ip_case law (length bytes == 0) (version_of bytes == 4)
    (version_of bytes == 6) bytes more before _ _ refl refl is
