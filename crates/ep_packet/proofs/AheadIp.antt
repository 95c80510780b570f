-- Where an IP packet is refused, reading as far as the bytes are there stops at the same fault, after the
-- same headers.
use Rattle.std.proofs.Common.{◌≡◌, ◌∙◌, sym, ap, refl, ℕ, ◌-◌, ◌==◌, Bool, true, false, List, [], length, Option, Some, None}
use Rattle.std.proofs.Common.{Result, Ok, Err}
use Rattle.std.specs.Prelude.{if◌then◌else◌, MatchResult}
use Rattle.std.specs.Option.{option_map}
use Rattle.std.proofs.lemmas.Bool.{eqb-true}
use Rattle.ep_base.proofs.Prefixes.{err_same}
use Rattle.ep_base.specs.declared.err.layer.Layer.TheVariants as layer
use Rattle.ep_base.specs.declared.err.slice_error.SliceError.{SliceError as HeaderSliceError}
use Rattle.ep_base.specs.declared.err.slice_error.SliceError.TheVariants as slice_error
use Rattle.ep_base.specs.declared.len_source.LenSource.{LenSource}
use Rattle.ep_base.specs.declared.len_source.LenSource.TheVariants.{Ipv4HeaderTotalLen}
use Rattle.ep_ext.specs.Chain.{Fault}
use Rattle.ep_ext.specs.declared.err.ip_auth.header_error.HeaderError.{HeaderError as AuthFault}
use Rattle.ep_ext.specs.declared.err.ipv6_exts.header_error.HeaderError.{HeaderError as ExtsFault}
use Rattle.ep_ip.specs.Ipv4.{version_of}
use Rattle.ep_ip.specs.declared.err.ipv4.header_error.HeaderError.{HeaderError as Ipv4HeaderFault}
use Rattle.ep_ip.specs.declared.err.ipv4.header_error.HeaderError.TheVariants as v4_header
use Rattle.ep_ip.specs.declared.err.ipv6.header_error.HeaderError.{HeaderError as Ipv6HeaderFault}
use Rattle.ep_ip.specs.declared.err.ipv6.header_error.HeaderError.TheVariants as v6_header
use Rattle.ep_ipslice.specs.IpSlice.{ip_packet_at, ipv4_fault, ipv6_fault, no_version, with_ipv4, with_ipv6}
use Rattle.ep_ipslice.specs.Ipv4Packet as strict4
use Rattle.ep_ipslice.specs.Ipv4Packet.{ipv4_packet_at, of_auth_fault}
use Rattle.ep_ipslice.specs.Ipv6Fault.{of_exts_fault}
use Rattle.ep_ipslice.specs.Ipv6Fault as fault6
use Rattle.ep_ipslice.specs.Ipv6Packet.{ipv6_packet_at, ipv6_packet_of}
use Rattle.ep_ipslice.specs.LaxIp as lax_ip
use Rattle.ep_ipslice.specs.LaxIp.{ipv4_header_fault, ipv6_header_fault, map_content, with_lax_ipv4, with_lax_ipv6}
use Rattle.ep_ipslice.specs.LaxPackets.{fault_within, lax_ipv4_packet_at, lax_ipv6_after, lax_ipv6_packet_at}
use Rattle.ep_ipslice.specs.LaxPackets.{row_fault_within, whole_ipv4, whole_ipv6}
use Rattle.ep_ipslice.specs.Packet.{Ipv4Packet, Ipv6Packet, body_source, ipv4_payload}
use Rattle.ep_ipslice.specs.declared.err.ip.header_error.HeaderError.{HeaderError as IpHeaderFault}
use Rattle.ep_ipslice.specs.declared.err.ip.header_error.HeaderError.TheVariants.{UnsupportedIpVersion}
use Rattle.ep_ipslice.specs.declared.err.ip.headers_error.HeadersError.TheVariants as headers_error
use Rattle.ep_ipslice.specs.declared.err.ip.slice_error.SliceError.TheVariants as ip_fault
use Rattle.ep_ipslice.specs.declared.err.ipv4.slice_error.SliceError.{SliceError as Ipv4Fault}
use Rattle.ep_ipslice.specs.declared.err.ipv4.slice_error.SliceError.TheVariants as ipv4
use Rattle.ep_ipslice.specs.declared.err.ipv6.slice_error.SliceError.{SliceError as Ipv6Fault}
use Rattle.ep_ipslice.specs.declared.err.ipv6.slice_error.SliceError.TheVariants as ipv6
use Rattle.ep_packet.specs.LaxSliced.{LaxLayers, exts_stop, in_lax_ipv4, in_lax_ipv6, in_lax_version}
use Rattle.ep_packet.specs.LaxSliced.{ipv6_exts_stop, lax_packet_of, lax_sliced_ip, message_layer, of_ip_header}
use Rattle.ep_packet.specs.LaxTags.{Stop}
use Rattle.ep_packet.specs.LayersAhead as layers_ahead
use Rattle.ep_packet.specs.LayersAhead.{IsIpAhead, StopsIp, is_passed_over}
use Rattle.ep_packet.specs.SliceFault.{of_ip, of_ipv4, of_ipv6}
use Rattle.ep_packet.specs.Sliced.{Layers, ip_layers, sliced_ip}
use Rattle.ep_packet.specs.declared.err.packet.slice_error.SliceError.{SliceError}
use Rattle.ep_packet.specs.declared.lax_sliced_packet.LaxSlicedPacket.{LaxSlicedPacket}
use Rattle.ep_packet.specs.declared.net.net_slice.NetSlice.{NetSlice}
use Rattle.ep_packet.specs.declared.net.net_slice.NetSlice.TheVariants as net
use Rattle.ep_packet.proofs.AheadNet.{AheadParts, ForAuth, ForExtension, Ipv4Refused, Ipv6Refused, auth_layers, auth_stops}
use Rattle.ep_packet.proofs.AheadNet.{header_alone, header_stops, ipv4_message, ipv4_refused, ipv6_message, ipv6_refused}
use Rattle.ep_packet.proofs.AheadNet.{row_layers, stopped_layers}
use Rattle.ep_packet.proofs.AheadNet as refused
use Rattle.ep_packet.proofs.FrameFaults.{with_err}
use Rattle.ep_packet.proofs.LaxSameHeaderLemmas.{auth_is}
use Rattle.ep_packet.proofs.MessageFaults.{payload_faulty}

-- an IP packet that is refused, as far as it is there
abbrev IpStops : List ℕ → SliceError → Result LaxSlicedPacket (HeaderSliceError IpHeaderFault) → Type 0
IpStops bytes e r = MatchResult r (λ packet. StopsIp bytes e packet) (λ fault. e ≡ of_ip_header fault)

stops : (bytes : List ℕ) (e : SliceError) (ahead : NetSlice) (stop : Stop) (lax : LaxLayers)
    → IsIpAhead bytes ahead stop → e ≡ stop.0 → lax ≡ stopped_layers (Some ahead) stop
    → StopsIp bytes e (lax_packet_of None [] lax)
stops bytes e ahead stop lax layers fault same = record {
  ahead = ahead;
  stop = stop;
  layers = layers;
  fault = fault;
  stopped = ap (lax_packet_of None []) same;
}

-- faults of one version as those of either
ipv4_over : (f : Ipv4Fault) → is_passed_over (of_ip (ipv4_fault f)) ≡ is_passed_over (of_ipv4 f)
ipv4_over (ipv4.Len e) = refl
ipv4_over (ipv4.Header (v4_header.UnexpectedVersion version)) = refl
ipv4_over (ipv4.Header (v4_header.HeaderLengthSmallerThanHeader ihl)) = refl
ipv4_over (ipv4.Exts e) = refl

ipv4_header_of_ip : (fault : HeaderSliceError Ipv4HeaderFault)
    → of_ip (ipv4_fault (strict4.of_header_fault fault)) ≡ of_ip_header (map_content ipv4_header_fault fault)
ipv4_header_of_ip (slice_error.Len e) = refl
ipv4_header_of_ip (slice_error.Content (v4_header.UnexpectedVersion version)) = refl
ipv4_header_of_ip (slice_error.Content (v4_header.HeaderLengthSmallerThanHeader ihl)) = refl

auth_of_ip : (n : ℕ) (fault : HeaderSliceError AuthFault)
    → of_ip (ipv4_fault (of_auth_fault n fault)) ≡ of_ipv4 (of_auth_fault n fault)
auth_of_ip n (slice_error.Len e) = refl
auth_of_ip n (slice_error.Content e) = refl

ipv6_over : (f : Ipv6Fault) → is_passed_over (of_ip (ipv6_fault f)) ≡ is_passed_over (of_ipv6 f)
ipv6_over (ipv6.Len e) = refl
ipv6_over (ipv6.Header (v6_header.UnexpectedVersion version)) = refl
ipv6_over (ipv6.Exts e) = refl

ipv6_header_of_ip : (fault : HeaderSliceError Ipv6HeaderFault)
    → of_ip (ipv6_fault (fault6.of_header_fault fault)) ≡ of_ip_header (map_content ipv6_header_fault fault)
ipv6_header_of_ip (slice_error.Len e) = refl
ipv6_header_of_ip (slice_error.Content (v6_header.UnexpectedVersion version)) = refl

row_of_ip : (source : LenSource) (fault : HeaderSliceError ExtsFault)
    → of_ip (ipv6_fault (of_exts_fault source fault)) ≡ of_ipv6 (of_exts_fault source fault)
row_of_ip source (slice_error.Len e) = refl
row_of_ip source (slice_error.Content e) = refl

pub row_is : (stop : Option Fault)
    → option_map exts_stop (option_map lax_ip.row_stop stop) ≡ option_map ipv6_exts_stop stop
row_is None = refl
row_is (Some (slice_error.Len e, at)) = refl
row_is (Some (slice_error.Content e, at)) = refl

-- IPv4
ipv4_version : (bytes : List ℕ) (f : Ipv4Fault) (e : SliceError) → version_of bytes ≡ 4
    → Ipv4Refused bytes f → of_ip (ipv4_fault f) ≡ e
    → IpStops bytes e (in_lax_version (with_lax_ipv4 (lax_ipv4_packet_at bytes)))
ipv4_version bytes f e version (refused.ForHeader fault read error) same =
    rw (header_stops bytes fault read)
    (sym same ∙ ap (λ (x : Ipv4Fault). of_ip (ipv4_fault x)) error ∙ ipv4_header_of_ip fault)
ipv4_version bytes f e version (ForAuth header fault is error) same =
    let packet : Ipv4Packet = header_alone bytes header in
    let x : HeaderSliceError AuthFault = fault_within Ipv4HeaderTotalLen (length header) fault in
    rw (auth_stops bytes header fault is)
    (stops bytes e (net.Ipv4 packet) (of_ipv4 (of_auth_fault (length header) fault), layer.IpAuthHeader)
    (in_lax_ipv4 (whole_ipv4 packet) (Some (exts_stop (lax_ip.auth_stop x))))
    (layers_ahead.InIpv4 packet version (layers_ahead.InAuth header fault is refl refl) refl)
    (sym same ∙ ap (λ (g : Ipv4Fault). of_ip (ipv4_fault g)) error ∙ auth_of_ip (length header) fault)
    (ap (in_lax_ipv4 (whole_ipv4 packet)) (auth_is (Some x))
    ∙ auth_layers bytes header fault))

ipv4_case : AheadParts → (bytes : List ℕ) (r : Result Ipv4Packet Ipv4Fault) (e : SliceError)
    → version_of bytes ≡ 4 → ipv4_packet_at bytes ≡ r → ip_layers (with_ipv4 r) ≡ Err e
    → is_passed_over e ≡ false
    → IpStops bytes e (in_lax_version (with_lax_ipv4 (lax_ipv4_packet_at bytes)))
ipv4_case law bytes (Ok packet) e version read is over = rw (law.whole.ipv4 bytes packet read)
    (stops bytes e (net.Ipv4 packet) (e, message_layer (ipv4_payload packet).ip_number.0)
    (in_lax_ipv4 (whole_ipv4 packet) None)
    (layers_ahead.InIpv4 packet version
    (layers_ahead.InMessage e read (payload_faulty (net.Ipv4 packet) _ _ e is) refl) refl)
    refl (ipv4_message packet e is over))
ipv4_case law bytes (Err f) e version read is over =
    let same : of_ip (ipv4_fault f) ≡ e = err_same {A = Layers} _ _ is in
    ipv4_version bytes f e version
    (ipv4_refused bytes f read (sym (ipv4_over f) ∙ ap is_passed_over same ∙ over)) same

-- IPv6
ipv6_version : (bytes : List ℕ) (f : Ipv6Fault) (e : SliceError) → version_of bytes ≡ 6
    → Ipv6Refused bytes f → of_ip (ipv6_fault f) ≡ e
    → IpStops bytes e (in_lax_version (with_lax_ipv6 (lax_ipv6_packet_at bytes)))
ipv6_version bytes f e version (refused.ForHeader fault read error) same =
    rw (ap (lax_ipv6_after bytes) read)
    (sym same ∙ ap (λ (x : Ipv6Fault). of_ip (ipv6_fault x)) error ∙ ipv6_header_of_ip fault)
ipv6_version bytes f e version (ForExtension header read row lax) same =
    let packet : Ipv6Packet = ipv6_packet_of bytes header row.pieces in
    let source : LenSource = body_source header (length bytes - 40) in
    let x : Fault = row_fault_within source row.fault in
    rw lax
    (stops bytes e (net.Ipv6 packet) (of_ipv6 f, row.fault.1)
    (in_lax_ipv6 (whole_ipv6 packet) (Some (exts_stop (lax_ip.row_stop x))))
    (layers_ahead.InIpv6 packet version (layers_ahead.InExtensions header f read row refl refl) refl)
    (sym same ∙ ap (λ (g : Ipv6Fault). of_ip (ipv6_fault g)) row.error
    ∙ row_of_ip source row.fault.0 ∙ ap of_ipv6 (sym row.error))
    (ap (in_lax_ipv6 (whole_ipv6 packet)) (row_is (Some x))
    ∙ row_layers bytes header f row))

ipv6_case : AheadParts → (bytes : List ℕ) (r : Result Ipv6Packet Ipv6Fault) (e : SliceError)
    → version_of bytes ≡ 6 → ipv6_packet_at bytes ≡ r → ip_layers (with_ipv6 r) ≡ Err e
    → is_passed_over e ≡ false
    → IpStops bytes e (in_lax_version (with_lax_ipv6 (lax_ipv6_packet_at bytes)))
ipv6_case law bytes (Ok packet) e version read is over = rw (law.whole.ipv6 bytes packet read)
    (stops bytes e (net.Ipv6 packet) (e, message_layer packet.payload.ip_number.0)
    (in_lax_ipv6 (whole_ipv6 packet) None)
    (layers_ahead.InIpv6 packet version
    (layers_ahead.InMessage e read (payload_faulty (net.Ipv6 packet) _ _ e is) refl) refl)
    refl (ipv6_message packet e is over))
ipv6_case law bytes (Err f) e version read is over =
    let same : of_ip (ipv6_fault f) ≡ e = err_same {A = Layers} _ _ is in
    ipv6_version bytes f e version
    (ipv6_refused law bytes f read (sym (ipv6_over f) ∙ ap is_passed_over same ∙ over)) same

by_version : AheadParts → (none four six : Bool) (bytes : List ℕ) (e : SliceError)
    → (version_of bytes == 4) ≡ four → (version_of bytes == 6) ≡ six
    → ip_layers (if none then Err (ip_fault.Len no_version)
    else (if four then with_ipv4 (ipv4_packet_at bytes)
    else (if six then with_ipv6 (ipv6_packet_at bytes)
    else Err (ip_fault.IpHeaders
    (headers_error.Ip (UnsupportedIpVersion (version_of bytes))))))) ≡ Err e
    → is_passed_over e ≡ false
    → IpStops bytes e (in_lax_version (if none then Err (slice_error.Len no_version)
    else (if four then with_lax_ipv4 (lax_ipv4_packet_at bytes)
    else (if six then with_lax_ipv6 (lax_ipv6_packet_at bytes)
    else Err (slice_error.Content (UnsupportedIpVersion (version_of bytes)))))))
by_version law true four six bytes e is4 is6 is over = sym (err_same {A = Layers} _ _ is)
by_version law false true six bytes e is4 is6 is over = ipv4_case law bytes (ipv4_packet_at bytes) e
    (eqb-true (version_of bytes) 4 is4) refl is over
by_version law false false true bytes e is4 is6 is over = ipv6_case law bytes (ipv6_packet_at bytes) e
    (eqb-true (version_of bytes) 6 is6) refl is over
by_version law false false false bytes e is4 is6 is over = sym (err_same {A = Layers} _ _ is)

pub ip_stops : AheadParts → (bytes : List ℕ) (e : SliceError) → sliced_ip bytes ≡ Err e
    → is_passed_over e ≡ false → IpStops bytes e (lax_sliced_ip bytes)
ip_stops law bytes e is over = by_version law (length bytes == 0) (version_of bytes == 4)
    (version_of bytes == 6) bytes e refl refl (with_err None [] (ip_layers (ip_packet_at bytes)) e is) over
