-- The fault at which a message, or the header of one, is refused.
use Rattle.std.proofs.Common.{arith, ◌≡◌, ℕ, ◌==◌, Bool, true, false, List, Option, None, Result, Ok, Err, refl, sym}
use Rattle.std.specs.Prelude.{if◌then◌else◌}
use Rattle.std.proofs.lemmas.Bool.{eqb-true}
use Rattle.std.specs.Result.{result_map_both}
use Rattle.ep_base.proofs.Prefixes.{err_same}
use Rattle.ep_base.specs.declared.err.len_error.LenError.{LenError}
use Rattle.ep_base.specs.declared.err.slice_error.SliceError.{SliceError as HeaderSliceError}
use Rattle.ep_base.specs.declared.len_source.LenSource.{LenSource}
use Rattle.ep_icmp.specs.Icmpv4Fault as icmpv4_fault
use Rattle.ep_icmp.specs.Icmpv6Fault as icmpv6_fault
use Rattle.ep_ipslice.specs.Packet.{IpPayload}
use Rattle.ep_packet.specs.FrameFault.{IsMessageFault, IsPayloadFault, OfIcmpv4, OfIcmpv6, OfTcp, OfUdp}
use Rattle.ep_packet.specs.HeaderLayers.{MessageParts, icmpv4_parts, icmpv6_parts, message_in, message_parts, tcp_parts}
use Rattle.ep_packet.specs.HeaderLayers.{udp_parts, with_message}
use Rattle.ep_packet.specs.Readable.{ReadMessage, icmpv4, icmpv6, message_at, tcp, tcp_fault, udp}
use Rattle.ep_packet.specs.Readable as readable
use Rattle.ep_packet.specs.SliceFault.{offset_by, within}
use Rattle.ep_packet.specs.Sliced.{read_transport, result_within, transport_in, with_transport}
use Rattle.ep_packet.specs.declared.err.packet.slice_error.SliceError.{SliceError}
use Rattle.ep_packet.specs.declared.err.packet.slice_error.SliceError.TheVariants.{Len}
use Rattle.ep_packet.specs.declared.net.net_headers.NetHeaders.{NetHeaders}
use Rattle.ep_packet.specs.declared.net.net_slice.NetSlice.{NetSlice}
use Rattle.ep_packet.specs.declared.transport.transport_slice.TransportSlice.{TransportSlice}
use Rattle.ep_tcpudp.specs.TcpFault.{segment_at}
use Rattle.ep_tcpudp.specs.UdpFault as udp_fault
use Rattle.ep_tcpudp.specs.declared.err.tcp.header_error.HeaderError.{HeaderError}

-- what a reading of a message refuses is what its protocol does
read_faulty : {E : Type 0} (message : List ℕ → ReadMessage) (fault : E → SliceError)
    (r : Result (List ℕ) E) (e : SliceError) → result_map_both message fault r ≡ Err e
    → (x : E) × (r ≡ Err x) × (e ≡ fault x)
read_faulty message fault (Ok bytes) e is = cc
read_faulty message fault (Err x) e is = (x, refl, sym (err_same {A = ReadMessage} _ _ is))

message_by : (v4 seg dgram v6 : Bool) (n : ℕ) (bytes : List ℕ) (e : SliceError)
    → (n == icmpv4) ≡ v4 → (n == tcp) ≡ seg → (n == udp) ≡ dgram → (n == icmpv6) ≡ v6
    → (if v4 then result_map_both (λ m. readable.Icmpv4 m) (λ x. Len x) (icmpv4_fault.message_at bytes)
    else (if seg then result_map_both (λ m. readable.Tcp m) tcp_fault (segment_at bytes)
    else (if dgram then result_map_both (λ m. readable.Udp m) (λ x. Len x) (udp_fault.udp_at bytes)
    else (if v6 then result_map_both (λ m. readable.Icmpv6 m) (λ x. Len x) (icmpv6_fault.message_at bytes)
    else Ok (readable.Raw bytes))))) ≡ Err e
    → IsMessageFault udp_fault.udp_at n bytes e
message_by true seg dgram v6 n bytes e is4 isseg isudp is6 is =
    let f = read_faulty _ _ (icmpv4_fault.message_at bytes) e is in
    OfIcmpv4 f.0 (eqb-true n icmpv4 is4) f.1 f.2
message_by false true dgram v6 n bytes e is4 isseg isudp is6 is =
    let f = read_faulty _ _ (segment_at bytes) e is in OfTcp f.0 (eqb-true n tcp isseg) f.1 f.2
message_by false false true v6 n bytes e is4 isseg isudp is6 is =
    let f = read_faulty _ _ (udp_fault.udp_at bytes) e is in
    OfUdp f.0 (eqb-true n udp isudp) f.1 f.2
message_by false false false true n bytes e is4 isseg isudp is6 is =
    let f = read_faulty _ _ (icmpv6_fault.message_at bytes) e is in
    OfIcmpv6 f.0 (eqb-true n icmpv6 is6) f.1 f.2
message_by false false false false n bytes e is4 isseg isudp is6 is = cc

message_faulty : (n : ℕ) (bytes : List ℕ) (e : SliceError) → message_at n bytes ≡ Err e
    → IsMessageFault udp_fault.udp_at n bytes e
message_faulty n bytes e is =
    message_by (n == icmpv4) (n == tcp) (n == udp) (n == icmpv6) n bytes e refl refl refl refl is

read_transport_faulty : (source : LenSource) (r : Result ReadMessage SliceError) (e : SliceError)
    → result_within source (read_transport r) ≡ Err e
    → (x : SliceError) × (r ≡ Err x) × (e ≡ within source x)
read_transport_faulty source r e is = grind arith

transport_by : (cut : Bool) (p : IpPayload) (n : ℕ) (e f : SliceError) → p.fragmented ≡ cut
    → (if cut then Ok None else result_within p.len_source
    (read_transport (message_at p.ip_number.0 p.payload))) ≡ Err f → e ≡ offset_by n f
    → IsPayloadFault udp_fault.udp_at n p e
transport_by true p n e f cut is error = cc
transport_by false p n e f cut is error =
    let x = read_transport_faulty p.len_source (message_at p.ip_number.0 p.payload) f is in
    record {
      fault = x.0;
      uncut = cut;
      message = message_faulty p.ip_number.0 p.payload x.0 x.1;
      error = grind arith;
    }

with_faulty : (packet : NetSlice) (n : ℕ) (r : Result (Option TransportSlice) SliceError)
    (e : SliceError) → with_transport packet n r ≡ Err e
    → (f : SliceError) × (r ≡ Err f) × (e ≡ offset_by n f)
with_faulty packet n r e is = grind arith

-- of a view
pub payload_faulty : (packet : NetSlice) (n : ℕ) (p : IpPayload) (e : SliceError)
    → with_transport packet n (transport_in p) ≡ Err e → IsPayloadFault udp_fault.udp_at n p e
payload_faulty packet n p e is =
    let f = with_faulty packet n (transport_in p) e is in
    transport_by p.fragmented p n e f.0 refl f.1 f.2

icmpv4_parts_faulty : (r : Result (List ℕ) LenError) (e : SliceError) → icmpv4_parts r ≡ Err e
    → (x : LenError) × (r ≡ Err x) × (e ≡ Len x)
icmpv4_parts_faulty r e is = grind arith

tcp_parts_faulty : (r : Result (List ℕ) (HeaderSliceError HeaderError)) (e : SliceError)
    → tcp_parts r ≡ Err e → (x : HeaderSliceError HeaderError) × (r ≡ Err x) × (e ≡ tcp_fault x)
tcp_parts_faulty r e is = grind arith

udp_parts_faulty : (bytes : List ℕ) (r : Result (List ℕ) LenError) (e : SliceError)
    → udp_parts bytes r ≡ Err e → (x : LenError) × (r ≡ Err x) × (e ≡ Len x)
udp_parts_faulty bytes r e is = grind arith

icmpv6_parts_faulty : (r : Result (List ℕ) LenError) (e : SliceError) → icmpv6_parts r ≡ Err e
    → (x : LenError) × (r ≡ Err x) × (e ≡ Len x)
icmpv6_parts_faulty r e is = grind arith

parts_by : (v4 seg dgram v6 : Bool) (n : ℕ) (bytes : List ℕ) (e : SliceError)
    → (n == icmpv4) ≡ v4 → (n == tcp) ≡ seg → (n == udp) ≡ dgram → (n == icmpv6) ≡ v6
    → (if v4 then icmpv4_parts (icmpv4_fault.message_at bytes)
    else (if seg then tcp_parts (segment_at bytes)
    else (if dgram then udp_parts bytes (udp_fault.header_at bytes)
    else (if v6 then icmpv6_parts (icmpv6_fault.message_at bytes) else Ok None)))) ≡ Err e
    → IsMessageFault udp_fault.header_at n bytes e
parts_by true seg dgram v6 n bytes e is4 isseg isudp is6 is =
    let f = icmpv4_parts_faulty (icmpv4_fault.message_at bytes) e is in
    OfIcmpv4 f.0 (eqb-true n icmpv4 is4) f.1 f.2
parts_by false true dgram v6 n bytes e is4 isseg isudp is6 is =
    let f = tcp_parts_faulty (segment_at bytes) e is in OfTcp f.0 (eqb-true n tcp isseg) f.1 f.2
parts_by false false true v6 n bytes e is4 isseg isudp is6 is =
    let f = udp_parts_faulty bytes (udp_fault.header_at bytes) e is in
    OfUdp f.0 (eqb-true n udp isudp) f.1 f.2
parts_by false false false true n bytes e is4 isseg isudp is6 is =
    let f = icmpv6_parts_faulty (icmpv6_fault.message_at bytes) e is in
    OfIcmpv6 f.0 (eqb-true n icmpv6 is6) f.1 f.2
parts_by false false false false n bytes e is4 isseg isudp is6 is = cc

parts_in_by : (cut : Bool) (p : IpPayload) (f : SliceError) → p.fragmented ≡ cut
    → (if cut then Ok None else message_parts p.ip_number.0 p.payload) ≡ Err f
    → (p.fragmented ≡ false) × IsMessageFault udp_fault.header_at p.ip_number.0 p.payload f
parts_in_by true p f cut is = cc
parts_in_by false p f cut is = (
  cut,
  parts_by (p.ip_number.0 == icmpv4) (p.ip_number.0 == tcp) (p.ip_number.0 == udp)
      (p.ip_number.0 == icmpv6) p.ip_number.0 p.payload f refl refl refl refl is,
)

with_message_faulty : (headers : NetHeaders) (n : ℕ) (p : IpPayload)
    (r : Result MessageParts SliceError) (e : SliceError) → with_message headers n p r ≡ Err e
    → (f : SliceError) × (r ≡ Err f) × (e ≡ offset_by n (within p.len_source f))
with_message_faulty headers n p r e is = grind arith

-- of headers as values
pub payload_parts_faulty : (headers : NetHeaders) (n : ℕ) (p : IpPayload) (e : SliceError)
    → with_message headers n p (message_in p) ≡ Err e → IsPayloadFault udp_fault.header_at n p e
payload_parts_faulty headers n p e is =
    let f = with_message_faulty headers n p (message_in p) e is in
    let parts = parts_in_by p.fragmented p f.0 refl f.1 in
    record { fault = f.0; uncut = parts.0; message = parts.1; error = f.2 }
