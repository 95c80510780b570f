-- The message in a packet as far as it is there is a prefix of the payload.
use Rattle.std.proofs.Common.{ℕ, ◌*◌, ◌==◌, ◌&&◌, not, Bool, true, false, cond, List, length, Option, Some, None, Result}
use Rattle.std.proofs.Common.{Ok, Err, IfOk, IfSome}
use Rattle.std.specs.Prelude.{nat_lt}
use Rattle.std.specs.Result.{result_map_both}
use Rattle.etherparse.specs.base.declared.err.layer.Layer.{Layer}
use Rattle.etherparse.specs.base.declared.len_source.LenSource.{LenSource}
use Rattle.etherparse.specs.icmp.Icmpv4.{is_timestamp_reply, is_timestamp_request}
use Rattle.etherparse.specs.icmp.Icmpv4Fault as icmpv4_fault
use Rattle.etherparse.specs.icmp.Icmpv6Fault as icmpv6_fault
use Rattle.etherparse.specs.ipslice.Packet.{IpPayload}
use Rattle.etherparse.specs.packet.LaxSliced.{lax_message_at, lax_message_in, lax_transport_in, message_layer, message_or_stop}
use Rattle.etherparse.specs.packet.LaxTags.{Stop}
use Rattle.etherparse.specs.packet.Parts.{IsAt, transport_bytes}
use Rattle.etherparse.specs.packet.Readable.{ReadMessage, icmpv4, icmpv6, message_at, tcp, tcp_fault, udp}
use Rattle.etherparse.specs.packet.Readable.ReadMessage.{Icmpv4, Icmpv6, Tcp, Udp}
use Rattle.etherparse.specs.packet.Sliced.{read_transport, result_within, transport_of}
use Rattle.etherparse.specs.packet.declared.err.packet.slice_error.SliceError.{SliceError}
use Rattle.etherparse.specs.packet.declared.transport.transport_slice.TransportSlice.{TransportSlice}
use Rattle.etherparse.specs.tcpudp.Tcp.{data_offset_of}
use Rattle.etherparse.specs.tcpudp.TcpFault.{segment_at}
use Rattle.etherparse.specs.tcpudp.Udp.{length_of}
use Rattle.etherparse.specs.tcpudp.UdpFault.{lax_udp_at, udp_at}
use Rattle.etherparse_structs.specs.LaxPacket.{of_len}
use Rattle.ep_packet.proofs.ClassLemmas.{chosen}
use Rattle.ep_packet.proofs.PartsLemmas.{at_whole, at_take}

abbrev Reads : {E : Type 0} → List ℕ → Result (List ℕ) E → Type 0
Reads bytes r = IfOk r (IsAt bytes 0)

guarded : {E : Type 0} (bytes : List ℕ) (b : Bool) (e : E) (r : Result (List ℕ) E) → Reads bytes r
    → Reads bytes (cond b (Err e) r)
guarded bytes true e r reads = tt
guarded bytes false e r reads = reads

icmpv4_reads : (bytes : List ℕ) → Reads bytes (icmpv4_fault.message_at bytes)
icmpv4_reads bytes =
    guarded bytes (nat_lt (length bytes) 8) _ _
    (guarded bytes (is_timestamp_request bytes && not (length bytes == 20)) _ _
    (guarded bytes (is_timestamp_reply bytes && not (length bytes == 20)) _ _ (at_whole bytes)))

icmpv6_reads : (bytes : List ℕ) → Reads bytes (icmpv6_fault.message_at bytes)
icmpv6_reads bytes = guarded bytes (nat_lt (length bytes) 8) _ _ (at_whole bytes)

tcp_reads : (bytes : List ℕ) → Reads bytes (segment_at bytes)
tcp_reads bytes =
    guarded bytes (nat_lt (length bytes) 20) _ _
    (guarded bytes (nat_lt (data_offset_of bytes) 5) _ _
    (guarded bytes (nat_lt (length bytes) (4 * data_offset_of bytes)) _ _ (at_whole bytes)))

udp_reads : (bytes : List ℕ) → Reads bytes (udp_at bytes)
udp_reads bytes =
    guarded bytes (nat_lt (length bytes) 8) _ _
    (guarded bytes (nat_lt (length bytes) (length_of bytes)) _ _
    (guarded bytes (not (length_of bytes == 0) && nat_lt (length_of bytes) 8) _ _
    (chosen (IsAt bytes 0) (length_of bytes == 0) _ _ (at_whole bytes)
    (at_take (length_of bytes) bytes))))

lax_udp_reads : (bytes : List ℕ) → Reads bytes (lax_udp_at bytes)
lax_udp_reads bytes =
    guarded bytes (nat_lt (length bytes) 8) _ _
    (chosen (IsAt bytes 0) (nat_lt (length_of bytes) 8) _ _ (at_whole bytes)
    (at_take (length_of bytes) bytes))

abbrev pub MessageAt : List ℕ → Option TransportSlice → Type 0
MessageAt bytes o = IfSome o (λ t. IsAt bytes 0 (transport_bytes t))

abbrev ReadAt : List ℕ → Result ReadMessage SliceError → Type 0
ReadAt bytes r = IfOk r (λ message. MessageAt bytes (transport_of message))

read_at : {E : Type 0} (bytes : List ℕ) (message : List ℕ → ReadMessage) (fault : E → SliceError)
    (r : Result (List ℕ) E) → ((m : List ℕ) → IsAt bytes 0 m → MessageAt bytes (transport_of (message m)))
    → Reads bytes r → ReadAt bytes (result_map_both message fault r)
read_at bytes message fault (Ok m) each reads = each m reads
read_at bytes message fault (Err e) each reads = tt

message_read : (number : ℕ) (bytes : List ℕ) → ReadAt bytes (message_at number bytes)
message_read number bytes =
    chosen (ReadAt bytes) (number == icmpv4) _ _
    (read_at bytes (λ m. Icmpv4 m) of_len (icmpv4_fault.message_at bytes) (λ m at. at) (icmpv4_reads bytes))
    (chosen (ReadAt bytes) (number == tcp) _ _
    (read_at bytes (λ m. Tcp m) tcp_fault (segment_at bytes) (λ m at. at) (tcp_reads bytes))
    (chosen (ReadAt bytes) (number == udp) _ _
    (read_at bytes (λ m. Udp m) of_len (udp_at bytes) (λ m at. at) (udp_reads bytes))
    (chosen (ReadAt bytes) (number == icmpv6) _ _
    (read_at bytes (λ m. Icmpv6 m) of_len (icmpv6_fault.message_at bytes) (λ m at. at)
    (icmpv6_reads bytes)) tt)))

lax_message_read : (number : ℕ) (bytes : List ℕ) → ReadAt bytes (lax_message_at number bytes)
lax_message_read number bytes =
    chosen (ReadAt bytes) (number == udp) _ _
    (read_at bytes (λ m. Udp m) of_len (lax_udp_at bytes) (λ m at. at) (lax_udp_reads bytes))
    (message_read number bytes)

transport_read : (bytes : List ℕ) (r : Result ReadMessage SliceError) (outer : LenSource)
    → ReadAt bytes r → IfOk (result_within outer (read_transport r)) (MessageAt bytes)
transport_read bytes (Ok message) outer read = read
transport_read bytes (Err e) outer read = tt

in_payload : (p : IpPayload) → IfOk (lax_message_in p) (MessageAt p.payload)
in_payload p =
    chosen (λ (r : Result (Option TransportSlice) SliceError). IfOk r (MessageAt p.payload)) p.fragmented
    (Ok None) (result_within p.len_source (read_transport (lax_message_at p.ip_number.0 p.payload))) tt
    (transport_read p.payload (lax_message_at p.ip_number.0 p.payload) p.len_source
    (lax_message_read p.ip_number.0 p.payload))

or_stop : (bytes : List ℕ) (n : ℕ) (at : Layer) (r : Result (Option TransportSlice) SliceError)
    → IfOk r (MessageAt bytes) → MessageAt bytes (message_or_stop n at r).0
or_stop bytes n at (Ok message) here = here
or_stop bytes n at (Err e) here = tt

pub transport_at : (n : ℕ) (p : IpPayload) (stop : Option Stop)
    → MessageAt p.payload (lax_transport_in n p stop).0
transport_at n p None = or_stop p.payload n (message_layer p.ip_number.0) (lax_message_in p) (in_payload p)
transport_at n p (Some stop) = tt
