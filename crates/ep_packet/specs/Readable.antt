-- Messages of the protocols that are read: ICMP (RFC 792, RFC 4443), TCP (RFC 9293) and UDP (RFC
-- 768).
use Rattle.std.specs.Prelude.{ℕ, ◌==◌, is_ok, Bool, if◌then◌else◌, List, Result, Ok, Err}
use Rattle.std.specs.Result.{result_map_both}
use Rattle.ep_icmp.specs.Icmpv4Fault as icmpv4_fault
use Rattle.ep_icmp.specs.Icmpv6Fault as icmpv6_fault
use Rattle.ep_packet.specs.declared.err.packet.slice_error.SliceError.{SliceError}
use Rattle.ep_packet.specs.declared.err.packet.slice_error.SliceError.TheVariants as slice_error
use Rattle.ep_packet.specs.declared.message.Message.{Message}
use Rattle.ep_packet.specs.declared.message.Message.TheVariants as message
use Rattle.ep_tcpudp.specs.TcpFault.{segment_at}
use Rattle.ep_tcpudp.specs.UdpFault.{udp_at}
use Rattle.ep_base.specs.declared.err.slice_error.SliceError.{SliceError as HeaderSliceError}
use Rattle.ep_base.specs.declared.err.slice_error.SliceError.TheVariants as tcp_error
use Rattle.ep_tcpudp.specs.declared.err.tcp.header_error.HeaderError.{HeaderError}

-- their numbers, over both IP versions
abbrev pub icmpv4 : ℕ
icmpv4 = 1

abbrev pub tcp : ℕ
tcp = 6

abbrev pub udp : ℕ
udp = 17

abbrev pub icmpv6 : ℕ
icmpv6 = 58

-- a message as it is read: the bytes of it that its protocol counts as its own, which of a UDP
-- datagram are those that its length field counts. Of any other protocol nothing is known.
pub data ReadMessage : Type 0 where
  Icmpv4 : List ℕ → ReadMessage
  Tcp : List ℕ → ReadMessage
  Udp : List ℕ → ReadMessage
  Icmpv6 : List ℕ → ReadMessage
  Raw : List ℕ → ReadMessage

-- a fault of TCP as one of all layers
abbrev pub tcp_fault : HeaderSliceError HeaderError → SliceError
tcp_fault (tcp_error.Len e) = slice_error.Len e
tcp_fault (tcp_error.Content e) = slice_error.Tcp e

-- the message that bytes with this number are, or why they are none; with any other number all
-- bytes are a message
abbrev pub message_at : ℕ → List ℕ → Result ReadMessage SliceError
message_at number bytes =
    if number == icmpv4 then result_map_both (λ m. Icmpv4 m) (λ e. slice_error.Len e)
    (icmpv4_fault.message_at bytes)
    else (if number == tcp then result_map_both (λ m. Tcp m) tcp_fault (segment_at bytes)
    else (if number == udp then result_map_both (λ m. Udp m) (λ e. slice_error.Len e) (udp_at bytes)
    else (if number == icmpv6 then result_map_both (λ m. Icmpv6 m) (λ e. slice_error.Len e)
    (icmpv6_fault.message_at bytes) else Ok (Raw bytes))))

abbrev pub is_readable : ℕ → List ℕ → Bool
is_readable number bytes = is_ok (message_at number bytes)

-- the message that the code returns
abbrev pub as_read : Message → ReadMessage
as_read (message.Icmpv4 bytes) = Icmpv4 bytes
as_read (message.Tcp bytes) = Tcp bytes
as_read (message.Udp bytes) = Udp bytes
as_read (message.Icmpv6 bytes) = Icmpv6 bytes
as_read (message.Raw bytes) = Raw bytes.now

abbrev pub as_answer : Result Message SliceError → Result ReadMessage SliceError
as_answer (Ok message) = Ok (as_read message)
as_answer (Err e) = Err e
