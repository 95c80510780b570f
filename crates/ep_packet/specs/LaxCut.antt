-- Messages that were cut off: the same with the first bytes.
use Rattle.std.specs.Prelude.{ℕ, ◌*◌, if◌then◌else◌, take}
use Rattle.ep_icmp.specs.Icmpv4.{is_timestamp}
use Rattle.ep_packet.specs.Readable.{ReadMessage}
use Rattle.ep_packet.specs.Readable.ReadMessage.{Icmpv4, Icmpv6, Raw, Tcp, Udp}
use Rattle.ep_tcpudp.specs.Tcp.{data_offset_of}

-- the length of the header of a message: of ICMP 8 bytes, but the 20 of a timestamp message (RFC 792;
-- RFC 4443), of TCP what its data offset says (RFC 9293), of UDP 8 (RFC 768)
abbrev pub message_header_len : ReadMessage → ℕ
message_header_len (Icmpv4 m) = if is_timestamp m then 20 else 8
message_header_len (Tcp m) = 4 * data_offset_of m
message_header_len (Udp m) = 8
message_header_len (Icmpv6 m) = 8
message_header_len (Raw m) = 0

-- the first n bytes of a message
abbrev pub cut_message : ℕ → ReadMessage → ReadMessage
cut_message n (Icmpv4 m) = Icmpv4 (take n m)
cut_message n (Tcp m) = Tcp (take n m)
cut_message n (Udp m) = Udp (take n m)
cut_message n (Icmpv6 m) = Icmpv6 (take n m)
cut_message n (Raw m) = Raw (take n m)
