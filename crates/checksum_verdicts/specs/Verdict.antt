-- What a checksum says of a message (RFC 768; RFC 792; RFC 4443, section 2.3; RFC 9293, section
-- 3.1; RFC 8200, section 8.1; RFC 1071).
use Rattle.std.specs.Prelude.{ℕ, ◌==◌, Bool, true, false, if◌then◌else◌, List, ◌++◌, length}
use Rattle.ep_base.specs.Sum.{all_ones}
use Rattle.ep_ip.specs.Pseudo.{pseudo_v4, pseudo_v6}
use Rattle.ep_tcpudp.specs.Udp.{checksum_of}
use Rattle.ep_packet.specs.Readable.{ReadMessage, tcp, udp, icmpv6}
use Rattle.ep_packet.specs.Readable.ReadMessage.{Icmpv4, Tcp, Udp, Icmpv6, Raw}
use Rattle.ep_packet.specs.declared.addresses.Addresses.{Addresses}
use Rattle.ep_packet.specs.declared.addresses.Addresses.TheVariants.{V4, V6}
use Rattle.checksum_verdicts.specs.declared.verdict.Verdict.{Verdict}
use Rattle.checksum_verdicts.specs.declared.verdict.Verdict.TheVariants as verdict

-- the index of a verdict among the three, as they are declared
abbrev pub verdict_index : Verdict → ℕ
verdict_index verdict.Good = 0
verdict_index verdict.Bad = 1
verdict_index verdict.None = 2

-- the pseudo header before so many bytes, of the version that the addresses are of
abbrev pub pseudo : Addresses → (number len : ℕ) → List ℕ
pseudo (V4 source destination) number len = pseudo_v4 source destination number len
pseudo (V6 source destination) number len = pseudo_v6 source destination number len

-- all bytes that the checksum of a message covers: the message after its pseudo header. ICMPv4 has
-- none, and a raw message has no checksum.
abbrev pub summed_text : Addresses → ReadMessage → List ℕ
summed_text addresses (Icmpv4 bytes) = bytes
summed_text addresses (Tcp bytes) = pseudo addresses tcp (length bytes) ++ bytes
summed_text addresses (Udp bytes) = pseudo addresses udp (length bytes) ++ bytes
summed_text addresses (Icmpv6 bytes) = pseudo addresses icmpv6 (length bytes) ++ bytes
summed_text addresses (Raw bytes) = bytes

-- no checksum was sent (UDP's is 0), or none is known: ICMP of the other version, and any other
-- protocol
abbrev pub is_unchecked : Addresses → ReadMessage → Bool
is_unchecked addresses (Tcp bytes) = false
is_unchecked addresses (Udp bytes) = checksum_of bytes == 0
is_unchecked addresses (Raw bytes) = true
is_unchecked (V4 source destination) (Icmpv4 bytes) = false
is_unchecked (V4 source destination) (Icmpv6 bytes) = true
is_unchecked (V6 source destination) (Icmpv4 bytes) = true
is_unchecked (V6 source destination) (Icmpv6 bytes) = false

-- by whether the words sum to all ones
abbrev pub verdict_of : Addresses → ReadMessage → Verdict
verdict_of addresses message = if is_unchecked addresses message then verdict.None
    else (if all_ones (summed_text addresses message) then verdict.Good else verdict.Bad)
