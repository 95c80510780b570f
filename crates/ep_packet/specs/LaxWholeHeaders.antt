-- The headers of a whole packet as those of one that is there as far as it goes: the same, and nothing
-- of the payload is missing.
use Rattle.std.specs.Prelude.{ℕ, ◌-◌, nat_lt, if◌then◌else◌, false, List, take, Option, Some, None}
use Rattle.ep_packet.specs.LaxPacketHeaders.{LaxHeaders}
use Rattle.ep_packet.specs.LaxPayload.{LaxPayload}
use Rattle.ep_packet.specs.LaxPayload as lax
use Rattle.ep_packet.specs.PacketHeaders.{Headers}
use Rattle.ep_packet.specs.Payload.{Payload, Empty, Ether, Icmpv4, Icmpv6, Ip, MacsecMod, Tcp, Udp}
use Rattle.ep_packet.specs.declared.transport.transport_header.TransportHeader.{TransportHeader}
use Rattle.ep_packet.specs.declared.transport.transport_header.TransportHeader.TheVariants as transport
use Rattle.ep_tag.specs.Ether.{complete_ether}

-- the bytes after a UDP header that its length field counts: all where it counts no header (RFC 768)
abbrev pub counted : (stated : ℕ) → List ℕ → List ℕ
counted stated bytes = if nat_lt stated 8 then bytes else take (stated - 8) bytes

abbrev pub counted_after : Option TransportHeader → List ℕ → List ℕ
counted_after None bytes = bytes
counted_after (Some (transport.Udp h)) bytes = counted h.length bytes
counted_after (Some (transport.Tcp h)) bytes = bytes
counted_after (Some (transport.Icmpv4 h)) bytes = bytes
counted_after (Some (transport.Icmpv6 h)) bytes = bytes

-- the payload after this transport header
abbrev pub whole_payload : Option TransportHeader → Payload → LaxPayload
whole_payload header Empty = lax.Empty
whole_payload header (Ether p) = lax.Ether (complete_ether p)
whole_payload header (MacsecMod bytes) = lax.MacsecModified bytes false
whole_payload header (Ip p) = lax.Ip (false, p)
whole_payload header (Udp bytes) = lax.Udp (counted_after header bytes) false
whole_payload header (Tcp bytes) = lax.Tcp bytes false
whole_payload header (Icmpv4 bytes) = lax.Icmpv4 bytes false
whole_payload header (Icmpv6 bytes) = lax.Icmpv6 bytes false

abbrev pub whole_headers : Headers → LaxHeaders
whole_headers h = record {
  link = h.link;
  link_exts = h.link_exts;
  net = h.net;
  transport = h.transport;
  payload = whole_payload h.transport h.payload;
  stop = None;
}
