-- A link header: Ethernet II, or that of a Linux cooked capture.
use Rattle.std.specs.Prelude.{ℕ, List, Option, Some, None}
use Rattle.ep_link.specs.declared.link.ethernet2_header.Ethernet2Header.{Ethernet2Header}
use Rattle.ep_link.specs.declared.link.link_header.LinkHeader.{LinkHeader}
use Rattle.ep_link.specs.declared.link.link_header.LinkHeader.TheVariants as header
use Rattle.ep_link.specs.declared.link.link_slice.LinkSlice.{LinkSlice}
use Rattle.ep_link.specs.declared.link.link_slice.LinkSlice.TheVariants as slice
use Rattle.ep_link.specs.declared.link.linux_sll_header.LinuxSllHeader.{LinuxSllHeader}
use Rattle.ep_link.specs.Ethernet as ethernet
use Rattle.ep_link.specs.Frame.{before_fcs}
use Rattle.ep_link.specs.Sll as sll
use Rattle.ep_link.specs.SllPayload as cooked
use Rattle.ep_link.specs.declared.link.linux_sll_protocol_type.LinuxSllProtocolType.TheVariants as protocol
use Rattle.ep_tag.specs.Ether.{EtherPayload}

abbrev pub ethernet2_in : LinkHeader → Option Ethernet2Header
ethernet2_in (header.Ethernet2 h) = Some h
ethernet2_in (header.LinuxSll h) = None

abbrev pub linux_sll_in : LinkHeader → Option LinuxSllHeader
linux_sll_in (header.Ethernet2 h) = None
linux_sll_in (header.LinuxSll h) = Some h

-- the bytes of a link header
abbrev pub link_encoding : LinkHeader → List ℕ
link_encoding (header.Ethernet2 h) = ethernet.encoding h
link_encoding (header.LinuxSll h) = sll.encoding h

-- the length of a link header
abbrev pub link_len : LinkHeader → ℕ
link_len (header.Ethernet2 h) = ethernet.ethernet_len
link_len (header.LinuxSll h) = sll.sll_len

-- the fields of a link header, where there is one
abbrev pub fields_of : LinkSlice → Option LinkHeader
fields_of (slice.Ethernet2 frame) =
    Some (header.Ethernet2 (ethernet.ethernet_header_of frame.bytes))
fields_of (slice.LinuxSll bytes) = Some (header.LinuxSll (sll.sll_header_of bytes))
fields_of (slice.EtherPayload p) = None
fields_of (slice.LinuxSllPayload p) = None

-- what follows an ether type: that of the link header, or the one given without a link header
abbrev pub payload_after : LinkSlice → Option EtherPayload
payload_after (slice.Ethernet2 frame) = Some (ethernet.payload_of (before_fcs frame))
payload_after (slice.LinuxSll bytes) = cooked.named_payload (cooked.payload_of bytes)
payload_after (slice.EtherPayload p) = Some p
payload_after (slice.LinuxSllPayload p) = cooked.named_payload p

-- an ether type is a protocol of a Linux cooked capture, too
abbrev pub as_sll_payload : EtherPayload → cooked.SllPayload
as_sll_payload p =
    record { protocol_type = protocol.EtherType p.ether_type; payload = p.payload }

-- what follows the link header, or was given without one, as the payload of a Linux cooked capture
abbrev pub sll_payload_after : LinkSlice → cooked.SllPayload
sll_payload_after (slice.Ethernet2 frame) = as_sll_payload (ethernet.payload_of (before_fcs frame))
sll_payload_after (slice.LinuxSll bytes) = cooked.payload_of bytes
sll_payload_after (slice.EtherPayload p) = as_sll_payload p
sll_payload_after (slice.LinuxSllPayload p) = p
