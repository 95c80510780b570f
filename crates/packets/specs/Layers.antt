-- The headers of a frame, which may have an Ethernet II header made for it.
use Rattle.std.specs.Prelude.{ℕ, ◌+◌, List, Option, Some, None, Result, Ok, Err}
use Rattle.captures.specs.Numbers.{capped}
use Rattle.captures.specs.declared.link.header.Header.{Header}
use Rattle.ep_link.specs.Ethernet.{ethernet_len}
use Rattle.ep_packet.specs.Sliced.{sliced_ether_type, sliced_ethernet}
use Rattle.ep_packet.specs.declared.err.packet.slice_error.SliceError.{SliceError}
use Rattle.ep_packet.specs.declared.err.packet.slice_error.SliceError.TheVariants.{Len, LinuxSll, Macsec, Ip, Ipv4}
use Rattle.ep_packet.specs.declared.err.packet.slice_error.SliceError.TheVariants.{Ipv6, Ipv4Exts, Ipv6Exts, Tcp}
use Rattle.ep_packet.specs.declared.sliced_packet.SlicedPacket.{SlicedPacket}

-- a fault whose offset counts from the start of an Ethernet II header before the bytes. An offset
-- stops at the greatest number of 64 bits
abbrev pub after_header : SliceError → SliceError
after_header (Len e) =
    Len (record e { layer_start_offset = capped (e.layer_start_offset + ethernet_len) })
after_header (LinuxSll e) = LinuxSll e
after_header (Macsec e) = Macsec e
after_header (Ip e) = Ip e
after_header (Ipv4 e) = Ipv4 e
after_header (Ipv6 e) = Ipv6 e
after_header (Ipv4Exts e) = Ipv4Exts e
after_header (Ipv6Exts e) = Ipv6Exts e
after_header (Tcp e) = Tcp e

abbrev pub fault_after_header : Result SlicedPacket SliceError → Result SlicedPacket SliceError
fault_after_header (Ok layers) = Ok layers
fault_after_header (Err e) = Err (after_header e)

-- the headers of an Ethernet II frame, or those after a header that was made
abbrev pub layers_of : Option Header → List ℕ → Result SlicedPacket SliceError
layers_of None bytes = sliced_ethernet bytes
layers_of (Some header) bytes =
    fault_after_header (sliced_ether_type (record { 0 = header.ether_type }) bytes)
