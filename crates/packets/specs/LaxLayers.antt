-- What is there of a packet that is refused, and which fault is shown of it.
use Rattle.std.specs.Prelude.{ℕ, ◌+◌, ◌-◌, ◌==◌, ◌&&◌, nat_le, nat_lt, if◌then◌else◌, Bool, true, false, List, length}
use Rattle.std.specs.Prelude.{Option, Some, None, Result, Ok, Err}
use Rattle.std.specs.Option.{option_map}
use Rattle.captures.specs.declared.link.header.Header.{Header}
use Rattle.ep_base.specs.declared.err.layer.Layer.{Layer}
use Rattle.ep_base.specs.declared.len_source.LenSource.{LenSource}
use Rattle.ep_base.specs.declared.len_source.LenSource.TheVariants as source
use Rattle.ep_ext.specs.Ipv4Exts.{auth_bytes}
use Rattle.ep_ip.specs.Ipv4 as ipv4
use Rattle.ep_ip.specs.Ipv6 as ipv6
use Rattle.ep_packet.specs.LaxSliced.{lax_sliced_ether_type, lax_sliced_ethernet}
use Rattle.ep_packet.specs.declared.err.packet.slice_error.SliceError.{SliceError}
use Rattle.ep_packet.specs.declared.err.packet.slice_error.SliceError.TheVariants.{Len, LinuxSll, Macsec, Ip, Ipv4}
use Rattle.ep_packet.specs.declared.err.packet.slice_error.SliceError.TheVariants.{Ipv6, Ipv4Exts, Ipv6Exts, Tcp}
use Rattle.ep_packet.specs.declared.lax_sliced_packet.LaxSlicedPacket.{LaxSlicedPacket}
use Rattle.ep_packet.specs.declared.net.lax_net_slice.LaxNetSlice.{LaxNetSlice}
use Rattle.ep_packet.specs.declared.net.lax_net_slice.LaxNetSlice.TheVariants as net
use Rattle.packets.specs.Layers.{after_header}

abbrev pub if_read : {E : Type 0} → Result LaxSlicedPacket E → Option LaxSlicedPacket
if_read (Ok packet) = Some packet
if_read (Err e) = None

-- the headers that are there of an Ethernet II frame, or of what follows a header that was made: all
-- before the first that isn't whole, or has a wrong version, header length, data offset or place.
-- There are none in a frame that is shorter than its Ethernet II header
abbrev pub lax_layers_of : Option Header → List ℕ → Option LaxSlicedPacket
lax_layers_of None bytes = if_read (lax_sliced_ethernet bytes)
lax_layers_of (Some header) bytes =
    Some (lax_sliced_ether_type (record { 0 = header.ether_type }) bytes)

-- ---- how long it was

-- how many bytes the payload of an IP packet has: where bytes of it are missing, as many as its
-- headers promise
abbrev pub promised : (is_incomplete : Bool) → (stated there : ℕ) → ℕ
promised true stated there = stated
promised false stated there = there

abbrev pub promised_len : Option LaxNetSlice → ℕ
promised_len None = 0
promised_len (Some (net.Ipv4 packet)) = promised packet.incomplete
    (ipv4.total_len_of packet.header - length packet.header - length (auth_bytes packet.auth))
    (length packet.payload.payload)
promised_len (Some (net.Ipv6 packet)) = promised packet.incomplete
    (ipv6.payload_length_of packet.header - length packet.exts.slice) (length packet.payload.payload)
promised_len (Some (net.Arp packet)) = 0

-- ---- why it is refused

-- the bytes end where those that are there end, and not where a length field says. Of ARP the lengths
-- of addresses say how many bytes are needed
abbrev pub is_end_of_bytes : LenSource → Bool
is_end_of_bytes source.Slice = true
is_end_of_bytes source.MacsecShortLength = false
is_end_of_bytes source.Ipv4HeaderTotalLen = false
is_end_of_bytes source.Ipv6HeaderPayloadLen = false
is_end_of_bytes source.UdpHeaderLen = false
is_end_of_bytes source.TcpHeaderLen = false
is_end_of_bytes source.ArpAddrLengths = true

-- of a frame with so many bytes that are there, and so many that were cut off: nothing is wrong but
-- that the bytes which are missing were cut off
abbrev pub is_cut_off : (len cut : ℕ) → SliceError → Bool
is_cut_off len cut (Len e) = nat_lt 0 cut && is_end_of_bytes e.len_source
    && (e.layer_start_offset + e.len == len) && nat_lt e.len e.required_len
    && nat_le e.required_len (e.len + cut)
is_cut_off len cut (LinuxSll e) = false
is_cut_off len cut (Macsec e) = false
is_cut_off len cut (Ip e) = false
is_cut_off len cut (Ipv4 e) = false
is_cut_off len cut (Ipv6 e) = false
is_cut_off len cut (Ipv4Exts e) = false
is_cut_off len cut (Ipv6Exts e) = false
is_cut_off len cut (Tcp e) = false

abbrev pub unless_cut_off : (len cut : ℕ) → Option SliceError → Option SliceError
unless_cut_off len cut None = None
unless_cut_off len cut (Some e) = if is_cut_off len cut e then None else Some e

-- an offset counts from the start of the Ethernet II frame, also where its header was made
abbrev pub in_frame : Option Header → SliceError → SliceError
in_frame None e = e
in_frame (Some header) e = after_header e

-- the fault of the first header that isn't there
abbrev pub stop_fault_of : Option Header → Option LaxSlicedPacket → Option SliceError
stop_fault_of header None = None
stop_fault_of header (Some packet) =
    option_map (λ (stop : SliceError × Layer). in_frame header stop.0) packet.stop_err

-- the fault that is shown of a packet that is refused for one: this one; where bytes were cut off and
-- nothing else is wrong with it, that of the first header that isn't there, if more is wrong with that;
-- else none
abbrev pub shown_fault : (len cut : ℕ) → (fault : SliceError) → (stop : Option SliceError)
    → Option SliceError
shown_fault len cut fault stop =
    if is_cut_off len cut fault then unless_cut_off len cut stop else Some fault
