-- Headers after the tags, and their faults.
use Rattle.std.proofs.Common.{◌≡◌, ℕ, ◌+◌, ◌-◌, ◌<◌, ◌≤◌, ◌^◌, ◌&&◌, Bool, true, cond, List, length, Option, IsSome}
use Rattle.std.proofs.Common.{Result, Err, IfErr, ⊎_elim, ap, append_assoc, length-append, arith}
use Rattle.std.proofs.lemmas.Bool.{eqb-true}
use Rattle.ep_base.specs.declared.len_source.LenSource.{LenSource}
use Rattle.ep_ipslice.specs.Packet.{IpPayload}
use Rattle.ep_packet.specs.HeaderLayers.{HeaderLayers, packet_len}
use Rattle.ep_packet.specs.PacketHeaders.{layers_after}
use Rattle.ep_packet.specs.ReadIpHeaders.{IsIpHeaders, IsIpv4Headers, IsIpv6Headers}
use Rattle.ep_packet.specs.SliceFault.{offset_by, fault_offset, within}
use Rattle.ep_packet.specs.declared.err.packet.slice_error.SliceError.{SliceError}
use Rattle.ep_packet.specs.declared.net.ip_headers.IpHeaders.{IpHeaders}
use Rattle.ep_tag.specs.Ether.{EtherPayload}
use Rattle.ep_tag.specs.declared.link.link_ext_slice.LinkExtSlice.{LinkExtSlice}
use Rattle.ep_packet.proofs.FaultLemmas.{offset_moved}

-- a packet takes no more bytes than there are
ipv4_fits : (bytes : List ℕ) (headers : IpHeaders) (payload : IpPayload)
    → IsIpv4Headers bytes headers payload → packet_len headers (length bytes) ≤ length bytes
ipv4_fits bytes headers payload is = grind (arith, length-append)

taken : (none some least : Bool) (len n size : ℕ) → (none ≡ true → len ≡ 0)
    → size ≡ cond (none && least) (n - 40) len → 40 + size ≤ n
    → cond (none && some) n (40 + len) ≤ n
taken none some least len n size empty sized fits = grind arith

ipv6_fits : (bytes : List ℕ) (headers : IpHeaders) (payload : IpPayload)
    → IsIpv6Headers bytes headers payload → packet_len headers (length bytes) ≤ length bytes
ipv6_fits bytes headers payload is = grind (arith, append_assoc, length-append, taken, eqb-true)

pub packet_fits : (bytes : List ℕ) (headers : IpHeaders) (payload : IpPayload)
    → IsIpHeaders bytes headers payload → packet_len headers (length bytes) ≤ length bytes
packet_fits bytes headers payload either =
    ⊎_elim (ipv4_fits bytes headers payload) (ipv6_fits bytes headers payload) either

-- a fault within so many bytes can be moved by the bytes before them
pub within_room : (m : ℕ) (r : Result HeaderLayers SliceError) → IfErr r (λ e. fault_offset e ≤ m)
    → IfErr r (λ e. (n : ℕ) → m + n < 2 ^ 64 → fault_offset e + n < 2 ^ 64)
within_room m r fits = grind arith

-- a fault at the start of a payload, moved by no more bytes than the packet has
pub message_fits : (bytes : List ℕ) (headers : IpHeaders) (payload : IpPayload) (position : ℕ)
    (source : LenSource) (e returned placed : SliceError) → IsIpHeaders bytes headers payload
    → fault_offset e ≡ 0 → returned ≡ within source e →
    position ≤ packet_len headers (length bytes) → placed ≡ offset_by position returned
    → fault_offset placed ≤ length bytes
message_fits bytes headers payload position source e returned placed is prefix bounded fits moved_is =
    let zero : fault_offset returned ≡ 0 = grind arith in
    omega (
      arith,
      ap fault_offset moved_is,
      offset_moved returned position (length bytes) zero
          (omega (arith, fits, packet_fits bytes headers payload is)),
    )

-- where layers are refused, something was named
pub named_after : (tags : List LinkExtSlice) (o : Option EtherPayload) (e : SliceError)
    → Err e ≡ layers_after tags o → IsSome o
named_after tags o e same = grind arith
