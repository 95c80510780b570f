-- What is found at the start of bytes, an IP packet or a fault, is what is there.
use Rattle.std.proofs.Common.{◌≡◌, ◌∙◌, ap, subst, refl, ◌==◌, ◌++◌, ℕ, Bool, true, false, List, length, Result, Ok, Err}
use Rattle.std.proofs.Common.{append_assoc}
use Rattle.std.specs.Prelude.{if◌then◌else◌}
use Rattle.ep_base.proofs.Prefixes.{ok_same}
use Rattle.ep_ip.specs.Ipv4.{version_of}
use Rattle.ep_ip.specs.Ipv4Fault.{header_at}
use Rattle.ep_ip.proofs.Ipv4Prefix.{takes_header}
use Rattle.ep_ext.specs.Ipv4Exts.{auth_bytes}
use Rattle.ep_ext.specs.declared.net.ipv6_ext_slot.Ipv6ExtSlot.TheVariants.{Authentication}
use Rattle.ep_ext.proofs.Prefixes.{eight, prefix_again}
use Rattle.ep_ext.proofs.Rows.{end_closed, end_fault}
use Rattle.ep_ipslice.specs.IpSlice.{IsIpFault, IsIpPacket, ip_packet_at, with_ipv4, with_ipv6}
use Rattle.ep_ipslice.specs.Ipv4Packet.{ipv4_packet_at, packet_with}
use Rattle.ep_ipslice.specs.Ipv6Fault.{IsIpv6Fault}
use Rattle.ep_ipslice.specs.Ipv6Packet.{ipv6_packet_at}
use Rattle.ep_ipslice.specs.Packet.{Ipv4Packet, Ipv6Packet, IsIpv4Packet, IsIpv6Packet}
use Rattle.ep_ipslice.specs.declared.err.ip.slice_error.SliceError.{SliceError as IpFault}
use Rattle.ep_ipslice.specs.declared.err.ipv4.slice_error.SliceError.{SliceError as Ipv4Fault}
use Rattle.ep_ipslice.specs.declared.err.ipv6.slice_error.SliceError.{SliceError as Ipv6Fault}
use Rattle.ep_ipslice.specs.declared.net.ip_slice.IpSlice.{IpSlice}
use Rattle.ep_ipslice.specs.declared.net.ip_slice.IpSlice.TheVariants.{Ipv4, Ipv6}
use Rattle.ep_ipslice.proofs.CutPackets.{v4_is}
use Rattle.ep_ipslice.proofs.FirstFault.{RowEnds, ip_fault_found, ipv6_fault_found}
use Rattle.ep_ipslice.proofs.Found.{packet_found}
use Rattle.ep_ipslice.proofs.IpParts.{v4_version, v6_version}
use Rattle.ep_ipslice.proofs.Ipv4Parts.{packet_again}
use Rattle.ep_ipslice.proofs.Ipv6At.{packet_is}
use Rattle.ep_ipslice.proofs.LaxLaws.{four_is, six_is}

pub ipv4_found : (bytes : List ℕ) (packet : Ipv4Packet) → ipv4_packet_at bytes ≡ Ok packet
    → IsIpv4Packet bytes packet
ipv4_found = v4_is

pub ipv4_only : (bytes : List ℕ) (packet : Ipv4Packet) → IsIpv4Packet bytes packet
    → ipv4_packet_at bytes ≡ Ok packet
ipv4_only bytes packet is =
    let rest : List ℕ = auth_bytes packet.auth ++ packet.payload ++ is.padding in
    let parts : bytes ≡ packet.header ++ rest =
    is.cut ∙ ap (λ (xs : List ℕ). xs ++ is.padding)
    (append_assoc packet.header (auth_bytes packet.auth) packet.payload)
    ∙ append_assoc packet.header (auth_bytes packet.auth ++ packet.payload) is.padding in
    ap (packet_with bytes)
    ((takes_header bytes (header_at bytes) refl).only packet.header rest is.header parts)
    ∙ packet_again (prefix_again Authentication) bytes packet is

pub ipv6_found : (bytes : List ℕ) (packet : Ipv6Packet) → ipv6_packet_at bytes ≡ Ok packet
    → IsIpv6Packet bytes packet
ipv6_found = packet_found

pub ipv6_only : (bytes : List ℕ) (packet : Ipv6Packet) → IsIpv6Packet bytes packet
    → ipv6_packet_at bytes ≡ Ok packet
ipv6_only = packet_is prefix_again eight

ipv4_case : (bytes : List ℕ) (r : Result Ipv4Packet Ipv4Fault) (packet : IpSlice)
    → ipv4_packet_at bytes ≡ r → with_ipv4 r ≡ Ok packet → IsIpPacket bytes packet
ipv4_case bytes (Ok found) packet at is =
    subst (IsIpPacket bytes) (ok_same _ _ is) (ipv4_found bytes found at)
ipv4_case bytes (Err e) packet at is = cc

ipv6_case : (bytes : List ℕ) (r : Result Ipv6Packet Ipv6Fault) (packet : IpSlice)
    → ipv6_packet_at bytes ≡ r → with_ipv6 r ≡ Ok packet → IsIpPacket bytes packet
ipv6_case bytes (Ok found) packet at is =
    subst (IsIpPacket bytes) (ok_same _ _ is) (ipv6_found bytes found at)
ipv6_case bytes (Err e) packet at is = cc

by_version : (none four six : Bool) (bytes : List ℕ) (packet : IpSlice) (e f : IpFault) →
    (if none then Err e
    else (if four then with_ipv4 (ipv4_packet_at bytes)
    else (if six then with_ipv6 (ipv6_packet_at bytes) else Err f))) ≡ Ok packet
    → IsIpPacket bytes packet
by_version true four six bytes packet e f is = cc
by_version false true six bytes packet e f is =
    ipv4_case bytes (ipv4_packet_at bytes) packet refl is
by_version false false true bytes packet e f is =
    ipv6_case bytes (ipv6_packet_at bytes) packet refl is
by_version false false false bytes packet e f is = cc

pub ip_found : (bytes : List ℕ) (packet : IpSlice) → ip_packet_at bytes ≡ Ok packet
    → IsIpPacket bytes packet
ip_found bytes packet is =
    by_version (length bytes == 0) (version_of bytes == 4) (version_of bytes == 6) bytes packet _ _ is

pub ip_only : (bytes : List ℕ) (packet : IpSlice) → IsIpPacket bytes packet
    → ip_packet_at bytes ≡ Ok packet
ip_only bytes (Ipv4 packet) is =
    (four_is bytes (v4_version bytes packet is)).0 ∙ ap with_ipv4 (ipv4_only bytes packet is)
ip_only bytes (Ipv6 packet) is =
    (six_is bytes (v6_version bytes packet is)).0 ∙ ap with_ipv6 (ipv6_only bytes packet is)

row_ends : RowEnds
row_ends = record { closed = end_closed; fault = end_fault }

pub ipv6_refused : (bytes : List ℕ) (e : Ipv6Fault) → ipv6_packet_at bytes ≡ Err e
    → IsIpv6Fault bytes e
ipv6_refused = ipv6_fault_found row_ends

pub ip_refused : (bytes : List ℕ) (e : IpFault) → ip_packet_at bytes ≡ Err e → IsIpFault bytes e
ip_refused = ip_fault_found row_ends
