-- An IP packet is of one version.
use Rattle.std.proofs.Common.{◌≡◌, ℕ, ◌<◌, ◌/◌, List, ◌++◌, length, get_or, Result, Ok, ap, ◌∙◌, append_assoc, arith}
use Rattle.std.proofs.lemmas.List.{get_or_append_left}
use Rattle.ep_ip.specs.Ipv4 as v4
use Rattle.ep_ipslice.specs.Packet.{Ipv4Packet, Ipv6Packet, IsIpv4Packet, IsIpv6Packet}
use Rattle.ep_ipslice.specs.declared.err.ipv4.slice_error.SliceError.{SliceError as Ipv4Fault}
use Rattle.ep_ipslice.specs.declared.err.ipv6.slice_error.SliceError.{SliceError as Ipv6Fault}
use Rattle.ep_ipslice.proofs.Ipv6Parts.{packet_parts}

pub first_byte : (bytes header rest : List ℕ) → bytes ≡ header ++ rest → 0 < length header
    → get_or bytes 0 0 ≡ get_or header 0 0
first_byte bytes header rest parts some = grind (arith, get_or_append_left)

pub v4_version : (bytes : List ℕ) (packet : Ipv4Packet) → IsIpv4Packet bytes packet
    → v4.version_of bytes ≡ 4
v4_version bytes packet is = grind (arith, append_assoc, first_byte)

pub v6_version : (bytes : List ℕ) (packet : Ipv6Packet) → IsIpv6Packet bytes packet
    → v4.version_of bytes ≡ 6
v6_version bytes packet is =
    ap (λ (n : ℕ). n / 16) (first_byte bytes packet.header _ (packet_parts bytes packet is)
    (omega (arith, is.header.whole))) ∙ is.header.version

pub four_six : (n : ℕ) → n ≡ 4 → n ≡ 6 → ⊥
four_six n four six = omega (arith, four, six)

pub ipv4_ok : (x y : Ipv4Packet) → ◌≡◌ {A = Result Ipv4Packet Ipv4Fault} (Ok x) (Ok y) → x ≡ y
ipv4_ok x y h = cc

pub ipv6_ok : (x y : Ipv6Packet) → ◌≡◌ {A = Result Ipv6Packet Ipv6Fault} (Ok x) (Ok y) → x ≡ y
ipv6_ok x y h = cc
