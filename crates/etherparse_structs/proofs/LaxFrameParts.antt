-- The parts of frames, of packets of cooked captures and of IP packets, as far as they are there.
use Rattle.std.proofs.Common.{◌≡◌, sym, ap, subst, refl, ℕ, ◌+◌, ◌≤◌, ◌==◌, Bool, false, List, [], length, drop}
use Rattle.std.proofs.Common.{Option, Some, None, Result, Ok, Err, IfOk, IfSome, arith}
use Rattle.std.specs.Option.{option_map}
use Rattle.etherparse.specs.base.declared.err.layer.Layer.TheVariants.{Ethernet2Header}
use Rattle.etherparse.specs.base.declared.err.len_error.LenError.{LenError}
use Rattle.etherparse.specs.base.declared.err.slice_error.SliceError.{SliceError as HeaderSliceError}
use Rattle.etherparse.specs.base.declared.len_source.LenSource.{LenSource}
use Rattle.etherparse.specs.base.declared.len_source.LenSource.TheVariants.{Slice}
use Rattle.etherparse.specs.ip.Ipv4.{version_of}
use Rattle.etherparse.specs.ip.declared.err.ipv4.header_error.HeaderError.{HeaderError as Ipv4HeaderFault}
use Rattle.etherparse.specs.ip.declared.err.ipv6.header_error.HeaderError.{HeaderError as Ipv6HeaderFault}
use Rattle.etherparse.specs.ipslice.LaxIp.{StoppedIp, with_lax_ipv4, with_lax_ipv6}
use Rattle.etherparse.specs.ipslice.LaxPackets.{StoppedIpv4, StoppedIpv6, lax_ipv4_packet_at, lax_ipv6_packet_at}
use Rattle.etherparse.specs.ipslice.declared.err.ip.header_error.HeaderError.{HeaderError as IpHeaderFault}
use Rattle.etherparse.specs.link.Ethernet.{ethernet_len, payload_of}
use Rattle.etherparse.specs.link.Frame.{without_fcs}
use Rattle.etherparse.specs.link.Sll.{sll_len}
use Rattle.etherparse.specs.link.SllFault as sll_fault
use Rattle.etherparse.specs.link.SllPayload as sll
use Rattle.etherparse.specs.link.declared.err.linux_sll.header_error.HeaderError.{HeaderError as SllFault}
use Rattle.etherparse.specs.link.declared.link.link_slice.LinkSlice.TheVariants as link
use Rattle.etherparse.specs.packet.LaxSliced.{in_lax_cooked, in_lax_frame, in_lax_linux_sll, in_lax_version}
use Rattle.etherparse.specs.packet.LaxSliced.{lax_packet_of, lax_sliced_ethernet, lax_sliced_ip}
use Rattle.etherparse.specs.packet.LaxSliced.{lax_sliced_linux_sll, no_layers}
use Rattle.etherparse.specs.packet.LaxView.{bounded, lax_named_by}
use Rattle.etherparse.specs.packet.Parts.{IsAt}
use Rattle.etherparse.specs.packet.Tags.{most_tags}
use Rattle.etherparse.specs.packet.declared.lax_sliced_packet.LaxSlicedPacket.{LaxSlicedPacket}
use Rattle.etherparse.specs.tag.Ether.{EtherPayload, LaxEtherPayload, complete_ether}
use Rattle.etherparse.specs.tag.Prefix.{whole_at}
use Rattle.etherparse_structs.specs.LaxParts.{AreLaxPartsOf}
use Rattle.etherparse_structs.proofs.LaxNetParts.{ipv4_stands, ipv6_stands}
use Rattle.etherparse_structs.proofs.LaxPartsLemmas.{in_ipv4, in_ipv6, parts_after, whole_is}
use Rattle.ep_packet.proofs.ClassLemmas.{chosen}
use Rattle.ep_packet.proofs.PartsLemmas.{at_drop}

abbrev IsPart : {E : Type 0} → List ℕ → ℕ → Result LaxSlicedPacket E → Type 0
IsPart bytes link_len r = IfOk r (AreLaxPartsOf bytes link_len)

frame_case : (frame : List ℕ) (r : Result (List ℕ) LenError)
    → whole_at Ethernet2Header ethernet_len frame ≡ r → IsPart frame ethernet_len (in_lax_frame r)
frame_case frame (Ok taken) at =
    let is = whole_is Ethernet2Header ethernet_len frame taken at in
    parts_after frame (drop ethernet_len frame) ethernet_len most_tags
    (Some (link.Ethernet2 (without_fcs taken))) (complete_ether (payload_of taken)) refl
    (ap (drop ethernet_len) is.0) (at_drop ethernet_len frame is.1)
frame_case frame (Err e) at = tt

pub ethernet_parts : (frame : List ℕ) → IsPart frame ethernet_len (lax_sliced_ethernet frame)
ethernet_parts frame = frame_case frame (whole_at Ethernet2Header ethernet_len frame) refl

-- what the protocol of a cooked capture names, if it is an ether type
named : (bytes : List ℕ) (o : Option EtherPayload) → sll.named_payload (sll.payload_of bytes) ≡ o
    → lax_named_by (Some (link.LinuxSll bytes)) None ≡ option_map complete_ether o
named bytes o is = ap (option_map complete_ether) is

nothing_named : (bytes : List ℕ) (bound : Bool × LenSource) (o : Option LaxEtherPayload) → o ≡ None
    → IfSome (option_map (bounded bound) o) (λ p. IsAt bytes (sll_len + 0) p.payload)
nothing_named bytes bound None is = tt
nothing_named bytes bound (Some p) is = grind arith

no_parts : (bytes : List ℕ) → sll.named_payload (sll.payload_of bytes) ≡ None
    → AreLaxPartsOf bytes sll_len (lax_packet_of (Some (link.LinuxSll bytes)) [] (no_layers None))
no_parts bytes none = record {
  tags = tt;
  ether = nothing_named bytes (false, Slice) _ (named bytes None none);
  net = tt;
  transport = tt;
}

named_is : (p : sll.SllPayload) (q : EtherPayload) → sll.named_payload p ≡ Some q → q.payload ≡ p.payload
named_is p q same = grind arith

capture_case : (bytes : List ℕ) (o : Option EtherPayload) → sll_len ≤ length bytes
    → sll.named_payload (sll.payload_of bytes) ≡ o
    → AreLaxPartsOf bytes sll_len (in_lax_linux_sll bytes o)
capture_case bytes None fits none = no_parts bytes none
capture_case bytes (Some p) fits is =
    parts_after bytes (drop sll_len bytes) sll_len most_tags (Some (link.LinuxSll bytes))
    (complete_ether p) (named bytes (Some p) is) (named_is (sll.payload_of bytes) p is) (at_drop sll_len bytes fits)

sll_is : (bytes taken : List ℕ) → sll_fault.whole_at bytes ≡ Ok taken
    → (taken ≡ bytes) × (sll_len ≤ length bytes)
sll_is bytes taken same = grind arith

cooked_case : (bytes : List ℕ) (r : Result (List ℕ) (HeaderSliceError SllFault))
    → sll_fault.whole_at bytes ≡ r → IsPart bytes sll_len (in_lax_cooked r)
cooked_case bytes (Ok taken) at =
    let is = sll_is bytes taken at in
    subst (λ (xs : List ℕ). AreLaxPartsOf bytes sll_len
    (in_lax_linux_sll xs (sll.named_payload (sll.payload_of xs)))) (sym is.0)
    (capture_case bytes (sll.named_payload (sll.payload_of bytes)) is.1 refl)
cooked_case bytes (Err e) at = tt

pub linux_sll_parts : (bytes : List ℕ) → IsPart bytes sll_len (lax_sliced_linux_sll bytes)
linux_sll_parts bytes = cooked_case bytes (sll_fault.whole_at bytes) refl

ipv4_parts : (bytes : List ℕ) (r : Result StoppedIpv4 (HeaderSliceError Ipv4HeaderFault))
    → lax_ipv4_packet_at bytes ≡ r → IsPart bytes 0 (in_lax_version (with_lax_ipv4 r))
ipv4_parts bytes (Ok s) at =
    let layers = in_ipv4 bytes s _ (ipv4_stands bytes s at) in
    record { tags = tt; ether = tt; net = layers.net; transport = layers.transport }
ipv4_parts bytes (Err e) at = tt

ipv6_parts : (bytes : List ℕ) (r : Result StoppedIpv6 (HeaderSliceError Ipv6HeaderFault))
    → lax_ipv6_packet_at bytes ≡ r → IsPart bytes 0 (in_lax_version (with_lax_ipv6 r))
ipv6_parts bytes (Ok s) at =
    let layers = in_ipv6 bytes s _ (ipv6_stands bytes s at) in
    record { tags = tt; ether = tt; net = layers.net; transport = layers.transport }
ipv6_parts bytes (Err e) at = tt

pub ip_parts : (bytes : List ℕ) → IsPart bytes 0 (lax_sliced_ip bytes)
ip_parts bytes =
    let P : Result StoppedIp (HeaderSliceError IpHeaderFault) → Type 0 =
    λ r. IsPart bytes 0 (in_lax_version r) in
    chosen P (length bytes == 0) _ _ tt
    (chosen P (version_of bytes == 4) _ _ (ipv4_parts bytes (lax_ipv4_packet_at bytes) refl)
    (chosen P (version_of bytes == 6) _ _ (ipv6_parts bytes (lax_ipv6_packet_at bytes) refl) tt))
