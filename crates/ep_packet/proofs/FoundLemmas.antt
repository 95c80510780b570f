-- The layers of a packet that is found are those in its bytes, and a packet of these layers is found.
use Rattle.std.proofs.Common.{arith, ◌≡◌, ◌≤◌, ◌==◌, ◌∙◌, ◌↔◌, ℕ, suc, Bool, true, false, List, [], ◌∷◌}
use Rattle.std.proofs.Common.{length}
use Rattle.std.proofs.Common.{Option, Some, None, Result, Ok, Err, IfOk, IfSome, refl, sym, ap, subst}
use Rattle.std.proofs.lemmas.Bool.{ltb-false, ltb-true}
use Rattle.std.proofs.lemmas.Result.{IfOk-at_ok}
use Rattle.std.specs.Prelude.{if◌then◌else◌, nat_lt}
use Rattle.ep_base.proofs.Prefixes.{ok_same}
use Rattle.ep_base.specs.LenError.{too_few_bytes}
use Rattle.ep_base.specs.declared.err.layer.Layer.TheVariants.{Ethernet2Header}
use Rattle.ep_base.specs.declared.err.slice_error.SliceError.{SliceError as HeaderSliceError}
use Rattle.ep_base.specs.declared.link.ether_type.EtherType.{EtherType}
use Rattle.ep_ip.specs.Ipv4.{version_of}
use Rattle.ep_ipslice.specs.IpSlice.{IsIpPacket, ip_packet_at}
use Rattle.ep_ipslice.specs.declared.err.ip.headers_error.HeadersError.TheVariants as headers_error
use Rattle.ep_ipslice.specs.declared.err.ip.slice_error.SliceError.{SliceError as IpFault}
use Rattle.ep_ipslice.specs.declared.err.ip.slice_error.SliceError.TheVariants as ip_fault
use Rattle.ep_ipslice.specs.declared.net.ip_slice.IpSlice.{IpSlice}
use Rattle.ep_link.specs.Ethernet.{ethernet_len, payload_of}
use Rattle.ep_link.specs.Frame.{without_fcs}
use Rattle.ep_link.specs.Sll.{sll_len}
use Rattle.ep_link.specs.SllFault.{whole_at as sll_at}
use Rattle.ep_link.specs.SllPayload.{named_payload, payload_of as sll_payload_of}
use Rattle.ep_link.specs.declared.err.linux_sll.header_error.HeaderError.{HeaderError as SllFault}
use Rattle.ep_link.specs.declared.link.link_slice.LinkSlice.{LinkSlice}
use Rattle.ep_link.specs.declared.link.link_slice.LinkSlice.TheVariants as link
use Rattle.ep_packet.specs.SliceFault.{later}
use Rattle.ep_packet.specs.Sliced.{AreIpLayers, IsSliced, IsSlicedIp, Layers, ether_payload, in_cooked, in_frame}
use Rattle.ep_packet.specs.Sliced.{in_linux_sll, ip_layers, layers_in, packet_after, packet_tagged}
use Rattle.ep_packet.specs.Sliced.{packet_with, sliced_ether_type, sliced_ethernet, sliced_ip, sliced_linux_sll}
use Rattle.ep_packet.specs.Tags.{Tagged, most_tags, tags_in}
use Rattle.ep_packet.specs.declared.err.packet.slice_error.SliceError.{SliceError}
use Rattle.ep_packet.specs.declared.sliced_packet.SlicedPacket.{SlicedPacket}
use Rattle.ep_packet.proofs.FrameFaults.{later_nothing}
use Rattle.ep_packet.proofs.SlicedLemmas.{sll_whole}
use Rattle.ep_packet.proofs.TaggedLaws.{MacsecIsRead, Stands, tags_found, tags_only}
use Rattle.ep_tag.specs.Ether.{EtherPayload}
use Rattle.ep_tag.specs.declared.link.link_ext_slice.LinkExtSlice.{LinkExtSlice}

found_with : (header : Option LinkSlice) (p : EtherPayload) (n : ℕ) (t : Tagged)
    (r : Result Layers SliceError) → layers_in t.last ≡ r → Stands most_tags p t →
    IfOk (later n (packet_with header t.tags (later t.len r))) (IsSliced p)
found_with header p n t r same stands = grind arith

found_tagged : MacsecIsRead
    → (header : Option LinkSlice) (p : EtherPayload) (n : ℕ) (r : Result Tagged SliceError)
    → tags_in most_tags p ≡ r → IfOk (later n (packet_tagged header r)) (IsSliced p)
found_tagged law header p n (Ok t) same =
    found_with header p n t (layers_in t.last) refl (tags_found law most_tags p t same)
found_tagged law header p n (Err e) same = tt

linked_with : (header : Option LinkSlice) (tags : List LinkExtSlice) (n m : ℕ)
    (r : Result Layers SliceError) (packet : SlicedPacket)
    → later n (packet_with header tags (later m r)) ≡ Ok packet → packet.link ≡ header
linked_with header tags n m (Ok layers) packet is =
    ap (λ (p : SlicedPacket). p.link) (sym (ok_same _ _ is))
linked_with header tags n m (Err e) packet is = cc

linked_tagged : (header : Option LinkSlice) (n : ℕ) (r : Result Tagged SliceError)
    (packet : SlicedPacket) → later n (packet_tagged header r) ≡ Ok packet → packet.link ≡ header
linked_tagged header n (Ok t) packet is =
    linked_with header t.tags n t.len (layers_in t.last) packet is
linked_tagged header n (Err e) packet is = cc

taken_after : MacsecIsRead → (header : LinkSlice) (p : EtherPayload) (n : ℕ) (packet : SlicedPacket)
    → packet.link ≡ Some header → IsSliced p packet → later n (packet_after header p) ≡ Ok packet
taken_after law header p n packet linked is =
    let layers : Layers = record { net = packet.net; transport = packet.transport } in
    let tags = packet.link_exts.items in
    rw (tags_only law tags most_tags is.last p is.tagged, is.layers, linked) refl

-- what is found after a link header
found_after : MacsecIsRead → (header : LinkSlice) (p : EtherPayload) (n : ℕ) (packet : SlicedPacket)
    → (later n (packet_after header p) ≡ Ok packet)
    ↔ ((packet.link ≡ Some header) × IsSliced p packet)
found_after law header p n packet = (
  λ is. (
    linked_tagged (Some header) n (tags_in most_tags p) packet is,
    IfOk-at_ok (IsSliced p) is (found_tagged law (Some header) p n (tags_in most_tags p) refl),
  ),
  λ are. taken_after law header p n packet are.0 are.1,
)

frame_by : MacsecIsRead → (frame : List ℕ) (short : Bool) (packet : SlicedPacket)
    → nat_lt (length frame) ethernet_len ≡ short
    → (in_frame (if short then Err (too_few_bytes Ethernet2Header ethernet_len (length frame))
    else Ok frame) ≡ Ok packet)
    ↔ ((ethernet_len ≤ length frame) × (packet.link ≡ Some (link.Ethernet2 (without_fcs frame)))
    × IsSliced (payload_of frame) packet)
frame_by law frame true packet size = (
  λ is. cc,
  λ are. absurd (omega (arith, ltb-true (length frame) ethernet_len size, are.0)),
)
frame_by law frame false packet size =
    let header : LinkSlice = link.Ethernet2 (without_fcs frame) in
    let found = found_after law header (payload_of frame) ethernet_len packet in (
      λ is. (ltb-false (length frame) ethernet_len size, (found.0 is).0, (found.0 is).1),
      λ are. found.1 (are.1, are.2),
    )

-- in an Ethernet II frame
pub ethernet_found : MacsecIsRead → (frame : List ℕ) (packet : SlicedPacket)
    → (sliced_ethernet frame ≡ Ok packet)
    ↔ ((ethernet_len ≤ length frame) × (packet.link ≡ Some (link.Ethernet2 (without_fcs frame)))
    × IsSliced (payload_of frame) packet)
ethernet_found law frame packet =
    frame_by law frame (nat_lt (length frame) ethernet_len) packet refl

cooked_named : MacsecIsRead → (bytes : List ℕ) (o : Option EtherPayload) (packet : SlicedPacket)
    → in_linux_sll bytes o ≡ Ok packet → IfSome o (λ p. IsSliced p packet)
cooked_named law bytes None packet is = tt
cooked_named law bytes (Some p) packet is =
    ((found_after law (link.LinuxSll bytes) p sll_len packet).0 is).1

cooked_read : MacsecIsRead → (bytes : List ℕ) (r : Result (List ℕ) (HeaderSliceError SllFault))
    (packet : SlicedPacket) → sll_at bytes ≡ r → in_cooked r ≡ Ok packet
    → IfSome (named_payload (sll_payload_of bytes)) (λ p. IsSliced p packet)
cooked_read law bytes (Ok taken) packet read is =
    subst (λ (xs : List ℕ). IfSome (named_payload (sll_payload_of xs)) (λ p. IsSliced p packet))
    (sll_whole bytes taken (sym read)).0
    (cooked_named law taken (named_payload (sll_payload_of taken)) packet is)
cooked_read law bytes (Err e) packet read is = cc

-- in a packet of a cooked capture, if its protocol is an ether type
pub cooked_found : MacsecIsRead → (bytes : List ℕ) (packet : SlicedPacket)
    → sliced_linux_sll bytes ≡ Ok packet
    → IfSome (named_payload (sll_payload_of bytes)) (λ p. IsSliced p packet)
cooked_found law bytes packet is = cooked_read law bytes (sll_at bytes) packet refl is

-- in the bytes after an ether type
pub ether_type_found : MacsecIsRead → (t : EtherType) (bytes : List ℕ) (packet : SlicedPacket)
    → (sliced_ether_type t bytes ≡ Ok packet)
    ↔ ((packet.link ≡ Some (link.EtherPayload (ether_payload t bytes)))
    × IsSliced (ether_payload t bytes) packet)
ether_type_found law t bytes packet =
    let p : EtherPayload = ether_payload t bytes in
    let found = found_after law (link.EtherPayload p) p 0 packet in (
      λ is. found.0 (later_nothing (packet_after (link.EtherPayload p) p) ∙ is),
      λ are. sym (later_nothing (packet_after (link.EtherPayload p) p)) ∙ found.1 are,
    )

-- the IP packet at the start of bytes, by the law of the crate below
abbrev PacketsAre : List ℕ → Type 0
PacketsAre bytes = (packet : IpSlice) → (ip_packet_at bytes ≡ Ok packet) ↔ IsIpPacket bytes packet

pub some_version : (bytes : List ℕ) (n : ℕ) → version_of bytes ≡ suc n → (length bytes == 0) ≡ false
some_version [] n is = cc
some_version (byte ∷ bytes) n is = grind arith

layers_of : (bytes : List ℕ) → PacketsAre bytes → (r : Result IpSlice IpFault) (layers : Layers)
    → ip_packet_at bytes ≡ r → ip_layers r ≡ Ok layers → AreIpLayers bytes layers
layers_of bytes law (Ok packet) layers read is = record {
  packet = packet;
  begins = (law packet).0 read;
  message = is;
}
layers_of bytes law (Err e) layers read is = cc

ip_sliced : (bytes : List ℕ) → PacketsAre bytes → (r : Result Layers SliceError)
    (packet : SlicedPacket) → ip_layers (ip_packet_at bytes) ≡ r → packet_with None [] r ≡ Ok packet
    → IsSlicedIp bytes packet
ip_sliced bytes law (Ok layers) packet read is =
    (layers, layers_of bytes law (ip_packet_at bytes) layers refl read, sym (ok_same _ _ is))
ip_sliced bytes law (Err e) packet read is = cc

-- in an IP packet with no link header
pub ip_found : (bytes : List ℕ) → PacketsAre bytes → (packet : SlicedPacket)
    → (sliced_ip bytes ≡ Ok packet) ↔ IsSlicedIp bytes packet
ip_found bytes law packet = (
  λ is. ip_sliced bytes law (ip_layers (ip_packet_at bytes)) packet refl is,
  λ are. ap (λ (r : Result IpSlice IpFault). packet_with None [] (ip_layers r))
      ((law are.1.packet).1 are.1.begins)
      ∙ ap (λ (r : Result Layers SliceError). packet_with None [] r) are.1.message
      ∙ ap Ok (sym are.2),
)
