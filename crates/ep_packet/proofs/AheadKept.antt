-- The layers ahead of the fault of a packet are there, as far as the packet is there.
use Rattle.std.proofs.Common.{◌≡◌, ◌∙◌, sym, ap, refl, subst, ℕ, zero, suc, ◌≤◌, ◌==◌, Bool, true, false, List, [], ◌∷◌, ◌++◌}
use Rattle.std.proofs.Common.{length, map}
use Rattle.std.proofs.Common.{MatchOption, Option, Some, None, Result, Ok, Err, IfOk, IsOkAnd, arith}
use Rattle.std.specs.Option.{option_map}
use Rattle.std.proofs.lemmas.Bool.{eqb-true, le-ltb, lt-ltb}
use Rattle.ep_base.specs.declared.err.slice_error.SliceError.{SliceError as HeaderSliceError}
use Rattle.ep_base.specs.declared.link.ether_type.EtherType.{EtherType}
use Rattle.ep_ext.specs.Ipv4Exts.{auth_after}
use Rattle.ep_ext.specs.declared.err.ip_auth.header_error.HeaderError.{HeaderError as AuthFault}
use Rattle.ep_ip.specs.Ipv4.{protocol_of, version_of}
use Rattle.ep_ip.specs.Ipv4Fault as v4
use Rattle.ep_ip.specs.Ipv6.{next_header_of}
use Rattle.ep_ip.specs.Ipv6Fault as v6
use Rattle.ep_ip.specs.declared.err.ipv4.header_error.HeaderError.{HeaderError as Ipv4HeaderFault}
use Rattle.ep_ip.specs.declared.err.ipv6.header_error.HeaderError.{HeaderError as Ipv6HeaderFault}
use Rattle.ep_ipslice.specs.IpSlice as ip_fault
use Rattle.ep_ipslice.specs.Ipv6Packet.{body_of, extensions_of}
use Rattle.ep_ipslice.specs.declared.err.ip.header_error.HeaderError.{HeaderError as IpHeaderFault}
use Rattle.ep_ipslice.specs.declared.net.ip_slice.IpSlice.{IpSlice}
use Rattle.ep_ipslice.specs.declared.net.ip_slice.IpSlice.TheVariants as ip
use Rattle.ep_ipslice.specs.LaxIp.{whole_ip, with_lax_ipv4, with_lax_ipv6}
use Rattle.ep_ipslice.specs.LaxPackets.{lax_ipv4_after, lax_ipv4_body, lax_ipv4_of, lax_ipv4_packet_at, lax_ipv4_with}
use Rattle.ep_ipslice.specs.LaxPackets.{lax_ipv6_after, lax_ipv6_of, lax_ipv6_packet_at}
use Rattle.ep_link.specs.Ethernet.{ethernet_len, payload_of}
use Rattle.ep_link.specs.Frame.{without_fcs}
use Rattle.ep_link.specs.Sll.{sll_len}
use Rattle.ep_link.specs.declared.link.link_slice.LinkSlice.{LinkSlice}
use Rattle.ep_link.specs.declared.link.link_slice.LinkSlice.TheVariants as link
use Rattle.ep_packet.specs.FrameFault.{IsCookedFault, IsEtherTypeFault, IsFaultAfter, IsFrameFault, IsIpPacketFault}
use Rattle.ep_packet.specs.FrameFault.{IsLayersFault}
use Rattle.ep_packet.specs.FrameFault as fault
use Rattle.ep_packet.specs.IsTagged.{AreTags}
use Rattle.ep_packet.specs.LaxSliced.{LaxLayers, in_lax_cooked, in_lax_linux_sll, in_lax_version}
use Rattle.ep_packet.specs.LaxSliced.{lax_ipv4_layers, lax_ipv6_layers, lax_layers_of, lax_packet_after, lax_packet_tagged}
use Rattle.ep_packet.specs.LaxSliced.{lax_sliced_ether_type, lax_sliced_ethernet, lax_sliced_ip, lax_sliced_linux_sll}
use Rattle.ep_packet.specs.LaxTags.{LaxTagged, lax_tags_in}
use Rattle.ep_packet.specs.LaxWhole.{whole_net, whole_tag}
use Rattle.ep_packet.specs.LayersAhead.{HasCookedAhead, HasFrameAhead, HasIpAhead, HasIpv4, HasIpv6, HasLayersAhead, HasNetAhead}
use Rattle.ep_packet.specs.NetSlice.{of_ip}
use Rattle.ep_packet.specs.Parts.{tags_len}
use Rattle.ep_packet.specs.Sliced.{ether_payload, ipv4_type, ipv6_type}
use Rattle.ep_packet.specs.Tags.{Tagged, most_tags}
use Rattle.ep_packet.specs.declared.err.packet.slice_error.SliceError.{SliceError}
use Rattle.ep_packet.specs.declared.lax_sliced_packet.LaxSlicedPacket.{LaxSlicedPacket}
use Rattle.ep_packet.specs.declared.net.lax_net_slice.LaxNetSlice.{LaxNetSlice}
use Rattle.ep_packet.proofs.AheadFrames.{tag_step}
use Rattle.ep_packet.proofs.LaxWholeLemmas.{WholeParts, tags_whole, whole_tags}
use Rattle.ep_packet.proofs.TaggedLaws.{MacsecIsRead, tags_only}
use Rattle.ep_packet.proofs.LaxTagsLemmas.{joined, lax_read_further}
use Rattle.ep_tag.specs.Ether.{EtherPayload, complete_ether}
use Rattle.ep_tag.specs.LinkExt.{payload_after, tag_len}
use Rattle.ep_tag.specs.declared.link.lax_link_ext_slice.LaxLinkExtSlice.{LaxLinkExtSlice}
use Rattle.ep_tag.specs.declared.link.link_ext_slice.LinkExtSlice.{LinkExtSlice}

-- tags, and perhaps others after them
abbrev Begins : List LinkExtSlice → LaxTagged → Type 0
Begins tags all = (more : List LaxLinkExtSlice) × (all.tags ≡ map whole_tag tags ++ more)

after_tag : (n : ℕ) (t : LinkExtSlice) (tags : List LinkExtSlice) (o : Option EtherPayload) (q : EtherPayload)
    → MatchOption o ((tags ≡ []) × (Some q ≡ None)) (λ next. AreTags next tags (Some q))
    → ((next : EtherPayload) → AreTags next tags (Some q) → Begins tags (lax_tags_in n (complete_ether next)))
    → Begins (t ∷ tags) (joined (whole_tag t ∷ []) (tag_len t)
    (lax_read_further (lax_tags_in n) (option_map complete_ether o)))
after_tag n t tags None q are each = cc (are.1)
after_tag n t tags (Some next) q are each =
    let rest = each next are in (rest.0, ap (λ (xs : List LaxLinkExtSlice). whole_tag t ∷ xs) rest.1)

tags_begin : WholeParts → MacsecIsRead → (tags : List LinkExtSlice) (n : ℕ) (p q : EtherPayload)
    → length tags ≤ n → AreTags p tags (Some q) → Begins tags (lax_tags_in n (complete_ether p))
tags_begin whole read [] n p q few are = ((lax_tags_in n (complete_ether p)).tags, refl)
tags_begin whole read (t ∷ tags) zero p q few are = absurd (omega (arith, few))
tags_begin whole read (t ∷ tags) (suc n) p q few are = subst (Begins (t ∷ tags))
    (sym (tag_step whole read n p t are.0)) (after_tag n t tags (payload_after t) q are.1
    (λ next stands. tags_begin whole read tags n next q (omega (arith, few)) stands))

-- what an ether type names
ipv4_layers : (q : EtherPayload) → q.ether_type.0 ≡ ipv4_type
    → lax_layers_of (complete_ether q) ≡ lax_ipv4_layers (lax_ipv4_packet_at q.payload)
ipv4_layers q named = rw named refl

ipv6_layers : (q : EtherPayload) → q.ether_type.0 ≡ ipv6_type
    → lax_layers_of (complete_ether q) ≡ lax_ipv6_layers (lax_ipv6_packet_at q.payload)
ipv6_layers q named = rw named refl

-- the header of an IP packet is there, whatever follows it
ipv4_kept : (bytes header : List ℕ) (r : Result (Option (List ℕ)) (HeaderSliceError AuthFault))
    → HasIpv4 header (lax_ipv4_layers (Ok (lax_ipv4_with bytes header r))).net
ipv4_kept bytes header (Ok auth) = (lax_ipv4_of bytes header auth, refl, refl)
ipv4_kept bytes header (Err e) = (lax_ipv4_of bytes header None, refl, refl)

ipv4_there : (bytes : List ℕ) (r : Result (List ℕ) (HeaderSliceError Ipv4HeaderFault))
    → IfOk r (λ header. HasIpv4 header (lax_ipv4_layers (lax_ipv4_after bytes r)).net)
ipv4_there bytes (Err e) = tt
ipv4_there bytes (Ok header) =
    ipv4_kept bytes header (auth_after (protocol_of header) (lax_ipv4_body bytes header))

ipv6_there : (bytes : List ℕ) (r : Result (List ℕ) (HeaderSliceError Ipv6HeaderFault))
    → IfOk r (λ header. HasIpv6 header (lax_ipv6_layers (lax_ipv6_after bytes r)).net)
ipv6_there bytes (Err e) = tt
ipv6_there bytes (Ok header) = (
  lax_ipv6_of bytes header (extensions_of (next_header_of header) (body_of bytes header)),
  refl,
  refl,
)

has_net : WholeParts → (q : EtherPayload) (e : SliceError) (f : IsLayersFault q.ether_type q.payload e)
    → HasNetAhead q.ether_type q.payload e f (lax_layers_of (complete_ether q)).net
has_net whole q e (fault.InNet (fault.OfIpv4 f named read error)) =
    rw (ipv4_layers q named) (ipv4_there q.payload (v4.header_at q.payload))
has_net whole q e (fault.InNet (fault.OfIpv6 f named is error)) =
    rw (ipv6_layers q named) (ipv6_there q.payload (v6.header_at q.payload))
has_net whole q e (fault.InNet (fault.OfArp f named read error)) = tt
has_net whole q e (fault.InIpv4 packet named read f) = ap (λ (l : LaxLayers). l.net)
    (ipv4_layers q named ∙ ap lax_ipv4_layers (whole.ipv4 q.payload packet read))
has_net whole q e (fault.InIpv6 packet named read f) = ap (λ (l : LaxLayers). l.net)
    (ipv6_layers q named ∙ ap lax_ipv6_layers (whole.ipv6 q.payload packet read))

-- after a link header
has_layers : WholeParts → MacsecIsRead → (n : ℕ) (header : LinkSlice) (p : EtherPayload) (e : SliceError)
    (first : IsFaultAfter IsLayersFault p e) → HasLayersAhead p e first (lax_packet_after n header p)
has_layers whole read n header p e (fault.InTag tags q f few are is error) =
    tags_begin whole read tags most_tags p q (omega (arith, few)) are
has_layers whole read n header p e (fault.InLayers tags q f tagged is error) =
    let t : Tagged = record { tags = tags; len = tags_len tags; last = Some q } in
    let lax : lax_packet_after n header p ≡ lax_packet_tagged n (Some header) (whole_tags t) =
    ap (lax_packet_tagged n (Some header))
    (tags_whole whole most_tags p t (tags_only read tags most_tags (Some q) p tagged)) in (
      ap (λ (x : LaxSlicedPacket). x.link_exts.items) lax,
      subst (λ (o : Option LaxNetSlice). HasNetAhead q.ether_type q.payload f is o)
          (sym (ap (λ (x : LaxSlicedPacket). x.net) lax)) (has_net whole q f is),
    )

pub has_frame : WholeParts → MacsecIsRead → (frame : List ℕ) (e : SliceError) (first : IsFrameFault frame e)
    → HasFrameAhead frame e first (lax_sliced_ethernet frame)
has_frame whole read frame e (fault.InHeader short error) = rw (lt-ltb (length frame) ethernet_len short) refl
has_frame whole read frame e (fault.Following f size after error) = rw (le-ltb (length frame) ethernet_len size)
    (refl, has_layers whole read ethernet_len (link.Ethernet2 (without_fcs frame)) (payload_of frame) f after)

pub has_cooked : WholeParts → MacsecIsRead → (bytes : List ℕ) (e : SliceError) (first : IsCookedFault bytes e)
    → HasCookedAhead bytes e first (lax_sliced_linux_sll bytes)
has_cooked whole read bytes e (fault.InHeader f at error) = ap in_lax_cooked at
has_cooked whole read bytes e (fault.Following p f at named after error) =
    let lax : lax_sliced_linux_sll bytes ≡ Ok (lax_packet_after sll_len (link.LinuxSll bytes) p) =
    ap in_lax_cooked at ∙ ap (λ (o : Option EtherPayload). Ok (in_lax_linux_sll bytes o)) named in
    rw lax (refl, has_layers whole read sll_len (link.LinuxSll bytes) p f after)

pub has_ether_type : WholeParts → MacsecIsRead → (t : EtherType) (bytes : List ℕ) (e : SliceError)
    (first : IsEtherTypeFault t bytes e)
    → HasLayersAhead (ether_payload t bytes) e first (lax_sliced_ether_type t bytes)
has_ether_type whole read t bytes e first =
    has_layers whole read 0 (link.EtherPayload (ether_payload t bytes)) (ether_payload t bytes) e first

message_kept : (packet : IpSlice) → IsOkAnd (in_lax_version (Ok (whole_ip packet, None)))
    (λ found. found.net ≡ Some (whole_net (of_ip packet)))
message_kept (ip.Ipv4 packet) = refl
message_kept (ip.Ipv6 packet) = refl

-- an IP packet of each version
abbrev IpFound : Type 0
IpFound = Result LaxSlicedPacket (HeaderSliceError IpHeaderFault)

ipv4_in : (bytes header : List ℕ) (r : Result (Option (List ℕ)) (HeaderSliceError AuthFault))
    → IsOkAnd (in_lax_version (with_lax_ipv4 (Ok (lax_ipv4_with bytes header r))))
    (λ found. HasIpv4 header found.net)
ipv4_in bytes header (Ok auth) = (lax_ipv4_of bytes header auth, refl, refl)
ipv4_in bytes header (Err e) = (lax_ipv4_of bytes header None, refl, refl)

ipv4_version : (bytes : List ℕ) (r : Result (List ℕ) (HeaderSliceError Ipv4HeaderFault)) → IfOk r (λ header.
    IsOkAnd (in_lax_version (with_lax_ipv4 (lax_ipv4_after bytes r))) (λ found. HasIpv4 header found.net))
ipv4_version bytes (Err e) = tt
ipv4_version bytes (Ok header) =
    ipv4_in bytes header (auth_after (protocol_of header) (lax_ipv4_body bytes header))

ipv6_version : (bytes : List ℕ) (r : Result (List ℕ) (HeaderSliceError Ipv6HeaderFault)) → IfOk r (λ header.
    IsOkAnd (in_lax_version (with_lax_ipv6 (lax_ipv6_after bytes r))) (λ found. HasIpv6 header found.net))
ipv6_version bytes (Err e) = tt
ipv6_version bytes (Ok header) = (
  lax_ipv6_of bytes header (extensions_of (next_header_of header) (body_of bytes header)),
  refl,
  refl,
)

some_bytes : (n : ℕ) (none : Bool) → (suc n == 0) ≡ none → none ≡ false
some_bytes n true is = cc (eqb-true (suc n) 0 is)
some_bytes n false is = refl

of_version_4 : (bytes : List ℕ) → version_of bytes ≡ 4
    → lax_sliced_ip bytes ≡ in_lax_version (with_lax_ipv4 (lax_ipv4_packet_at bytes))
of_version_4 [] version = cc
of_version_4 (b ∷ bytes) version =
    rw (some_bytes (length bytes) (length (b ∷ bytes) == 0) refl, version) refl

of_version_6 : (bytes : List ℕ) → version_of bytes ≡ 6
    → lax_sliced_ip bytes ≡ in_lax_version (with_lax_ipv6 (lax_ipv6_packet_at bytes))
of_version_6 [] version = cc
of_version_6 (b ∷ bytes) version =
    rw (some_bytes (length bytes) (length (b ∷ bytes) == 0) refl, version) refl

pub has_ip : WholeParts → (bytes : List ℕ) (e : SliceError) (first : IsIpPacketFault bytes e)
    → HasIpAhead bytes e first (lax_sliced_ip bytes)
has_ip whole bytes e (fault.InPacket f (ip_fault.NoBytes none is) error) = tt
has_ip whole bytes e (fault.InPacket f (ip_fault.OtherVersion some not4 not6 is) error) = tt
has_ip whole bytes e (fault.InPacket f (ip_fault.OfIpv4 x version read is) error) =
    subst (λ (r : IpFound). IfOk (v4.header_at bytes) (λ header. IsOkAnd r (λ found. HasIpv4 header found.net)))
    (sym (of_version_4 bytes version)) (ipv4_version bytes (v4.header_at bytes))
has_ip whole bytes e (fault.InPacket f (ip_fault.OfIpv6 x version at is) error) =
    subst (λ (r : IpFound). IfOk (v6.header_at bytes) (λ header. IsOkAnd r (λ found. HasIpv6 header found.net)))
    (sym (of_version_6 bytes version)) (ipv6_version bytes (v6.header_at bytes))
has_ip whole bytes e (fault.InMessage packet read f) = rw (whole.ip bytes packet read) (message_kept packet)
