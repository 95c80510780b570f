-- Where a packet is refused, reading as far as the bytes are there stops at the same fault, after the same
-- layers.
use Rattle.std.proofs.Common.{◌≡◌, ◌∙◌, sym, ap, ap₂, refl, subst, ℕ, zero, suc, ◌+◌, ◌<◌, Bool, true, false, List, [], ◌∷◌}
use Rattle.std.proofs.Common.{drop, length, map, MatchOption, Option, Some, None, Result, Ok, Err, arith}
use Rattle.std.specs.Prelude.{if◌then◌else◌, nat_lt, MatchResult}
use Rattle.std.specs.Option.{option_map}
use Rattle.std.proofs.lemmas.Bool.{lt-ltb}
use Rattle.ep_base.proofs.Prefixes.{err_same}
use Rattle.ep_base.specs.LenError.{too_few_bytes}
use Rattle.ep_base.specs.declared.err.layer.Layer.{Layer}
use Rattle.ep_base.specs.declared.err.layer.Layer.TheVariants.{Ethernet2Header, MacsecPacket}
use Rattle.ep_base.specs.declared.err.len_error.LenError.{LenError}
use Rattle.ep_base.specs.declared.err.slice_error.SliceError.{SliceError as HeaderSliceError}
use Rattle.ep_base.specs.declared.err.slice_error.SliceError.TheVariants as slice_error
use Rattle.ep_base.specs.declared.link.ether_type.EtherType.{EtherType}
use Rattle.ep_link.specs.Ethernet.{ethernet_len, payload_of}
use Rattle.ep_link.specs.Frame.{without_fcs}
use Rattle.ep_link.specs.Sll.{sll_len}
use Rattle.ep_link.specs.SllFault as sll_fault
use Rattle.ep_link.specs.SllPayload as sll
use Rattle.ep_link.specs.declared.err.linux_sll.header_error.HeaderError.{HeaderError as SllError}
use Rattle.ep_link.specs.declared.link.link_slice.LinkSlice.{LinkSlice}
use Rattle.ep_link.specs.declared.link.link_slice.LinkSlice.TheVariants as link
use Rattle.ep_packet.specs.FrameFault.{IsTagFault, OfMacsec, OfVlan}
use Rattle.ep_packet.specs.IsTagged.{AreTags, IsTag, IsTagged}
use Rattle.ep_packet.specs.LaxSliced.{in_lax_cooked, in_lax_frame, in_lax_linux_sll, lax_layers_of, lax_packet_after}
use Rattle.ep_packet.specs.LaxSliced.{lax_packet_tagged, lax_sliced_ether_type, lax_sliced_ethernet, lax_sliced_linux_sll}
use Rattle.ep_packet.specs.LaxTags.{LaxTagged, Stop, lax_tag_at, lax_tags_in, stop_by}
use Rattle.ep_packet.specs.LaxWhole.{whole_tag}
use Rattle.ep_packet.specs.LayersAhead.{AreAhead, InLayers, InTag, StopsAfter, StopsCooked, is_passed_over}
use Rattle.ep_packet.specs.LayersAhead.{stopped_packet, tag_layer}
use Rattle.ep_packet.specs.Parts.{tags_len}
use Rattle.ep_packet.specs.SliceFault.{later, of_linux_sll, of_macsec, offset_by}
use Rattle.ep_packet.specs.Sliced.{ether_payload, in_cooked, in_frame, in_linux_sll, layers_in, packet_after}
use Rattle.ep_packet.specs.Sliced.{packet_tagged, sliced_ether_type, sliced_ethernet, sliced_linux_sll}
use Rattle.ep_packet.specs.Tags.{Tagged, most_tags, tags_in}
use Rattle.ep_packet.specs.declared.err.packet.slice_error.SliceError.{SliceError}
use Rattle.ep_packet.specs.declared.err.packet.slice_error.SliceError.TheVariants.{Len}
use Rattle.ep_packet.specs.declared.lax_sliced_packet.LaxSlicedPacket.{LaxSlicedPacket}
use Rattle.ep_packet.specs.declared.net.net_slice.NetSlice.{NetSlice}
use Rattle.ep_packet.specs.declared.sliced_packet.SlicedPacket.{SlicedPacket}
use Rattle.ep_packet.proofs.AheadMessages.{earlier, not_passed}
use Rattle.ep_packet.proofs.AheadNet.{AheadParts, net_stops, stopped_layers}
use Rattle.ep_packet.proofs.FaultLemmas.{moved_nothing, moved_twice}
use Rattle.ep_packet.proofs.FrameFaults.{later_err, with_err}
use Rattle.ep_packet.proofs.LaxWholeLemmas.{WholeParts, len_same, payload_same, tag_whole, tags_whole, whole_tags}
use Rattle.ep_packet.proofs.SlicedLemmas.{sll_whole}
use Rattle.ep_packet.proofs.TagFaults.{tags_first}
use Rattle.ep_packet.proofs.TaggedLaws.{MacsecIsRead, tag_only, tags_found}
use Rattle.ep_packet.proofs.LaxTagsLemmas.{joined, lax_from_tag, lax_read_further, lax_tags_turn}
use Rattle.ep_tag.specs.Ether.{EtherPayload, complete_ether}
use Rattle.ep_tag.specs.LinkExt.{payload_after, tag_len}
use Rattle.ep_tag.specs.MacsecFault as macsec_fault
use Rattle.ep_tag.specs.MacsecLax.{lax_macsec_after, lax_macsec_at}
use Rattle.ep_tag.specs.MacsecPayload.{Macsec, bytes_under, macsec_at, payload_len_of, payload_under}
use Rattle.ep_tag.specs.Vlan.{vlan_len}
use Rattle.ep_tag.specs.declared.err.macsec.header_error.HeaderError.{HeaderError as MacsecFault}
use Rattle.ep_tag.specs.declared.link.link_ext_slice.LinkExtSlice.{LinkExtSlice}

-- a MACsec header that has a fault
macsec_tests : (short : Bool) (required found : ℕ) (m : Macsec) (e : HeaderSliceError MacsecFault)
    → (if short then Err (slice_error.Len (too_few_bytes MacsecPacket required found)) else Ok m) ≡ Err e
    → is_passed_over (of_macsec e) ≡ false → ⊥
macsec_tests true required found m e is over =
    not_passed (of_macsec (slice_error.Len (too_few_bytes MacsecPacket required found))) (of_macsec e) refl
    (ap of_macsec (err_same {A = Macsec} _ _ is)) over
macsec_tests false required found m e is over = cc

macsec_by : (bytes : List ℕ) (r : Result (List ℕ) (HeaderSliceError MacsecFault))
    (e : HeaderSliceError MacsecFault) → macsec_fault.header_at bytes ≡ r → macsec_at bytes ≡ Err e
    → is_passed_over (of_macsec e) ≡ false → lax_macsec_after bytes r ≡ Err e
macsec_by bytes (Err x) e begins fails over =
    let is = rw begins at fails in ap Err (err_same {A = Macsec} _ _ is)
macsec_by bytes (Ok header) e begins fails over =
    let rest : List ℕ = drop (length header) bytes in
    let is = rw begins at fails in
    absurd (macsec_tests (nat_lt (length rest) (payload_len_of header))
    (length header + payload_len_of header) (length header + length rest)
    (record { header = header; payload = payload_under header (bytes_under header rest) }) e is over)

macsec_stops : (bytes : List ℕ) (e : HeaderSliceError MacsecFault) → macsec_at bytes ≡ Err e
    → is_passed_over (of_macsec e) ≡ false → lax_macsec_at bytes ≡ Err e
macsec_stops bytes e is over = macsec_by bytes (macsec_fault.header_at bytes) e refl is over

-- a tag that has a fault
tag_stops : (p : EtherPayload) (e : SliceError) → IsTagFault p e → is_passed_over e ≡ false
    → lax_tag_at (complete_ether p) ≡ Err (e, tag_layer p.ether_type)
tag_stops p e (OfVlan named short error) over =
    rw (named, lt-ltb (length p.payload) vlan_len short, error) refl
tag_stops p e (OfMacsec fault no_vlan named at error) over =
    rw (no_vlan, named, macsec_stops p.payload fault at (ap is_passed_over (sym error) ∙ over), error) refl

-- whole tags, and a fault after them
abbrev stopped_tags : List LinkExtSlice → SliceError → Layer → LaxTagged
stopped_tags tags e layer = record {
  tags = map whole_tag tags;
  len = tags_len tags;
  last = None;
  stop = Some (offset_by (tags_len tags) e, layer);
}

abbrev stopped_by : List LinkExtSlice → ℕ → Layer → SliceError → LaxTagged
stopped_by tags len layer e =
    record { tags = map whole_tag tags; len = len; last = None; stop = Some (e, layer) }

after_tag : (n : ℕ) (t : LinkExtSlice) (tags : List LinkExtSlice) (o : Option EtherPayload)
    (q : EtherPayload) (e : SliceError) (layer : Layer)
    → MatchOption o ((tags ≡ []) × (Some q ≡ None)) (λ next. AreTags next tags (Some q))
    → ((next : EtherPayload) → AreTags next tags (Some q)
    → lax_tags_in n (complete_ether next) ≡ stopped_tags tags e layer)
    → joined (whole_tag t ∷ []) (tag_len t) (lax_read_further (lax_tags_in n) (option_map complete_ether o))
    ≡ stopped_tags (t ∷ tags) e layer
after_tag n t tags None q e layer are each = cc (are.1)
after_tag n t tags (Some next) q e layer are each =
    ap (joined (whole_tag t ∷ []) (tag_len t)) (each next are)
    ∙ ap (stopped_by (t ∷ tags) (tag_len t + tags_len tags) layer) (moved_twice (tag_len t) (tags_len tags) e)

-- a whole tag is read, and then what follows it
pub tag_step : WholeParts → MacsecIsRead → (n : ℕ) (p : EtherPayload) (t : LinkExtSlice) → IsTag p t
    → lax_tags_in (suc n) (complete_ether p) ≡ joined (whole_tag t ∷ []) (tag_len t)
    (lax_read_further (lax_tags_in n) (option_map complete_ether (payload_after t)))
unfolding lax_tags_in
tag_step whole read n p t is =
    lax_tags_turn n (complete_ether p)
    ∙ rw (tag_whole whole p (Some t) (tag_only read p t is), payload_same t, len_same t) refl

tags_stop : WholeParts → MacsecIsRead → (tags : List LinkExtSlice) (n : ℕ) (p q : EtherPayload)
    (e : SliceError) (layer : Layer) → length tags < n → AreTags p tags (Some q)
    → lax_tag_at (complete_ether q) ≡ Err (e, layer)
    → lax_tags_in n (complete_ether p) ≡ stopped_tags tags e layer
unfolding lax_tags_in
tags_stop whole read [] zero p q e layer few are fault = absurd (omega (arith, few))
tags_stop whole read (t ∷ tags) zero p q e layer few are fault = absurd (omega (arith, few))
tags_stop whole read [] (suc n) p q e layer few are fault =
    let same : q ≡ p = cc (are) in
    let here : lax_tag_at (complete_ether p) ≡ Err (e, layer) = rw same at fault in
    lax_tags_turn n (complete_ether p) ∙ ap (lax_from_tag (lax_tags_in n) (complete_ether p)) here
    ∙ ap (stopped_by [] 0 layer) (sym (moved_nothing e))
tags_stop whole read (t ∷ tags) (suc n) p q e layer few are fault = tag_step whole read n p t are.0
    ∙ after_tag n t tags (payload_after t) q e layer are.1
    (λ next stands. tags_stop whole read tags n next q e layer (omega (arith, few)) stands fault)

-- the laws of all layers, as they are called
pub record FrameParts : Type 0 where
  pub ahead : AheadParts
  pub read : MacsecIsRead

stops : (header : LinkSlice) (n : ℕ) (p : EtherPayload) (e : SliceError) (packet : LaxSlicedPacket)
    (tags : List LinkExtSlice) (ahead : Option NetSlice) (stop : Stop) → AreAhead p tags ahead stop
    → e ≡ offset_by n stop.0 → packet ≡ stopped_packet (Some header) tags ahead (stop_by n stop)
    → StopsAfter header n p e packet
stops header n p e packet tags ahead stop layers fault is = record {
  tags = tags;
  ahead = ahead;
  stop = stop;
  layers = layers;
  fault = fault;
  stopped = is ∙ ap (λ (x : SliceError). stopped_packet (Some header) tags ahead (x, stop.1)) (sym fault);
}

tag_faulty : FrameParts → (n : ℕ) (header : LinkSlice) (p : EtherPayload) (x e : SliceError)
    → tags_in most_tags p ≡ Err x → is_passed_over x ≡ false → e ≡ offset_by n x
    → StopsAfter header n p e (lax_packet_after n header p)
tag_faulty law n header p x e read over error =
    let first = tags_first law.read most_tags p x read in
    let stop : Stop = (offset_by (tags_len first.tags) first.fault, tag_layer first.next.ether_type) in
    let here = tag_stops first.next first.fault first.tag
    (earlier (tags_len first.tags) x first.fault first.error over) in
    let lax = tags_stop law.ahead.whole law.read first.tags most_tags p first.next first.fault
    (tag_layer first.next.ether_type) first.few first.are here in
    stops header n p e (lax_packet_after n header p) first.tags None stop
    (InTag first.next first.fault first.few first.are first.tag refl refl)
    (error ∙ ap (offset_by n) first.error) (ap (lax_packet_tagged n (Some header)) lax)

layers_stop : (n : ℕ) (header : LinkSlice) (t : Tagged) (q : EtherPayload) (ahead : Option NetSlice)
    (stop : Stop) → t.last ≡ Some q → t.len ≡ tags_len t.tags
    → lax_layers_of (complete_ether q) ≡ stopped_layers ahead stop
    → lax_packet_tagged n (Some header) (whole_tags t)
    ≡ stopped_packet (Some header) t.tags ahead (stop_by n (stop_by (tags_len t.tags) stop))
layers_stop n header t q ahead stop last len same =
    rw (last, same, len, moved_twice n (tags_len t.tags) stop.0) refl

layers_faulty : FrameParts → (n : ℕ) (header : LinkSlice) (p : EtherPayload) (t : Tagged)
    (o : Option EtherPayload) (x e : SliceError) → tags_in most_tags p ≡ Ok t → t.last ≡ o
    → layers_in o ≡ Err x → is_passed_over x ≡ false → e ≡ offset_by n (offset_by t.len x)
    → StopsAfter header n p e (lax_packet_after n header p)
layers_faulty law n header p t None x e read last is over error = cc
layers_faulty law n header p t (Some q) x e read last is over error =
    let stands = tags_found law.read most_tags p t read in
    let found = net_stops law.ahead q x is over in
    let tagged : IsTagged most_tags p t.tags (Some q) = subst (IsTagged most_tags p t.tags) last stands.tagged in
    let lax : lax_packet_after n header p ≡ lax_packet_tagged n (Some header) (whole_tags t) =
    ap (lax_packet_tagged n (Some header)) (tags_whole law.ahead.whole most_tags p t read) in
    stops header n p e (lax_packet_after n header p) t.tags found.ahead (stop_by (tags_len t.tags) found.stop)
    (InLayers q found.stop tagged found.is refl)
    (error ∙ ap (offset_by n) (ap₂ offset_by stands.len found.error))
    (lax ∙ layers_stop n header t q found.ahead found.stop last stands.len found.same)

packet_stops : FrameParts → (n : ℕ) (header : LinkSlice) (p : EtherPayload) (r : Result Tagged SliceError)
    (f e : SliceError) → tags_in most_tags p ≡ r → packet_tagged (Some header) r ≡ Err f
    → is_passed_over f ≡ false → e ≡ offset_by n f
    → StopsAfter header n p e (lax_packet_after n header p)
packet_stops law n header p (Err x) f e read is over error =
    let same : x ≡ f = err_same {A = SlicedPacket} _ _ is in
    tag_faulty law n header p x e read (ap is_passed_over same ∙ over) (error ∙ ap (offset_by n) (sym same))
packet_stops law n header p (Ok t) f e read is over error =
    let x = later_err t.len (layers_in t.last) f
    (with_err (Some header) t.tags (later t.len (layers_in t.last)) f is) in
    layers_faulty law n header p t t.last x.0 e read refl x.1 (earlier t.len f x.0 x.2 over)
    (error ∙ ap (offset_by n) x.2)

-- a packet is refused after this link header
pub after_link : FrameParts → (n : ℕ) (header : LinkSlice) (p : EtherPayload) (f e : SliceError)
    → packet_after header p ≡ Err f → is_passed_over e ≡ false → e ≡ offset_by n f
    → StopsAfter header n p e (lax_packet_after n header p)
after_link law n header p f e is over error =
    packet_stops law n header p (tags_in most_tags p) f e refl is (earlier n e f error over) error

-- an Ethernet II frame
abbrev EthernetStops : List ℕ → SliceError → Result LaxSlicedPacket LenError → Type 0
EthernetStops frame e r = MatchResult r
    (λ packet. StopsAfter (link.Ethernet2 (without_fcs frame)) ethernet_len (payload_of frame) e packet)
    (λ short. e ≡ Len short)

ethernet_by : FrameParts → (short : Bool) (frame : List ℕ) (x : LenError) (e : SliceError)
    → in_frame (if short then Err x else Ok frame) ≡ Err e → is_passed_over e ≡ false
    → EthernetStops frame e (in_lax_frame (if short then Err x else Ok frame))
ethernet_by law true frame x e is over = sym (err_same {A = SlicedPacket} _ _ is)
ethernet_by law false frame x e is over =
    let header : LinkSlice = link.Ethernet2 (without_fcs frame) in
    let f = later_err ethernet_len (packet_after header (payload_of frame)) e is in
    after_link law ethernet_len header (payload_of frame) f.0 e f.1 over f.2

pub ethernet_stops : FrameParts → (frame : List ℕ) (e : SliceError) → sliced_ethernet frame ≡ Err e
    → is_passed_over e ≡ false → EthernetStops frame e (lax_sliced_ethernet frame)
ethernet_stops law frame e is over = ethernet_by law (nat_lt (length frame) ethernet_len) frame
    (too_few_bytes Ethernet2Header ethernet_len (length frame)) e is over

-- bytes after an ether type
pub ether_type_stops : FrameParts → (t : EtherType) (bytes : List ℕ) (e : SliceError)
    → sliced_ether_type t bytes ≡ Err e → is_passed_over e ≡ false
    → StopsAfter (link.EtherPayload (ether_payload t bytes)) 0 (ether_payload t bytes) e
    (lax_sliced_ether_type t bytes)
ether_type_stops law t bytes e is over =
    let p : EtherPayload = ether_payload t bytes in
    after_link law 0 (link.EtherPayload p) p e e is over (sym (moved_nothing e))

-- a packet of a Linux cooked capture
cooked_by : FrameParts → (bytes : List ℕ) (o : Option EtherPayload) (e : SliceError)
    → sll.named_payload (sll.payload_of bytes) ≡ o → in_linux_sll bytes o ≡ Err e
    → is_passed_over e ≡ false → StopsCooked bytes e (in_lax_linux_sll bytes o)
cooked_by law bytes None e named is over = cc
cooked_by law bytes (Some p) e named is over =
    let header : LinkSlice = link.LinuxSll bytes in
    let f = later_err sll_len (packet_after header p) e is in
    record { p = p; named = named; stops = after_link law sll_len header p f.0 e f.1 over f.2 }

abbrev CookedStops : List ℕ → SliceError → Result LaxSlicedPacket (HeaderSliceError SllError) → Type 0
CookedStops bytes e r = MatchResult r (λ packet. StopsCooked bytes e packet) (λ fault. e ≡ of_linux_sll fault)

cooked_read : FrameParts → (bytes : List ℕ) (r : Result (List ℕ) (HeaderSliceError SllError)) (e : SliceError)
    → sll_fault.whole_at bytes ≡ r → in_cooked r ≡ Err e → is_passed_over e ≡ false
    → CookedStops bytes e (in_lax_cooked r)
cooked_read law bytes (Err x) e read is over = sym (err_same {A = SlicedPacket} _ _ is)
cooked_read law bytes (Ok taken) e read is over =
    let same : taken ≡ bytes = (sll_whole bytes taken (sym read)).0 in
    let here = cooked_by law taken (sll.named_payload (sll.payload_of taken)) e refl is over in
    subst (λ (xs : List ℕ). StopsCooked xs e
    (in_lax_linux_sll taken (sll.named_payload (sll.payload_of taken)))) same here

pub linux_sll_stops : FrameParts → (bytes : List ℕ) (e : SliceError) → sliced_linux_sll bytes ≡ Err e
    → is_passed_over e ≡ false → CookedStops bytes e (lax_sliced_linux_sll bytes)
linux_sll_stops law bytes e is over = cooked_read law bytes (sll_fault.whole_at bytes) e refl is over
