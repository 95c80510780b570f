-- The offsets of the parts of a frame.
use Rattle.std.proofs.Common.{◌≡◌, ℕ, zero, suc, ◌+◌, ◌*◌, ◌≤◌, ◌==◌, ◌&&◌, not, Bool, true, false, cond, List, [], ◌∷◌, ◌++◌}
use Rattle.std.proofs.Common.{length, take, drop, Option, Some, None, Result, Ok, Err, IfOk, IfSome, arith, refl, sym, ap}
use Rattle.std.proofs.Common.{subst, ◌∙◌, append_assoc, length-append}
use Rattle.std.specs.Prelude.{MatchResult, if◌then◌else◌, nat_lt, option_map, unwrap_or}
use Rattle.std.proofs.lemmas.Bool.{ltb-false}
use Rattle.std.proofs.lemmas.List.{take-append-drop, append-nil, length-take-le}
use Rattle.std.specs.Result.{result_flatten, result_map_both}
use Rattle.ep_base.specs.LenError.{too_few_bytes}
use Rattle.ep_base.specs.declared.err.layer.Layer.{Layer}
use Rattle.ep_base.specs.declared.err.layer.Layer.TheVariants.{Ethernet2Header, MacsecPacket, VlanHeader}
use Rattle.ep_base.specs.declared.err.len_error.LenError.{LenError}
use Rattle.ep_base.specs.declared.err.slice_error.SliceError.{SliceError as HeaderSliceError}
use Rattle.ep_base.specs.declared.err.slice_error.SliceError.TheVariants as header_error
use Rattle.ep_base.specs.declared.len_source.LenSource.{LenSource}
use Rattle.ep_ext.specs.Ipv4Exts.{auth_bytes}
use Rattle.ep_ext.specs.Value.{bytes_of}
use Rattle.ep_icmp.specs.Icmpv4.{is_timestamp_reply, is_timestamp_request}
use Rattle.ep_icmp.specs.Icmpv4Fault as icmpv4_fault
use Rattle.ep_icmp.specs.Icmpv6Fault as icmpv6_fault
use Rattle.ep_ipslice.specs.Packet.{Ipv4Packet, Ipv6Packet, IsIpv4Packet, IsIpv6Packet}
use Rattle.ep_link.specs.Ethernet.{ethernet_len}
use Rattle.ep_link.specs.Frame.{EthernetFrame, frame_at, without_fcs}
use Rattle.ep_packet.specs.Parts.{AreTagsAt, IsAt, IsTagAt, LayersIn, StandAt, TagsIn, macsec_bytes, tags_len}
use Rattle.ep_packet.specs.Parts.{transport_bytes}
use Rattle.ep_packet.specs.Readable.{ReadMessage, icmpv4, icmpv6, message_at, tcp, tcp_fault, udp}
use Rattle.ep_packet.specs.Readable.ReadMessage.{Icmpv4, Icmpv6, Tcp, Udp}
use Rattle.ep_packet.specs.SliceFault.{fault_offset, offset_by, within}
use Rattle.ep_packet.specs.Sliced.{read_transport, transport_of}
use Rattle.ep_packet.specs.Tags.{is_macsec_type, tag_at, tags_from, no_tags}
use Rattle.ep_packet.specs.declared.err.packet.slice_error.SliceError.{SliceError}
use Rattle.ep_packet.specs.declared.err.packet.slice_error.SliceError.TheVariants as error
use Rattle.ep_packet.specs.declared.net.net_slice.NetSlice.TheVariants as net
use Rattle.ep_packet.specs.declared.transport.transport_slice.TransportSlice.{TransportSlice}
use Rattle.ep_packet.proofs.FaultLemmas.{offset_moved}
use Rattle.ep_packet.proofs.TagsLemmas.{Found, found_in, macsec_tag, stop_at_start, vlan_tag}
use Rattle.ep_tag.specs.Ether.{EtherPayload}
use Rattle.ep_tag.specs.Prefix.{whole_at}
use Rattle.ep_tag.specs.LinkExt.{payload_after, tag_len}
use Rattle.ep_tag.specs.Macsec.{header_len_of, is_unmodified, short_len_of}
use Rattle.ep_tag.specs.MacsecFault.{header_at}
use Rattle.ep_tag.specs.MacsecPayload.{Macsec, MacsecPayload, Modified, Unmodified, bytes_under}
use Rattle.ep_tag.specs.MacsecPayload.{named_payload, payload_len_of, payload_under}
use Rattle.ep_tag.specs.Vlan.{is_vlan_type, payload_of, vlan_len}
use Rattle.ep_tag.specs.declared.err.macsec.header_error.HeaderError.{HeaderError}
use Rattle.ep_tag.specs.declared.link.link_ext_slice.LinkExtSlice.{LinkExtSlice}
use Rattle.ep_tag.specs.declared.link.link_ext_slice.LinkExtSlice.TheVariants as tag
use Rattle.ep_tcpudp.specs.Tcp.{data_offset_of}
use Rattle.ep_tcpudp.specs.TcpFault.{segment_at}
use Rattle.ep_tcpudp.specs.Udp.{length_of}
use Rattle.ep_tcpudp.specs.UdpFault.{udp_at}
use Rattle.ep_packet.proofs.ClassLemmas.{chosen}

-- a part of a part is a part of the whole
pub at_in : (bytes part sub : List ℕ) (p q : ℕ) → IsAt bytes p part → IsAt part q sub
    → IsAt bytes (p + q) sub
at_in bytes part sub p q outer inner = record {
  before = outer.before ++ inner.before;
  after = inner.after ++ outer.after;
  here = omega (arith, length-append outer.before inner.before, outer.here, inner.here);
  parts = grind (arith, append_assoc);
}

pub at_whole : (bytes : List ℕ) → IsAt bytes 0 bytes
at_whole bytes = record { before = []; after = []; here = refl; parts = sym (append-nil bytes) }

pub at_take : (n : ℕ) (bytes : List ℕ) → IsAt bytes 0 (take n bytes)
at_take n bytes =
    record {
      before = [];
      after = drop n bytes;
      here = refl;
      parts = sym (take-append-drop n bytes);
    }

pub at_drop : (n : ℕ) (bytes : List ℕ) → n ≤ length bytes → IsAt bytes n (drop n bytes)
at_drop n bytes fits =
    record {
      before = take n bytes;
      after = [];
      here = length-take-le n bytes fits;
      parts = grind (arith, append-nil, take-append-drop);
    }

pub at_fits : (bytes part : List ℕ) (p : ℕ) → IsAt bytes p part → p + length part ≤ length bytes
at_fits bytes part p at = grind (arith, length-append)

at_prefix : (bytes part sub : List ℕ) (p : ℕ) → IsAt bytes p part
    → IsAt part 0 sub → IsAt bytes p sub
at_prefix bytes part sub p outer inner = let sum : p + 0 ≡ p = omega arith in
    grind (arith, at_in)

-- a part after so many of the bytes
pub at_parts : (bytes before part after : List ℕ) (position : ℕ) → length before ≡ position
    → bytes ≡ before ++ part ++ after → IsAt bytes position part
at_parts bytes before part after position here parts = grind arith

-- the same offset, as another sum
pub at_same_position : (bytes part : List ℕ) (p q : ℕ) → p ≡ q → IsAt bytes p part → IsAt bytes q part
at_same_position bytes part p q same at = subst (λ (n : ℕ). IsAt bytes n part) same at

-- all bytes are taken, of which there are enough
pub whole_is : (layer : Layer) (n : ℕ) (bytes taken : List ℕ) → Ok taken ≡ whole_at layer n bytes
    → (taken ≡ bytes) × (n ≤ length bytes)
whole_is layer n bytes taken same = grind arith

-- all bytes are taken as a frame without frame check sequence
pub frame_is : (bytes : List ℕ) (frame : EthernetFrame) → Ok frame ≡ frame_at bytes
    → (frame ≡ without_fcs bytes) × (ethernet_len ≤ length bytes)
    × (whole_at Ethernet2Header ethernet_len bytes ≡ Ok bytes)
frame_is bytes frame same = grind arith

-- a tag at the start of some bytes, and what follows it
record TagIn (bytes : List ℕ) (t : LinkExtSlice) : Type 0 where
  tag : IsTagAt bytes 0 t
  next : IfSome (payload_after t) (λ next. IsAt bytes (tag_len t) next.payload)

-- a VLAN tag
vlan_in : (layer : Layer) (bytes vlan : List ℕ) → Ok vlan ≡ whole_at layer vlan_len bytes
    → TagIn bytes (tag.Vlan vlan)
vlan_in layer bytes vlan same =
    let whole = whole_is layer vlan_len bytes vlan same in
    subst (λ (xs : List ℕ). TagIn bytes (tag.Vlan xs)) (sym whole.0)
    (record { tag = at_whole bytes; next = at_drop vlan_len bytes whole.1 })

named_in : (bytes header : List ℕ) (p : MacsecPayload) → IsAt bytes (length header) (macsec_bytes p)
    → IfSome (named_payload p) (λ next. IsAt bytes (length header) next.payload)
named_in bytes header (Unmodified p) at = at
named_in bytes header (Modified payload) at = tt

under_at : (header rest : List ℕ) → IsAt rest 0 (macsec_bytes (payload_under header (bytes_under header rest)))
under_at header rest =
    let here = chosen (IsAt rest 0) (short_len_of header == 0) _ _ (at_whole rest)
    (at_take (payload_len_of header) rest) in
    chosen (λ (p : MacsecPayload). IsAt rest 0 (macsec_bytes p)) (is_unmodified header) _ _ here here

header_is : (bytes header : List ℕ) → header_at bytes ≡ Ok header
    → (header ≡ take (header_len_of bytes) bytes) × (header_len_of bytes ≤ length bytes)
header_is bytes header at = grind (arith, ltb-false)

-- what `macsec_at` makes of a header and the bytes after it
abbrev macsec_with : List ℕ → List ℕ → Result Macsec (HeaderSliceError HeaderError)
macsec_with header rest = if nat_lt (length rest) (payload_len_of header)
    then Err (header_error.Len (too_few_bytes MacsecPacket (length header + payload_len_of header)
    (length header + length rest)))
    else Ok (record { header = header; payload = payload_under header (bytes_under header rest) })

abbrev macsec_after : List ℕ → Result (List ℕ) (HeaderSliceError HeaderError)
    → Result Macsec (HeaderSliceError HeaderError)
macsec_after bytes h = result_flatten (result_map_both
    (λ (header : List ℕ). macsec_with header (drop (length header) bytes)) (λ e. e) h)

macsec_in : (bytes header : List ℕ) → header_at bytes ≡ Ok header
    → IfOk (macsec_tag (macsec_with header (drop (length header) bytes))) (λ o. IfSome o (TagIn bytes))
macsec_in bytes header at =
    let is = header_is bytes header at in
    let size : length header ≤ length bytes =
    omega (arith, ap length is.0, length-take-le (header_len_of bytes) bytes is.1, is.1) in
    let rest : List ℕ = drop (length header) bytes in
    let payload : MacsecPayload = payload_under header (bytes_under header rest) in
    let front : IsAt bytes 0 header =
    subst (IsAt bytes 0) (sym is.0) (at_take (header_len_of bytes) bytes) in
    let inside : IsAt bytes (length header) (macsec_bytes payload) =
    at_prefix bytes rest (macsec_bytes payload) (length header) (at_drop (length header) bytes size)
    (under_at header rest) in
    let here : TagIn bytes (tag.Macsec (record { header = header; payload = payload })) = record {
      tag = (
        front,
        at_same_position bytes (macsec_bytes payload) (length header) (0 + length header) (omega arith) inside,
      );
      next = named_in bytes header payload inside;
    } in
    chosen (λ (r : Result Macsec (HeaderSliceError HeaderError)). IfOk (macsec_tag r) (λ o. IfSome o (TagIn bytes)))
    (nat_lt (length rest) (payload_len_of header)) _ _ tt here

macsec_case : (bytes : List ℕ) (h : Result (List ℕ) (HeaderSliceError HeaderError)) → header_at bytes ≡ h
    → IfOk (macsec_tag (macsec_after bytes h)) (λ o. IfSome o (TagIn bytes))
macsec_case bytes (Ok header) at = macsec_in bytes header at
macsec_case bytes (Err e) at = tt

vlan_case : (bytes : List ℕ) (r : Result (List ℕ) LenError) → whole_at VlanHeader vlan_len bytes ≡ r
    → IfOk (vlan_tag r) (λ o. IfSome o (TagIn bytes))
vlan_case bytes (Ok vlan) at = vlan_in VlanHeader bytes vlan (sym at)
vlan_case bytes (Err e) at = tt

tag_in : (p : EtherPayload) → IfOk (tag_at p) (λ o. IfSome o (TagIn p.payload))
tag_in p =
    let P : Result (Option LinkExtSlice) SliceError → Type 0 = λ r. IfOk r (λ o. IfSome o (TagIn p.payload)) in
    chosen P (is_vlan_type p.ether_type) _ _
    (vlan_case p.payload (whole_at VlanHeader vlan_len p.payload) refl)
    (chosen P (is_macsec_type p.ether_type) _ _ (macsec_case p.payload (header_at p.payload) refl) tt)

-- IP packets
pub stand_in : (bytes header exts payload padding : List ℕ)
    → bytes ≡ header ++ exts ++ payload ++ padding → StandAt bytes 0 header exts payload
stand_in bytes header exts payload padding parts = (
  at_parts bytes [] header (exts ++ payload ++ padding) 0 refl
      (parts ∙ ap (λ (xs : List ℕ). xs ++ padding) (append_assoc header exts payload)
      ∙ append_assoc header (exts ++ payload) padding),
  grind (arith, at_parts, append_assoc),
  grind (arith, at_parts, length-append),
)

-- the message in the payload of a packet
message_in : (bytes header exts payload : List ℕ) (o : Option TransportSlice)
    → StandAt bytes 0 header exts payload → IfSome o (λ t. IsAt payload 0 (transport_bytes t)) →
    IfSome o (λ t. IsAt bytes (0 + (length header + length exts)) (transport_bytes t))
message_in bytes header exts payload None stands at = tt
message_in bytes header exts payload (Some t) stands at =
    at_prefix bytes payload (transport_bytes t) (0 + (length header + length exts))
    (at_same_position bytes payload _ (0 + (length header + length exts)) (omega arith) stands.2) at

pub layers_in_ipv4 : (bytes : List ℕ) (packet : Ipv4Packet) (o : Option TransportSlice)
    → IsIpv4Packet bytes packet → IfSome o (λ t. IsAt packet.payload 0 (transport_bytes t)) →
    LayersIn bytes 0 (record { net = Some (net.Ipv4 packet); transport = o })
layers_in_ipv4 bytes packet o is at =
    let stands = stand_in bytes packet.header
    (auth_bytes packet.auth) packet.payload is.padding is.cut in
    record {
      net = stands;
      transport = message_in bytes packet.header (auth_bytes packet.auth) packet.payload o stands at;
    }

pub layers_in_ipv6 : (bytes : List ℕ) (packet : Ipv6Packet) (o : Option TransportSlice)
    → IsIpv6Packet bytes packet
    → IfSome o (λ t. IsAt packet.payload.payload 0 (transport_bytes t)) →
    LayersIn bytes 0 (record { net = Some (net.Ipv6 packet); transport = o })
layers_in_ipv6 bytes packet o is at =
    let payload = packet.payload.payload in
    let same : bytes_of is.pieces ≡ packet.exts.slice =
    cc is.exts in
    let stands = stand_in bytes packet.header packet.exts.slice payload is.padding
    (is.cut ∙ ap (λ (xs : List ℕ). packet.header ++ xs ++ payload ++ is.padding) same) in
    record {
      net = stands;
      transport = message_in bytes packet.header packet.exts.slice payload o stands at;
    }

-- what is read of a message is a prefix of the bytes, and its fault is at offset 0
abbrev Reads : {E : Type 0} → List ℕ → (E → SliceError) → Result (List ℕ) E → Type 0
Reads bytes fault r = MatchResult r (IsAt bytes 0) (λ e. fault_offset (fault e) ≡ 0)

guarded : {E : Type 0} (bytes : List ℕ) (fault : E → SliceError) (b : Bool) (e : E)
    (r : Result (List ℕ) E) → fault_offset (fault e) ≡ 0 → Reads bytes fault r
    → Reads bytes fault (cond b (Err e) r)
guarded bytes fault true e r prefix reads = prefix
guarded bytes fault false e r prefix reads = reads

abbrev of_len : LenError → SliceError
of_len e = error.Len e

icmpv4_reads : (bytes : List ℕ) → Reads bytes of_len (icmpv4_fault.message_at bytes)
icmpv4_reads bytes =
    guarded bytes of_len (nat_lt (length bytes) 8) _ _ refl
    (guarded bytes of_len (is_timestamp_request bytes && not (length bytes == 20)) _ _ refl
    (guarded bytes of_len (is_timestamp_reply bytes && not (length bytes == 20)) _ _ refl
    (at_whole bytes)))

icmpv6_reads : (bytes : List ℕ) → Reads bytes of_len (icmpv6_fault.message_at bytes)
icmpv6_reads bytes = guarded bytes of_len (nat_lt (length bytes) 8) _ _ refl (at_whole bytes)

tcp_reads : (bytes : List ℕ) → Reads bytes tcp_fault (segment_at bytes)
tcp_reads bytes =
    guarded bytes tcp_fault (nat_lt (length bytes) 20) _ _ refl
    (guarded bytes tcp_fault (nat_lt (data_offset_of bytes) 5) _ _ refl
    (guarded bytes tcp_fault (nat_lt (length bytes) (4 * data_offset_of bytes)) _ _ refl
    (at_whole bytes)))

udp_reads : (bytes : List ℕ) → Reads bytes of_len (udp_at bytes)
udp_reads bytes =
    guarded bytes of_len (nat_lt (length bytes) 8) _ _ refl
    (guarded bytes of_len (nat_lt (length bytes) (length_of bytes)) _ _ refl
    (guarded bytes of_len (not (length_of bytes == 0) && nat_lt (length_of bytes) 8) _ _ refl
    (chosen (IsAt bytes 0) (length_of bytes == 0) _ _ (at_whole bytes)
    (at_take (length_of bytes) bytes))))

abbrev MessageIn : List ℕ → Option TransportSlice → Type 0
MessageIn bytes o = IfSome o (λ t. IsAt bytes 0 (transport_bytes t))

abbrev ReadIn : List ℕ → Result ReadMessage SliceError → Type 0
ReadIn bytes r = MatchResult r (λ message. MessageIn bytes (transport_of message))
    (λ e. fault_offset e ≡ 0)

read_in : {E : Type 0} (bytes : List ℕ) (message : List ℕ → ReadMessage) (fault : E → SliceError)
    (r : Result (List ℕ) E) →
    ((m : List ℕ) → IsAt bytes 0 m → MessageIn bytes (transport_of (message m)))
    → Reads bytes fault r → ReadIn bytes (result_map_both message fault r)
read_in bytes message fault (Ok m) each reads = each m reads
read_in bytes message fault (Err e) each reads = reads

message_read : (number : ℕ) (bytes : List ℕ) → ReadIn bytes (message_at number bytes)
message_read number bytes =
    chosen (ReadIn bytes) (number == icmpv4) _ _
    (read_in bytes (λ m. Icmpv4 m) of_len (icmpv4_fault.message_at bytes)
    (λ m at. at) (icmpv4_reads bytes))
    (chosen (ReadIn bytes) (number == tcp) _ _
    (read_in bytes (λ m. Tcp m) tcp_fault (segment_at bytes) (λ m at. at) (tcp_reads bytes))
    (chosen (ReadIn bytes) (number == udp) _ _
    (read_in bytes (λ m. Udp m) of_len (udp_at bytes) (λ m at. at) (udp_reads bytes))
    (chosen (ReadIn bytes) (number == icmpv6) _ _
    (read_in bytes (λ m. Icmpv6 m) of_len (icmpv6_fault.message_at bytes) (λ m at. at)
    (icmpv6_reads bytes)) tt)))

pub fault_at_start : (number : ℕ) (bytes : List ℕ) (outer : LenSource) (e returned : SliceError)
    → Err e ≡ read_transport (message_at number bytes) → returned ≡ within outer e → fault_offset returned
    ≡ 0
fault_at_start number bytes outer e returned same is = grind arith

found_of : (bytes : List ℕ) (r : Result ReadMessage SliceError) (o : Option TransportSlice)
    → ReadIn bytes r → Ok o ≡ read_transport r → MessageIn bytes o
found_of bytes r o read same = grind arith

pub transport_found : (number : ℕ) (bytes payload : List ℕ) (o : Option TransportSlice)
    → Ok o ≡ read_transport (message_at number bytes) → bytes ≡ payload
    → IfSome o (λ t. IsAt payload 0 (transport_bytes t))
transport_found number bytes payload o same is =
    subst (λ (xs : List ℕ). MessageIn xs o) is
    (found_of bytes (message_at number bytes) o (message_read number bytes) same)

-- a part of a part, at this offset in the whole
pub at_later : (frame bytes part : List ℕ) (position p q : ℕ) → position + p ≡ q → IsAt frame position bytes
    → IsAt bytes p part → IsAt frame q part
at_later frame bytes part position p q sum at inner = grind (arith, at_same_position, at_in)

pub tag_later : (frame bytes : List ℕ) (position p q : ℕ) (t : LinkExtSlice) → position + p ≡ q
    → IsAt frame position bytes → IsTagAt bytes p t → IsTagAt frame q t
tag_later frame bytes position p q t sum at here = grind (arith, at_later)

pub tags_later : (frame bytes : List ℕ) (position p q : ℕ) (tags : List LinkExtSlice) → position + p ≡ q
    → IsAt frame position bytes → AreTagsAt bytes p tags → AreTagsAt frame q tags
tags_later frame bytes position p q [] sum at here = tt
tags_later frame bytes position p q (t ∷ tags) sum at here = (
  tag_later frame bytes position p q t sum at here.0,
  tags_later frame bytes position (p + tag_len t)
      (q + tag_len t) tags (omega (arith, sum)) at here.1,
)

tag_fits : (bytes : List ℕ) (t : LinkExtSlice) → TagIn bytes t → tag_len t ≤ length bytes
tag_fits bytes (tag.Vlan vlan) here = omega (arith, at_fits bytes (payload_of vlan).payload vlan_len here.next)
tag_fits bytes (tag.Macsec m) here = omega (arith, at_fits bytes m.header 0 here.tag.0)

last_later : (frame bytes : List ℕ) (position n : ℕ) (last : Option EtherPayload) → IsAt frame position bytes
    → IfSome last (λ q. IsAt bytes n q.payload) → IfSome last (λ q. IsAt frame (position + n) q.payload)
last_later frame bytes position n None at here = tt
last_later frame bytes position n (Some q) at here = at_in frame bytes q.payload position n at here

-- tags and what follows them, in the bytes in which they were found
record TagsFoundIn (bytes : List ℕ) (found : Found) : Type 0 where
  tags : AreTagsAt bytes 0 found.tags
  len : found.len ≡ tags_len found.tags
  size : found.len ≤ length bytes
  last : IfSome found.last (λ q. IsAt bytes found.len q.payload)

further_in : (bytes : List ℕ) (t : LinkExtSlice) (n : ℕ) (next : Option EtherPayload)
    → ((q : EtherPayload) → TagsFoundIn q.payload (found_in n q))
    → IsTagAt bytes 0 t → tag_len t ≤ length bytes → IfSome next (λ q. IsAt bytes (tag_len t) q.payload)
    → let more : Found = unwrap_or (option_map (found_in n) next) (no_tags None None) in
    TagsFoundIn bytes
    (record { tags = t ∷ more.tags; len = tag_len t + more.len; last = more.last; stop = more.stop })
further_in bytes t n None each at fits next =
    record { tags = (at, tt); len = refl; size = omega (arith, fits); last = tt }
further_in bytes t n (Some q) each at fits next =
    let found : Found = found_in n q in
    let more = each q in
    record {
      tags = (
        at,
        tags_later bytes q.payload (tag_len t) 0 (0 + tag_len t) found.tags (omega arith) next more.tags,
      );
      len = omega (arith, more.len);
      size = omega (arith, more.size, at_fits bytes q.payload (tag_len t) next);
      last = last_later bytes q.payload (tag_len t) found.len found.last next more.last;
    }

from_in : (n : ℕ) (p : EtherPayload) (r : Result (Option LinkExtSlice) SliceError)
    → ((q : EtherPayload) → TagsFoundIn q.payload (found_in n q)) → IfOk r (λ o. IfSome o (TagIn p.payload))
    → TagsFoundIn p.payload (tags_from tag_len payload_after (found_in n) p r)
from_in n p (Err e) each here = record { tags = tt; len = refl; size = omega arith; last = tt }
from_in n p (Ok None) each here = record { tags = tt; len = refl; size = omega arith; last = at_whole p.payload }
from_in n p (Ok (Some t)) each here =
    further_in p.payload t n (payload_after t) each here.tag (tag_fits p.payload t here) here.next

tags_found_in : (n : ℕ) (p : EtherPayload) → TagsFoundIn p.payload (found_in n p)
tags_found_in zero p = record { tags = tt; len = refl; size = omega arith; last = at_whole p.payload }
tags_found_in (suc n) p = from_in n p (tag_at p) (tags_found_in n) (tag_in p)

last_from_start : (bytes : List ℕ) (n : ℕ) (last : Option EtherPayload)
    → IfSome last (λ q. IsAt bytes n q.payload) → IfSome last (λ q. IsAt bytes (0 + n) q.payload)
last_from_start bytes n None at = tt
last_from_start bytes n (Some q) at = at_same_position bytes q.payload n (0 + n) (omega arith) at

-- as the code names what was found
pub found_parts : (p : EtherPayload) (found : Found) → found ≡ found_in 3 p
    → TagsIn p.payload 0 (record { tags = found.tags; len = found.len; last = found.last })
found_parts p found is =
    let inside = subst (TagsFoundIn p.payload) (sym is) (tags_found_in 3 p) in
    record {
      tags = inside.tags;
      len = inside.len;
      last = last_from_start p.payload found.len found.last inside.last;
    }

stop_known : (P : SliceError → Type 0) (stop : Option SliceError) (e : SliceError) → IfSome stop P
    → stop ≡ Some e → P e
stop_known P stop e known is = subst (λ (o : Option SliceError). IfSome o P) is known

pub found_stop : (p : EtherPayload) (found : Found) (e : SliceError) → found ≡ found_in 3 p
    → found.stop ≡ Some e
    → (fault_offset e ≡ 0) × (fault_offset (offset_by found.len e) ≤ length p.payload)
found_stop p found e is faulty =
    let inside = subst (TagsFoundIn p.payload) (sym is) (tags_found_in 3 p) in
    let known : IfSome found.stop (λ x. fault_offset x ≡ 0) =
    subst (λ (f : Found). IfSome f.stop (λ x. fault_offset x ≡ 0)) (sym is) (stop_at_start 3 p) in
    let start = stop_known (λ x. fault_offset x ≡ 0) found.stop e known faulty in
    (start, offset_moved e found.len (length p.payload) start inside.size)
