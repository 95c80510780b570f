-- The offsets of faults in headers, as far as these are there, lie within the bytes.
use Rattle.std.proofs.Common.{◌≡◌, ◌∙◌, ap, sym, subst, refl, ℕ, ◌+◌, ◌≤◌, ◌<◌, ◌^◌, List, length, map, Option, Some, None}
use Rattle.std.proofs.Common.{Result, Ok, Err, IfSome, arith}
use Rattle.std.specs.Option.{option_map}
use Rattle.std.specs.Prelude.{unwrap_or}
use Rattle.ep_base.specs.SliceError.{CanMove}
use Rattle.ep_base.specs.declared.err.layer.Layer.TheVariants as layer
use Rattle.ep_base.specs.declared.err.slice_error.SliceError.{SliceError as HeaderSliceError}
use Rattle.ep_ip.specs.declared.err.ipv4.header_error.HeaderError.{HeaderError as Ipv4HeaderFault}
use Rattle.ep_ip.specs.declared.err.ipv6.header_error.HeaderError.{HeaderError as Ipv6HeaderFault}
use Rattle.ep_ipslice.specs.LaxPackets.{StoppedIpv4, lax_ipv4_packet_at}
use Rattle.ep_packet.specs.LaxFits.{Moves, TagsFit}
use Rattle.ep_packet.specs.LaxIpHeadersAt.{LaxIpv6Headers, lax_ipv6_headers_at}
use Rattle.ep_packet.specs.LaxPacketHeaders.{LaxHeaderLayers, in_lax_ipv6_headers, lax_headers_in, lax_ipv4_headers}
use Rattle.ep_packet.specs.LaxPacketHeaders.{lax_after_tags, lax_headers_after, lax_headers_tagged, lax_last_of}
use Rattle.ep_packet.specs.LaxPacketHeaders.{lax_named_after, no_lax_headers, or_else}
use Rattle.ep_packet.specs.LaxPayload.{lax_payload_parsed}
use Rattle.ep_packet.specs.LaxSliced.{first_stop, lax_ipv4_layers, of_ipv6_header}
use Rattle.ep_packet.specs.LaxTags.{LaxTagged, Stop, lax_tags_in, stop_by}
use Rattle.ep_packet.specs.SliceFault.{fault_offset}
use Rattle.ep_packet.specs.Tags.{most_tags}
use Rattle.ep_packet.specs.declared.lax_payload_slice.LaxPayloadSlice.{LaxPayloadSlice}
use Rattle.ep_packet.specs.declared.net.net_headers.NetHeaders.{NetHeaders}
use Rattle.ep_packet.specs.declared.transport.transport_header.TransportHeader.{TransportHeader}
use Rattle.ep_packet.proofs.LaxLayersLemmas.{Ipv4Moves, exts_moves, ipv4_moves, some_later, transport_moves}
use Rattle.ep_link.specs.declared.link.link_header.LinkHeader.{LinkHeader}
use Rattle.ep_tag.specs.Ether.{EtherPayload, LaxEtherPayload, complete_ether}
use Rattle.ep_tag.specs.LinkExt.{lax_fields_of}
use Rattle.ep_tag.specs.declared.link.link_ext_header.LinkExtHeader.{LinkExtHeader}

-- headers of these parts
abbrev pub header_layers_of : Option NetHeaders → Option TransportHeader → Option LaxPayloadSlice → Option Stop
    → LaxHeaderLayers
header_layers_of net transport payload stop = record {
  net = net;
  transport = transport;
  payload = option_map lax_payload_parsed payload;
  stop = stop;
}

stop_is : (size : ℕ) (l whole : LaxHeaderLayers) → l ≡ whole → IfSome whole.stop (Moves size)
    → IfSome l.stop (Moves size)
stop_is size l whole is = subst (λ (x : LaxHeaderLayers). IfSome x.stop (Moves size)) (sym is)

-- of version 4 they are those of the slices
ipv4_same : (r : Result StoppedIpv4 (HeaderSliceError Ipv4HeaderFault))
    → (lax_ipv4_layers r).stop ≡ (lax_ipv4_headers r).stop
ipv4_same (Ok s) = refl
ipv4_same (Err e) = refl

pub ipv4_headers_move : Ipv4Moves → (bytes : List ℕ) (l : LaxHeaderLayers)
    → l ≡ lax_ipv4_headers (lax_ipv4_packet_at bytes) → IfSome l.stop (Moves (length bytes))
ipv4_headers_move law bytes l is = stop_is (length bytes) l _ is
    (subst (λ (o : Option Stop). IfSome o (Moves (length bytes)))
    (ipv4_same (lax_ipv4_packet_at bytes))
    (ipv4_moves law bytes (lax_ipv4_packet_at bytes) refl))

-- of version 6
pub ipv6_headers_move : (size : ℕ) (h : LaxIpv6Headers) (l : LaxHeaderLayers) → h.len ≤ size
    → ((n : ℕ) → size + n < 2 ^ 64 → IfSome h.parts.stop (λ f. CanMove f.0 n))
    → l ≡ in_lax_ipv6_headers h → IfSome l.stop (Moves size)
ipv6_headers_move size h l fits moves is = stop_is size l _ is
    (transport_moves size h.len h.parts.payload.1 _ fits (exts_moves size h.parts.stop moves))

fault_moves : (bytes : List ℕ) (e : HeaderSliceError Ipv6HeaderFault) (n : ℕ)
    → Err e ≡ lax_ipv6_headers_at bytes → length bytes + n < 2 ^ 64
    → fault_offset (of_ipv6_header e) + n < 2 ^ 64
fault_moves bytes e n is fits = grind arith

pub ipv6_fault_moves : (bytes : List ℕ) (e : HeaderSliceError Ipv6HeaderFault) (l : LaxHeaderLayers)
    → Err e ≡ lax_ipv6_headers_at bytes
    → l ≡ no_lax_headers (Some (of_ipv6_header e, layer.Ipv6Header))
    → IfSome l.stop (Moves (length bytes))
ipv6_fault_moves bytes e l found is =
    stop_is (length bytes) l _ is (λ n fits. fault_moves bytes e n found fits)

-- where nothing is named, nothing stopped
layers_case : (size link_len len : ℕ) (last : Option LaxEtherPayload) (l : LaxHeaderLayers)
    → IfSome last (λ p. len + length p.payload ≤ size) → l ≡ lax_headers_in last
    → IfSome last (λ p. IfSome l.stop (Moves (length p.payload))) → link_len + size < 2 ^ 64
    → IfSome l.stop (λ s. fault_offset s.0 + (link_len + len) < 2 ^ 64)
layers_case size link_len len None l fits is moves most = subst
    (λ (x : LaxHeaderLayers). IfSome x.stop (λ s. fault_offset s.0 + (link_len + len) < 2 ^ 64))
    (sym is) tt
layers_case size link_len len (Some p) l fits is moves most =
    some_later size link_len len l.stop (length p.payload) moves fits most

-- the offset of a fault after the tags can be counted from the start of the frame
pub headers_later : (size link_len : ℕ) (t : LaxTagged) (l : LaxHeaderLayers) → TagsFit size t
    → l ≡ lax_headers_in t.last → IfSome t.last (λ p. IfSome l.stop (Moves (length p.payload)))
    → link_len + size < 2 ^ 64
    → IfSome l.stop (λ s. fault_offset s.0 + (link_len + t.len) < 2 ^ 64)
headers_later size link_len t l fits is moves most =
    layers_case size link_len t.len t.last l fits.last is moves most

-- the first of two faults, as it is found
pub some_first : (moved first : Option Stop) (later : Option Stop) (s : Stop) → moved ≡ first
    → moved ≡ Some s → Some s ≡ first_stop first later
some_first moved first later s is some = rw (sym is ∙ some) refl

pub none_first : (moved first found later : Option Stop) → moved ≡ first → moved ≡ None
    → found ≡ later → found ≡ first_stop first later
none_first moved first found later is none same = rw (sym is ∙ none) same

or_else_is : (o : Option LaxPayloadSlice) (d : LaxPayloadSlice)
    → lax_payload_parsed (unwrap_or o d) ≡ or_else (option_map lax_payload_parsed o) (lax_payload_parsed d)
or_else_is None d = refl
or_else_is (Some p) d = refl

-- what was read of tags and layers
pub tagged_is : (link_len : ℕ) (link : Option LinkHeader) (p : EtherPayload) (from : LaxEtherPayload)
    (t : LaxTagged) (l : LaxHeaderLayers) (payload : Option LaxPayloadSlice)
    (after found : LaxPayloadSlice) (exts : List LinkExtHeader) (stop : Option Stop)
    → from ≡ complete_ether p → t ≡ lax_tags_in most_tags from → l ≡ lax_headers_in t.last
    → exts ≡ map lax_fields_of t.tags → option_map lax_payload_parsed payload ≡ l.payload
    → lax_payload_parsed after
    ≡ lax_after_tags t.tags (lax_named_after (complete_ether p) (lax_last_of t.tags))
    → found ≡ unwrap_or payload after
    → stop ≡ first_stop (option_map (stop_by link_len) t.stop)
    (option_map (stop_by (link_len + t.len)) l.stop) →
    record {
      link = link;
      link_exts = exts;
      net = l.net;
      transport = l.transport;
      payload = lax_payload_parsed found;
      stop = stop;
    } ≡ lax_headers_after link_len link p
tagged_is link_len link p from t l payload after found exts stop complete tags layers fields held below
    unwrapped stopped =
    let payload_is : lax_payload_parsed found ≡ or_else l.payload
    (lax_after_tags t.tags (lax_named_after (complete_ether p) (lax_last_of t.tags))) =
    ap lax_payload_parsed unwrapped ∙ or_else_is payload after
    ∙ (λ i. or_else (held i) (below i)) in
    let read : t ≡ lax_tags_in most_tags (complete_ether p) =
    tags ∙ ap (lax_tags_in most_tags) complete in
    (λ i. record {
      link = link;
      link_exts = fields i;
      net = l.net;
      transport = l.transport;
      payload = payload_is i;
      stop = stopped i;
    })
    ∙ ap (lax_headers_tagged link_len link (complete_ether p) t) layers
    ∙ ap (λ (g : LaxTagged). lax_headers_tagged link_len link (complete_ether p) g (lax_headers_in g.last)) read
