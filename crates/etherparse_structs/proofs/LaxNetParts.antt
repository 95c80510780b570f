-- The parts of a packet of the network layer, as far as it is there, in its bytes.
use Rattle.std.proofs.Common.{◌≡◌, ◌∙◌, sym, ap, subst, refl, ℕ, zero, suc, ◌-◌, ◌*◌, ◌≤◌, ◌==◌, Bool, true, false}
use Rattle.std.proofs.Common.{List, [], ◌∷◌, ◌++◌, length, take, drop, Option, Some, None, Result, Ok, Err, arith, append_assoc}
use Rattle.std.proofs.Common.{length-append}
use Rattle.std.proofs.lemmas.Bool.{ltb-false}
use Rattle.std.proofs.lemmas.List.{append-nil, drop-drop, take-append-drop, take-take}
use Rattle.std.specs.Prelude.{nat_lt, if◌then◌else◌}
use Rattle.std.specs.Option.{option_map, option_map_or}
use Rattle.std.specs.Result.{result_ok, result_map_both}
use Rattle.etherparse.specs.base.Bytes.{num}
use Rattle.etherparse.specs.base.declared.err.slice_error.SliceError.{SliceError}
use Rattle.etherparse.specs.ext.Auth.{auth_at, auth_len}
use Rattle.etherparse.specs.ext.Chain.{prefix_of}
use Rattle.etherparse.specs.ext.Fragment.{fragment_at}
use Rattle.etherparse.specs.ext.Ipv4Exts.{auth_after, auth_bytes}
use Rattle.etherparse.specs.ext.Raw.{raw_at, raw_len}
use Rattle.etherparse.specs.ext.Slot.{Order}
use Rattle.etherparse.specs.ext.Value.{Piece, bytes_of}
use Rattle.etherparse.specs.ext.declared.err.ip_auth.header_error.HeaderError.{HeaderError as AuthFault}
use Rattle.etherparse.specs.ext.declared.err.ipv6_exts.header_error.HeaderError.{HeaderError as ExtsFault}
use Rattle.etherparse.specs.ext.declared.net.ipv6_ext_slot.Ipv6ExtSlot.{Ipv6ExtSlot}
use Rattle.etherparse.specs.ext.declared.net.ipv6_ext_slot.Ipv6ExtSlot.TheVariants as slot
use Rattle.etherparse.specs.ip.Ipv4.{ihl_of, protocol_of, total_len_of}
use Rattle.etherparse.specs.ip.Ipv4Fault as v4
use Rattle.etherparse.specs.ip.Ipv6.{next_header_of}
use Rattle.etherparse.specs.ip.Ipv6Fault as v6
use Rattle.etherparse.specs.ip.declared.err.ipv4.header_error.HeaderError.{HeaderError as Ipv4HeaderFault}
use Rattle.etherparse.specs.ip.declared.err.ipv6.header_error.HeaderError.{HeaderError as Ipv6HeaderFault}
use Rattle.etherparse.specs.ipslice.Ipv6Exts.{view_order}
use Rattle.etherparse.specs.ipslice.Ipv6Packet.{body_of, extensions_of, rest_after}
use Rattle.etherparse.specs.ipslice.Ipv6Walk.{piece_at_start, pieces_within}
use Rattle.etherparse.specs.ipslice.LaxPackets.{StoppedIpv4, StoppedIpv6, is_ipv4_open, lax_ipv4_after, lax_ipv4_body}
use Rattle.etherparse.specs.ipslice.LaxPackets.{lax_ipv4_packet_at, lax_ipv4_with, lax_ipv6_after, lax_ipv6_packet_at}
use Rattle.etherparse.specs.ipslice.LaxPackets.{lax_ipv6_with}
use Rattle.etherparse.specs.ipslice.Packet.{body_len}
use Rattle.etherparse.specs.link.Arp as arp
use Rattle.etherparse.specs.packet.Parts.{IsAt, StandAt}
use Rattle.etherparse_structs.proofs.PartOffsets.{prefix_is}
use Rattle.ep_packet.proofs.PartsLemmas.{at_take, stand_in}

-- each header is a prefix of the bytes
ipv4_header_is : (bytes header : List ℕ) → v4.header_at bytes ≡ Ok header
    → (header ≡ take (4 * ihl_of bytes) bytes) × (4 * ihl_of bytes ≤ length bytes)
ipv4_header_is bytes header at = grind (arith, ltb-false)

ipv6_header_is : (bytes header : List ℕ) → v6.header_at bytes ≡ Ok header
    → (header ≡ take 40 bytes) × (40 ≤ length bytes)
ipv6_header_is bytes header at = grind (arith, ltb-false)

pub auth_is : (bytes auth : List ℕ) → auth_at bytes ≡ Ok auth
    → (auth ≡ take (auth_len bytes) bytes) × (auth_len bytes ≤ length bytes)
auth_is bytes auth at = grind (arith, ltb-false)

pub raw_is : (bytes header : List ℕ) → raw_at bytes ≡ Ok header
    → (header ≡ take (raw_len bytes) bytes) × (raw_len bytes ≤ length bytes)
raw_is bytes header at = grind (arith, ltb-false)

pub fragment_is : (bytes header : List ℕ) → fragment_at bytes ≡ Ok header
    → (header ≡ take 8 bytes) × (8 ≤ length bytes)
fragment_is bytes header at = grind (arith, ltb-false)

-- and what follows it is what is left of them
abbrev Begins : List ℕ → List ℕ → Type 0
Begins bytes part = bytes ≡ part ++ drop (length part) bytes

begins : (n : ℕ) (bytes part : List ℕ) → (part ≡ take n bytes) × (n ≤ length bytes) → Begins bytes part
begins n bytes part is =
    let known = prefix_is n bytes part is.0 is.1 in
    known.1 ∙ ap (λ (k : ℕ). part ++ drop k bytes) (sym known.0)

raw_begins : (bytes header : List ℕ) → raw_at bytes ≡ Ok header → Begins bytes header
raw_begins bytes header at = begins (raw_len bytes) bytes header (raw_is bytes header at)

slot_begins : (slot : Ipv6ExtSlot) (bytes header : List ℕ) → prefix_of slot bytes ≡ Ok header
    → Begins bytes header
slot_begins slot.HopByHop bytes header at = raw_begins bytes header (grind arith)
slot_begins slot.Destination bytes header at = raw_begins bytes header (grind arith)
slot_begins slot.Routing bytes header at = raw_begins bytes header (grind arith)
slot_begins slot.Fragment bytes header at =
    begins 8 bytes header (fragment_is bytes header (grind arith))
slot_begins slot.Authentication bytes header at =
    begins (auth_len bytes) bytes header (auth_is bytes header (grind arith))
slot_begins slot.FinalDestination bytes header at = raw_begins bytes header (grind arith)

-- a part and the part after it
joined : (bytes part more : List ℕ) → Begins bytes part → Begins (drop (length part) bytes) more
    → Begins bytes (part ++ more)
joined bytes part more first next =
    first ∙ ap (λ (xs : List ℕ). part ++ xs) next
    ∙ sym (append_assoc part more (drop (length more) (drop (length part) bytes)))
    ∙ ap (λ (xs : List ℕ). (part ++ more) ++ xs)
    (drop-drop (length more) (length part) bytes
    ∙ ap (λ (k : ℕ). drop k bytes) (sym (length-append part more)))

-- headers in a row are a prefix of the bytes
abbrev Follow : List ℕ → (Piece → List Piece) → Type 0
Follow bytes following = (piece : Piece)
    → Begins (drop (length piece.1) bytes) (bytes_of (following piece))

header_case : (bytes : List ℕ) (slot : Ipv6ExtSlot) (r : Result (List ℕ) (SliceError ExtsFault))
    → prefix_of slot bytes ≡ r → (following : Piece → List Piece) → Follow bytes following
    → Begins bytes (bytes_of (option_map_or (λ piece. piece ∷ following piece)
    (option_map (λ header. (slot, header)) (result_ok r)) []))
header_case bytes slot (Ok header) at following each =
    joined bytes header (bytes_of (following (slot, header))) (slot_begins slot bytes header at)
    (each (slot, header))
header_case bytes slot (Err e) at following each = refl

piece_case : (bytes : List ℕ) (o : Option Ipv6ExtSlot) (following : Piece → List Piece)
    → Follow bytes following
    → Begins bytes (bytes_of (option_map_or (λ piece. piece ∷ following piece)
    (piece_at_start o bytes) []))
piece_case bytes None following each = refl
piece_case bytes (Some slot) following each =
    header_case bytes slot (prefix_of slot bytes) refl following each

row_begins : (most : ℕ) (order : Order) (passed : List Ipv6ExtSlot) (number : ℕ) (bytes : List ℕ)
    → Begins bytes (bytes_of (pieces_within most order passed number bytes))
unfolding pieces_within
row_begins zero order passed number bytes = refl
row_begins (suc most) order passed number bytes =
    piece_case bytes (order passed number)
    (λ (piece : Piece). pieces_within most order (passed ++ piece.0 ∷ []) (num piece.1 0 1)
    (drop (length piece.1) bytes))
    (λ piece. row_begins most order (passed ++ piece.0 ∷ []) (num piece.1 0 1)
    (drop (length piece.1) bytes))

-- IPv6: the header, a body, and bytes after it
ipv6_with : (bytes header : List ℕ) (pieces : List Piece) → v6.header_at bytes ≡ Ok header
    → Begins (body_of bytes header) (bytes_of pieces)
    → StandAt bytes 0 header (bytes_of pieces) (rest_after bytes header pieces)
ipv6_with bytes header pieces at first =
    let is = ipv6_header_is bytes header at in
    let known = prefix_is 40 bytes header is.0 is.1 in
    let following : List ℕ = drop 40 bytes in
    let n = body_len header (length bytes - 40) in
    let rest = rest_after bytes header pieces in
    stand_in bytes header (bytes_of pieces) rest (drop n following)
    (known.1
    ∙ ap (λ (xs : List ℕ). header ++ xs)
    (sym (take-append-drop n following) ∙ ap (λ (xs : List ℕ). xs ++ drop n following) first)
    ∙ simp append_assoc)

ipv6_case : (bytes : List ℕ) (r : Result (List ℕ) (SliceError Ipv6HeaderFault)) (s : StoppedIpv6)
    → v6.header_at bytes ≡ r → lax_ipv6_after bytes r ≡ Ok s
    → StandAt bytes 0 s.0.header s.0.exts.slice s.0.payload.payload
ipv6_case bytes (Err e) s at same = absurd (cc)
ipv6_case bytes (Ok header) s at same =
    let pieces = extensions_of (next_header_of header) (body_of bytes header) in
    let is : lax_ipv6_with bytes header pieces ≡ s = grind arith in
    subst (λ (t : StoppedIpv6). StandAt bytes 0 t.0.header t.0.exts.slice t.0.payload.payload) is
    (ipv6_with bytes header pieces at
    (row_begins (length (body_of bytes header)) view_order [] (next_header_of header)
    (body_of bytes header)))

pub ipv6_stands : (bytes : List ℕ) (s : StoppedIpv6) → lax_ipv6_packet_at bytes ≡ Ok s
    → StandAt bytes 0 s.0.header s.0.exts.slice s.0.payload.payload
ipv6_stands bytes s same = ipv6_case bytes (v6.header_at bytes) s refl same

-- IPv4: the bytes after the header that the total length bounds, and those after them
body_case : (bytes header : List ℕ) (n : ℕ) (b : Bool) → header ≡ take n bytes → n ≤ length bytes
    → nat_lt (total_len_of header) (length header) ≡ b
    → (padding : List ℕ) × (bytes ≡ header
    ++ (if b then drop (length header) bytes
    else drop (length header) (take (total_len_of header) bytes)) ++ padding)
body_case bytes header n true is fits open_ = (
  [],
  begins n bytes header (is, fits) ∙ sym (append-nil (header ++ drop (length header) bytes)),
)
body_case bytes header n false is fits bounded =
    let size : length header ≡ n = (prefix_is n bytes header is fits).0 in
    let total = total_len_of header in
    let most : n ≤ total = omega (arith, ltb-false total (length header) bounded, size) in
    let first : take (length header) (take total bytes) ≡ header =
    ap (λ (k : ℕ). take k (take total bytes)) size ∙ take-take n total bytes most ∙ sym is in (
      drop total bytes,
      sym (take-append-drop total bytes)
          ∙ ap (λ (xs : List ℕ). xs ++ drop total bytes)
          (sym (take-append-drop (length header) (take total bytes))
          ∙ ap (λ (xs : List ℕ). xs ++ drop (length header) (take total bytes)) first),
    )

ipv4_with : (bytes header : List ℕ) (auth : Option (List ℕ)) → v4.header_at bytes ≡ Ok header
    → Begins (lax_ipv4_body bytes header) (auth_bytes auth)
    → StandAt bytes 0 header (auth_bytes auth)
    (drop (length (auth_bytes auth)) (lax_ipv4_body bytes header))
ipv4_with bytes header auth at first =
    let is = ipv4_header_is bytes header at in
    let body = body_case bytes header (4 * ihl_of bytes) (is_ipv4_open header) is.0 is.1 refl in
    let rest : List ℕ = drop (length (auth_bytes auth)) (lax_ipv4_body bytes header) in
    stand_in bytes header (auth_bytes auth) rest body.0
    (body.1 ∙ ap (λ (xs : List ℕ). header ++ xs ++ body.0) first ∙ simp append_assoc)

auth_read : (b : Bool) (r : Result (List ℕ) (SliceError AuthFault)) (auth : List ℕ)
    → (if b then result_map_both Some (λ e. e) r else Ok None) ≡ Ok (Some auth) → r ≡ Ok auth
auth_read b r auth same = grind arith

auth_begins : (number : ℕ) (body : List ℕ) (auth : Option (List ℕ))
    → auth_after number body ≡ Ok auth → Begins body (auth_bytes auth)
auth_begins number body None same = refl
auth_begins number body (Some auth) same =
    begins (auth_len body) body auth
    (auth_is body auth (auth_read (number == 51) (auth_at body) auth same))

auth_case : (bytes header : List ℕ) (r : Result (Option (List ℕ)) (SliceError AuthFault))
    → v4.header_at bytes ≡ Ok header
    → auth_after (protocol_of header) (lax_ipv4_body bytes header) ≡ r
    → StandAt bytes 0 header (auth_bytes (lax_ipv4_with bytes header r).0.auth)
    (lax_ipv4_with bytes header r).0.payload.payload
auth_case bytes header (Ok auth) at same =
    ipv4_with bytes header auth at
    (auth_begins (protocol_of header) (lax_ipv4_body bytes header) auth same)
auth_case bytes header (Err e) at same = ipv4_with bytes header None at refl

own_header : (bytes header : List ℕ) (r : Result (Option (List ℕ)) (SliceError AuthFault))
    → (lax_ipv4_with bytes header r).0.header ≡ header
own_header bytes header (Ok auth) = refl
own_header bytes header (Err e) = refl

ipv4_case : (bytes : List ℕ) (r : Result (List ℕ) (SliceError Ipv4HeaderFault)) (s : StoppedIpv4)
    → v4.header_at bytes ≡ r → lax_ipv4_after bytes r ≡ Ok s
    → StandAt bytes 0 s.0.header (auth_bytes s.0.auth) s.0.payload.payload
ipv4_case bytes (Err e) s at same = absurd (cc)
ipv4_case bytes (Ok header) s at same =
    let found = auth_after (protocol_of header) (lax_ipv4_body bytes header) in
    let is : lax_ipv4_with bytes header found ≡ s = grind arith in
    let own : (lax_ipv4_with bytes header found).0.header ≡ header = own_header bytes header found in
    subst (λ (t : StoppedIpv4). StandAt bytes 0 t.0.header (auth_bytes t.0.auth) t.0.payload.payload) is
    (subst (λ (h : List ℕ). StandAt bytes 0 h (auth_bytes (lax_ipv4_with bytes header found).0.auth)
    (lax_ipv4_with bytes header found).0.payload.payload) (sym own)
    (auth_case bytes header found at refl))

pub ipv4_stands : (bytes : List ℕ) (s : StoppedIpv4) → lax_ipv4_packet_at bytes ≡ Ok s
    → StandAt bytes 0 s.0.header (auth_bytes s.0.auth) s.0.payload.payload
ipv4_stands bytes s same = ipv4_case bytes (v4.header_at bytes) s refl same

pub arp_stands : (bytes packet : List ℕ) → arp.packet_at bytes ≡ Ok packet → IsAt bytes 0 packet
arp_stands bytes packet same =
    let is : packet ≡ take (arp.packet_len_of bytes) bytes = grind arith in
    subst (IsAt bytes 0) (sym is) (at_take (arp.packet_len_of bytes) bytes)
