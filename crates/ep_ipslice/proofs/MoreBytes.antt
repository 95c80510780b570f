-- Packets as far as they are there, where more bytes are there.
use Rattle.std.proofs.Common.{◌≡◌, ◌≢◌, ◌∙◌, sym, ap, ap₂, refl, ℕ, ◌-◌, ◌≤◌, ◌==◌, ◌&&◌, Bool, true, false, List, [], ◌∷◌}
use Rattle.std.proofs.Common.{◌++◌, length, take, drop, Option, Some, None, Result, Ok, Err, IsOkAnd, arith, append_assoc}
use Rattle.std.proofs.Common.{length-append}
use Rattle.std.proofs.Common.{zero, suc}
use Rattle.std.specs.Prelude.{if◌then◌else◌, nat_lt}
use Rattle.std.specs.Option.{option_map, option_map_or}
use Rattle.std.proofs.lemmas.Bool.Decides.{nat_tests}
use Rattle.std.proofs.lemmas.List.{drop-append-le, drop_at, length-drop, length-take, take-append-le, take_all}
use Rattle.ep_base.specs.declared.err.slice_error.SliceError.{SliceError}
use Rattle.ep_base.specs.declared.len_source.LenSource.{LenSource}
use Rattle.ep_base.specs.declared.len_source.LenSource.TheVariants.{Slice, Ipv4HeaderTotalLen, Ipv6HeaderPayloadLen}
use Rattle.ep_ip.specs.Ipv4.{protocol_of, total_len_of}
use Rattle.ep_ip.specs.Ipv4Fault as v4
use Rattle.ep_ip.specs.Ipv6.{next_header_of, payload_length_of}
use Rattle.ep_ip.specs.Ipv6Fault as v6
use Rattle.ep_ip.specs.declared.err.ipv4.header_error.HeaderError.{HeaderError as Ipv4HeaderFault}
use Rattle.ep_ip.specs.declared.err.ipv6.header_error.HeaderError.{HeaderError as Ipv6HeaderFault}
use Rattle.ep_ip.proofs.Ipv6Prefix.{prefix_again}
use Rattle.ep_ext.specs.Chain.{Fault, fault_of, fault_at}
use Rattle.ep_ext.specs.Ipv4Exts.{auth_after, auth_bytes}
use Rattle.ep_base.proofs.FirstBytes.{take_continued}
use Rattle.ep_base.specs.Bytes.{IsContinued, num}
use Rattle.ep_ext.specs.Slot.{Order}
use Rattle.ep_ext.specs.declared.net.ipv6_ext_slot.Ipv6ExtSlot.{Ipv6ExtSlot}
use Rattle.ep_ext.specs.Value.{Piece, bytes_of, slots}
use Rattle.ep_ext.specs.declared.err.ip_auth.header_error.HeaderError.{HeaderError as AuthFault}
use Rattle.ep_ext.specs.declared.net.ipv6_ext_slot.Ipv6ExtSlot.TheVariants.{Authentication}
use Rattle.ep_ipslice.specs.Ipv6Exts.{view_order}
use Rattle.ep_ipslice.specs.Ipv6Packet as strict6
use Rattle.ep_ipslice.specs.Ipv6Walk.{piece_at_start, pieces_within}
use Rattle.ep_ipslice.specs.LaxPackets.{StoppedIpv4, StoppedIpv6, is_ipv4_cut, is_ipv4_open, is_ipv6_cut, lax_ipv4_after}
use Rattle.ep_ipslice.specs.LaxPackets.{lax_ipv4_body, lax_ipv4_packet_at, lax_ipv4_source, lax_ipv4_with, lax_ipv6_after}
use Rattle.ep_ipslice.specs.LaxPackets.{lax_ipv6_of, lax_ipv6_packet_at, lax_ipv6_source, lax_ipv6_with, row_fault_within}
use Rattle.ep_ipslice.specs.MoreBytes.{KeepsIpv4, KeepsIpv6}
use Rattle.ep_ipslice.specs.Packet.{body_len}
use Rattle.ep_ipslice.proofs.CutPackets.{len_by, named_by, v4_again, v4_begins}
use Rattle.ep_ipslice.proofs.Found.{header_found, none_open, prefix_is, walk, fault_after}
use Rattle.ep_ipslice.proofs.Ipv4Parts.{auth_found}
use Rattle.ep_ipslice.proofs.Ipv6At.{fault_is, row_in}
use Rattle.ep_ipslice.proofs.LaxLaws.{auth_cut}
use Rattle.ep_ipslice.proofs.Left.{HasLeast, IsFound, prefix_open}

back_more : (n : ℕ) (bytes all : List ℕ) → n ≤ length bytes → IsContinued bytes all
    → IsContinued (drop n bytes) (drop n all)
back_more n bytes all fits more =
    (more.0, ap (drop n) more.1 ∙ drop-append-le n bytes more.0 fits)

-- the body of an IPv4 packet
v4_body_case : (unbound : Bool) (bytes more header : List ℕ) → is_ipv4_open header ≡ unbound
    → length header ≤ length bytes
    → IsContinued (lax_ipv4_body bytes header) (lax_ipv4_body (bytes ++ more) header)
v4_body_case true bytes more header is fits =
    rw is (back_more (length header) bytes (bytes ++ more) fits (more, refl))
v4_body_case false bytes more header is fits =
    let size : length header ≤ length (take (total_len_of header) bytes) =
    grind (arith, nat_tests, length-take) in
    rw is (back_more (length header) (take (total_len_of header) bytes)
    (take (total_len_of header) (bytes ++ more)) size (take_continued (total_len_of header) bytes more))

-- where the total length counts no more than the bytes that are there, more change nothing
record IsSameV4 (bytes all header : List ℕ) : Type 0 where
  body : lax_ipv4_body all header ≡ lax_ipv4_body bytes header
  cut : is_ipv4_cut all header ≡ is_ipv4_cut bytes header
  source : lax_ipv4_source all header ≡ lax_ipv4_source bytes header

v4_counted : (unbound short : Bool) → ◌≡◌ {A = LenSource}
    (if unbound then Slice else (if short then Slice else Ipv4HeaderTotalLen)) Ipv4HeaderTotalLen
    → (unbound ≡ false) × (short ≡ false)
v4_counted true short is = cc
v4_counted false true is = cc
v4_counted false false is = (refl, refl)

v4_whole : (bytes more header : List ℕ) → lax_ipv4_source bytes header ≡ Ipv4HeaderTotalLen
    → IsSameV4 bytes (bytes ++ more) header
v4_whole bytes more header is =
    let counted = v4_counted (is_ipv4_open header) (is_ipv4_cut bytes header) is in
    let fits : total_len_of header ≤ length bytes = grind (arith, nat_tests) in
    let front : take (total_len_of header) (bytes ++ more) ≡ take (total_len_of header) bytes =
    take-append-le (total_len_of header) bytes more fits in
    let cut : is_ipv4_cut (bytes ++ more) header ≡ is_ipv4_cut bytes header =
    grind (arith, nat_tests, length-append) in
    record {
      body = rw (counted.0, front) refl;
      cut = cut;
      source = rw cut refl;
    }

same_v4 : (bytes all header : List ℕ) → IsSameV4 bytes all header →
    lax_ipv4_with all header (auth_after (protocol_of header) (lax_ipv4_body all header))
    ≡ lax_ipv4_with bytes header (auth_after (protocol_of header) (lax_ipv4_body bytes header))
same_v4 bytes all header same = grind arith

with_header : (bytes header : List ℕ) (r : Result (Option (List ℕ)) (SliceError AuthFault))
    → ((lax_ipv4_with bytes header r).0.header ≡ header)
    × ((lax_ipv4_with bytes header r).0.payload.len_source ≡ lax_ipv4_source bytes header)
with_header bytes header (Ok auth) = (refl, refl)
with_header bytes header (Err e) = (refl, refl)

abbrev V4 : (bytes header : List ℕ) → StoppedIpv4
V4 bytes header = lax_ipv4_with bytes header (auth_after (protocol_of header) (lax_ipv4_body bytes header))

v4_keeps : IsFound → (bytes more header : List ℕ) (r : Result (Option (List ℕ)) (SliceError AuthFault))
    → auth_after (protocol_of header) (lax_ipv4_body bytes header) ≡ r
    → IsContinued (lax_ipv4_body bytes header) (lax_ipv4_body (bytes ++ more) header)
    → KeepsIpv4 (lax_ipv4_with bytes header r) (V4 (bytes ++ more) header)
v4_keeps found bytes more header (Ok auth) at body =
    let number : ℕ = protocol_of header in
    let named = named_by (number == 51) number (lax_ipv4_body bytes header) auth refl at in
    let cut = auth_cut (number == 51) (lax_ipv4_body bytes header) auth at in
    let rest : List ℕ = drop (length (auth_bytes auth)) (lax_ipv4_body bytes header) in
    let parts : lax_ipv4_body (bytes ++ more) header ≡ auth_bytes auth ++ (rest ++ body.0) =
    body.1 ∙ ap (λ (xs : List ℕ). xs ++ body.0) cut ∙ append_assoc (auth_bytes auth) rest body.0 in
    let again : auth_after number (lax_ipv4_body (bytes ++ more) header) ≡ Ok auth =
    rw parts (auth_found (found Authentication) number auth (rest ++ body.0) named) in
    let payload : drop (length (auth_bytes auth)) (lax_ipv4_body (bytes ++ more) header) ≡ rest ++ body.0 =
    rw parts (drop_at (auth_bytes auth) (rest ++ body.0) (length (auth_bytes auth)) refl) in
    let after : V4 (bytes ++ more) header ≡ lax_ipv4_with (bytes ++ more) header (Ok auth) =
    ap (lax_ipv4_with (bytes ++ more) header) again in
    rw after (record {
      header = refl;
      auth = λ none. refl;
      found = λ a is. is;
      going_on = λ none. refl;
      payload = λ none. record { number = refl; fragmented = refl; bytes = (body.0, payload) };
      whole = λ counted. sym after ∙ same_v4 bytes (bytes ++ more) header (v4_whole bytes more header counted)
          ∙ ap (lax_ipv4_with bytes header) at;
    })
v4_keeps found bytes more header (Err e) at body =
    let r = auth_after (protocol_of header) (lax_ipv4_body (bytes ++ more) header) in
    record {
      header = (with_header (bytes ++ more) header r).0;
      auth = λ none. cc;
      found = λ a is. cc;
      going_on = λ none. cc;
      payload = λ none. cc;
      whole = λ counted. same_v4 bytes (bytes ++ more) header (v4_whole bytes more header counted)
          ∙ ap (lax_ipv4_with bytes header) at;
    }

v4_more_at : IsFound → (bytes more header : List ℕ) → v4.header_at bytes ≡ Ok header
    → IsOkAnd (lax_ipv4_packet_at (bytes ++ more)) (λ after. KeepsIpv4 (V4 bytes header) after)
v4_more_at found bytes more header at =
    let begins = v4_begins bytes header at in
    let rest : List ℕ = drop (length header) bytes in
    let parts : bytes ++ more ≡ header ++ (rest ++ more) =
    ap (λ (xs : List ℕ). xs ++ more) begins.1 ∙ append_assoc header rest more in
    let again : v4.header_at (bytes ++ more) ≡ Ok header = rw parts (v4_again header (rest ++ more) begins.0) in
    let size : length header ≤ length bytes =
    omega (arith, ap length begins.1, length-append header rest) in
    let keeps = v4_keeps found bytes more header
    (auth_after (protocol_of header) (lax_ipv4_body bytes header)) refl
    (v4_body_case (is_ipv4_open header) bytes more header refl size) in
    rw again keeps

v4_case : IsFound → (bytes more : List ℕ) (r : Result (List ℕ) (SliceError Ipv4HeaderFault))
    (before : StoppedIpv4) → v4.header_at bytes ≡ r → lax_ipv4_after bytes r ≡ Ok before
    → IsOkAnd (lax_ipv4_packet_at (bytes ++ more)) (λ after. KeepsIpv4 before after)
v4_case found bytes more (Ok header) before at is =
    let same : V4 bytes header ≡ before = cc in
    rw same at (v4_more_at found bytes more header at)
v4_case found bytes more (Err e) before at is = cc

pub v4_more : IsFound → (bytes more : List ℕ) (before : StoppedIpv4)
    → lax_ipv4_packet_at bytes ≡ Ok before
    → IsOkAnd (lax_ipv4_packet_at (bytes ++ more)) (λ after. KeepsIpv4 before after)
v4_more found bytes more before is = v4_case found bytes more (v4.header_at bytes) before refl is

-- the body of an IPv6 packet
all_by : (stated : ℕ) (following : List ℕ) → (stated == 0) ≡ true
    → take (len_by stated (length following)) following ≡ following
all_by stated [] none = grind (arith, nat_tests, take_all)
all_by stated (b ∷ following) none = grind (arith, nat_tests, take_all)

v6_body_case : (none : Bool) (stated : ℕ) (following more : List ℕ) → (stated == 0) ≡ none →
    IsContinued (take (len_by stated (length following)) following)
    (take (len_by stated (length (following ++ more))) (following ++ more))
v6_body_case true stated following more none = (
  more,
  all_by stated (following ++ more) none ∙ ap (λ (xs : List ℕ). xs ++ more) (sym (all_by stated following none)),
)
v6_body_case false stated following more given =
    let here : len_by stated (length following) ≡ stated = rw given refl in
    let there : len_by stated (length (following ++ more)) ≡ stated = rw given refl in
    rw (here, there) (take_continued stated following more)

-- the bytes after the header
following_more : (bytes more : List ℕ) → 40 ≤ length bytes → drop 40 (bytes ++ more) ≡ drop 40 bytes ++ more
following_more bytes more fits = drop-append-le 40 bytes more fits

v6_body_more : (bytes more header : List ℕ) → 40 ≤ length bytes
    → IsContinued (strict6.body_of bytes header) (strict6.body_of (bytes ++ more) header)
v6_body_more bytes more header fits =
    let stated : ℕ = payload_length_of header in
    let following : List ℕ = drop 40 bytes in
    let here : strict6.body_of bytes header ≡ take (len_by stated (length following)) following =
    ap (λ (k : ℕ). take (len_by stated k) following) (sym (length-drop 40 bytes)) in
    let size : length (bytes ++ more) - 40 ≡ length (following ++ more) =
    omega (arith, fits, length-append bytes more, length-append following more, length-drop 40 bytes) in
    let there : strict6.body_of (bytes ++ more) header
    ≡ take (len_by stated (length (following ++ more))) (following ++ more) =
    ap₂ (λ (k : ℕ) (xs : List ℕ). take (len_by stated k) xs) size (following_more bytes more fits) in
    let body = v6_body_case (stated == 0) stated following more refl in
    (body.0, there ∙ body.1 ∙ ap (λ (xs : List ℕ). xs ++ body.0) (sym here))

-- where the payload length counts no more than the bytes that are there, more change nothing
record IsSameV6 (bytes all header : List ℕ) : Type 0 where
  body : strict6.body_of all header ≡ strict6.body_of bytes header
  cut : is_ipv6_cut all header ≡ is_ipv6_cut bytes header
  source : lax_ipv6_source all header ≡ lax_ipv6_source bytes header

v6_counted : (none some short : Bool) → none ≡ false → ◌≡◌ {A = LenSource}
    (if short then Slice else (if none && some then Slice else Ipv6HeaderPayloadLen)) Ipv6HeaderPayloadLen
    → short ≡ false
v6_counted none some true given is = cc
v6_counted none some false given is = refl

v6_whole : (bytes more header : List ℕ) → 40 ≤ length bytes
    → lax_ipv6_source bytes header ≡ Ipv6HeaderPayloadLen → payload_length_of header ≢ 0
    → IsSameV6 bytes (bytes ++ more) header
v6_whole bytes more header fits is some =
    let stated : ℕ = payload_length_of header in
    let given : (stated == 0) ≡ false = grind (arith, nat_tests) in
    let short = v6_counted (stated == 0) (nat_lt 0 (length bytes - 40)) (is_ipv6_cut bytes header) given is in
    let here : body_len header (length bytes - 40) ≡ stated = rw given refl in
    let there : body_len header (length (bytes ++ more) - 40) ≡ stated = rw given refl in
    let counted : nat_lt (length bytes - 40) stated ≡ false = ap (nat_lt (length bytes - 40)) (sym here) ∙ short in
    let enough : stated ≤ length bytes - 40 = grind (arith, nat_tests) in
    let cut : is_ipv6_cut (bytes ++ more) header ≡ false =
    ap (nat_lt (length (bytes ++ more) - 40)) there ∙ grind (arith, nat_tests, length-append) in
    let front : take stated (drop 40 bytes ++ more) ≡ take stated (drop 40 bytes) =
    take-append-le stated (drop 40 bytes) more (omega (arith, enough, length-drop 40 bytes)) in
    record {
      body = ap₂ (λ (k : ℕ) (xs : List ℕ). take k xs) there (following_more bytes more fits) ∙ front
          ∙ ap (λ (k : ℕ). take k (drop 40 bytes)) (sym here);
      cut = cut ∙ sym short;
      source = rw (cut, short, given) refl;
    }

abbrev V6 : (bytes header : List ℕ) → StoppedIpv6
V6 bytes header = lax_ipv6_with bytes header
    (strict6.extensions_of (next_header_of header) (strict6.body_of bytes header))

same_v6 : (bytes all header : List ℕ) → IsSameV6 bytes all header → V6 all header ≡ V6 bytes header
same_v6 bytes all header same = grind arith

no_fault : (source : LenSource) (o : Option Fault) → option_map (row_fault_within source) o ≡ None → o ≡ None
no_fault source None is = refl
no_fault source (Some fault) is = cc

-- what follows a row of extension headers that ended without a fault
record IsSameRow (bytes all header : List ℕ) (pieces : List Piece) : Type 0 where
  packet : V6 all header ≡ (lax_ipv6_of all header pieces, None)
  rest : IsContinued (strict6.rest_after bytes header pieces) (strict6.rest_after all header pieces)

v6_row : IsFound → HasLeast → (bytes all header : List ℕ)
    → IsContinued (strict6.body_of bytes header) (strict6.body_of all header)
    → fault_after bytes header
    (strict6.extensions_of (next_header_of header) (strict6.body_of bytes header)) ≡ None
    → IsSameRow bytes all header (strict6.extensions_of (next_header_of header) (strict6.body_of bytes header))
v6_row found least bytes all header body none =
    let first : ℕ = next_header_of header in
    let old : List ℕ = strict6.body_of bytes header in
    let pieces : List Piece = strict6.extensions_of first old in
    let exts : List ℕ = bytes_of pieces in
    let last : ℕ = strict6.number_after first pieces in
    let here = walk (length old) view_order [] first old (omega arith) in
    let left : here.rest ≡ strict6.rest_after bytes header pieces =
    sym (ap (drop (length exts)) here.cut ∙ drop_at exts here.rest (length exts) refl) in
    let closed = none_open (view_order (slots pieces) last) last here.rest (length exts) here.ended
    (ap (fault_at (length exts) (view_order (slots pieces) last) last) left ∙ none) in
    let parts : strict6.body_of all header ≡ exts ++ (here.rest ++ body.0) =
    body.1 ∙ ap (λ (xs : List ℕ). xs ++ body.0) here.cut ∙ append_assoc exts here.rest body.0 in
    let no_header : piece_at_start (view_order (slots pieces) last) (here.rest ++ body.0) ≡ None =
    rw closed.0 refl in
    let row = row_in found least all header pieces last (here.rest ++ body.0) here.row parts no_header in
    let no_more : fault_of view_order pieces last (here.rest ++ body.0) ≡ None = rw (closed.0, closed.1) refl in
    let fault : fault_after all header pieces ≡ None =
    fault_is all header pieces last (here.rest ++ body.0) row ∙ no_more in
    record {
      packet = ap (lax_ipv6_with all header) row.pieces_are
          ∙ ap (λ (o : Option Fault). (
            lax_ipv6_of all header pieces,
            option_map (row_fault_within (lax_ipv6_source all header)) o,
          )) fault;
      rest = (body.0, row.left ∙ ap (λ (xs : List ℕ). xs ++ body.0) left);
    }

-- extension headers in a row, after which more may be there
abbrev RowGoesOn : List Piece → List Piece → Type 0
RowGoesOn pieces all = (rest : List Piece) × (all ≡ pieces ++ rest)

found_more : IsFound → (order : Order) (passed : List Ipv6ExtSlot) (number : ℕ) (bytes more : List ℕ)
    (piece : Piece) → piece_at_start (order passed number) bytes ≡ Some piece →
    (piece_at_start (order passed number) (bytes ++ more) ≡ Some piece)
    × (drop (length piece.1) (bytes ++ more) ≡ drop (length piece.1) bytes ++ more)
found_more found order passed number bytes more piece at =
    let prefix = prefix_is (order passed number) bytes piece at in
    let parts : bytes ++ more ≡ piece.1 ++ (prefix.following ++ more) =
    ap (λ (xs : List ℕ). xs ++ more) prefix.cut ∙ append_assoc piece.1 prefix.following more in (
      rw parts (prefix_open found order passed number piece (prefix.following ++ more) prefix.named prefix.is),
      drop-append-le (length piece.1) bytes more
          (omega (arith, ap length prefix.cut, length-append piece.1 prefix.following)),
    )

row_then : IsFound → (most later : ℕ) (order : Order) (passed : List Ipv6ExtSlot) (number : ℕ)
    (bytes more : List ℕ) →
    ((ps : List Ipv6ExtSlot) (n : ℕ) (xs : List ℕ)
    → RowGoesOn (pieces_within most order ps n xs) (pieces_within later order ps n (xs ++ more))) →
    (o : Option Piece) → piece_at_start (order passed number) bytes ≡ o →
    RowGoesOn (option_map_or (λ (piece : Piece). piece ∷
    pieces_within most order (passed ++ piece.0 ∷ []) (num piece.1 0 1)
    (drop (length piece.1) bytes)) o [])
    (option_map_or (λ (piece : Piece). piece ∷
    pieces_within later order (passed ++ piece.0 ∷ []) (num piece.1 0 1)
    (drop (length piece.1) (bytes ++ more)))
    (piece_at_start (order passed number) (bytes ++ more)) [])
row_then found most later order passed number bytes more further None at = (_, refl)
row_then found most later order passed number bytes more further (Some piece) at =
    let here = found_more found order passed number bytes more piece at in
    let inner = further (passed ++ piece.0 ∷ []) (num piece.1 0 1) (drop (length piece.1) bytes) in (
      inner.0,
      rw (here.0, here.1) (ap (λ (ps : List Piece). piece ∷ ps) inner.1),
    )

row_more : IsFound → (most later : ℕ) (order : Order) (passed : List Ipv6ExtSlot) (number : ℕ)
    (bytes more : List ℕ) → most ≤ later → RowGoesOn (pieces_within most order passed number bytes)
    (pieces_within later order passed number (bytes ++ more))
unfolding pieces_within
row_more found zero later order passed number bytes more fits = (_, refl)
row_more found (suc most) zero order passed number bytes more fits = absurd (omega (arith, fits))
row_more found (suc most) (suc later) order passed number bytes more fits =
    row_then found most later order passed number bytes more
    (λ ps n xs. row_more found most later order ps n xs more (omega (arith, fits)))
    (piece_at_start (order passed number) bytes) refl

bytes_append : (pieces rest : List Piece) → bytes_of (pieces ++ rest) ≡ bytes_of pieces ++ bytes_of rest
bytes_append [] rest = refl
bytes_append (piece ∷ pieces) rest =
    ap (λ (xs : List ℕ). piece.1 ++ xs) (bytes_append pieces rest)
    ∙ sym (append_assoc piece.1 (bytes_of pieces) (bytes_of rest))

v6_exts : IsFound → (bytes more header : List ℕ) → 40 ≤ length bytes
    → IsContinued (V6 bytes header).0.exts.slice (V6 (bytes ++ more) header).0.exts.slice
v6_exts found bytes more header fits =
    let body = v6_body_more bytes more header fits in
    let first : ℕ = next_header_of header in
    let old : List ℕ = strict6.body_of bytes header in
    let row = row_more found (length old) (length (old ++ body.0)) view_order [] first old body.0
    (omega (arith, length-append old body.0)) in (
      bytes_of row.0,
      ap (λ (xs : List ℕ). bytes_of (strict6.extensions_of first xs)) body.1 ∙ ap bytes_of row.1
          ∙ bytes_append (strict6.extensions_of first old) row.0,
    )

v6_keeps : IsFound → HasLeast → (bytes more header : List ℕ) → 40 ≤ length bytes
    → KeepsIpv6 (V6 bytes header) (V6 (bytes ++ more) header)
v6_keeps found least bytes more header fits =
    let row = λ (none : (V6 bytes header).1 ≡ None). v6_row found least bytes (bytes ++ more) header
    (v6_body_more bytes more header fits) (no_fault (lax_ipv6_source bytes header) _ none) in
    record {
      header = refl;
      exts = λ none. ap (λ (s : StoppedIpv6). s.0.exts) (row none).packet;
      found = v6_exts found bytes more header fits;
      going_on = λ none. ap (λ (s : StoppedIpv6). s.1) (row none).packet;
      payload = λ none. record {
        number = ap (λ (s : StoppedIpv6). s.0.payload.ip_number) (row none).packet;
        fragmented = ap (λ (s : StoppedIpv6). s.0.payload.fragmented) (row none).packet;
        bytes = (
          (row none).rest.0,
          ap (λ (s : StoppedIpv6). s.0.payload.payload) (row none).packet ∙ (row none).rest.1,
        );
      };
      whole = λ counted some. same_v6 bytes (bytes ++ more) header
          (v6_whole bytes more header fits counted some);
    }

v6_more_at : IsFound → HasLeast → (bytes more header : List ℕ) → v6.header_at bytes ≡ Ok header
    → IsOkAnd (lax_ipv6_packet_at (bytes ++ more)) (λ after. KeepsIpv6 (V6 bytes header) after)
v6_more_at found least bytes more header at =
    let begins = header_found bytes header at in
    let rest : List ℕ = drop 40 bytes in
    let parts : bytes ++ more ≡ header ++ (rest ++ more) =
    ap (λ (xs : List ℕ). xs ++ more) begins.1 ∙ append_assoc header rest more in
    let again : v6.header_at (bytes ++ more) ≡ Ok header = rw parts (prefix_again header (rest ++ more) begins.0) in
    let size : 40 ≤ length bytes =
    omega (arith, ap length begins.1, length-append header rest, begins.0.whole) in
    rw again (v6_keeps found least bytes more header size)

v6_case : IsFound → HasLeast → (bytes more : List ℕ) (r : Result (List ℕ) (SliceError Ipv6HeaderFault))
    (before : StoppedIpv6) → v6.header_at bytes ≡ r → lax_ipv6_after bytes r ≡ Ok before
    → IsOkAnd (lax_ipv6_packet_at (bytes ++ more)) (λ after. KeepsIpv6 before after)
v6_case found least bytes more (Ok header) before at is =
    let same : V6 bytes header ≡ before = cc in
    rw same at (v6_more_at found least bytes more header at)
v6_case found least bytes more (Err e) before at is = cc

pub v6_more : IsFound → HasLeast → (bytes more : List ℕ) (before : StoppedIpv6)
    → lax_ipv6_packet_at bytes ≡ Ok before
    → IsOkAnd (lax_ipv6_packet_at (bytes ++ more)) (λ after. KeepsIpv6 before after)
v6_more found least bytes more before is = v6_case found least bytes more (v6.header_at bytes) before refl is
