-- The IPv6 packet whose headers and payload were built, as it is found.
use Rattle.std.proofs.Common.{◌≡◌, ◌∙◌, sym, ap, refl, ℕ, ◌+◌, ◌-◌, ◌==◌, false, List, [], ◌∷◌, ◌++◌, length, take}
use Rattle.std.proofs.Common.{get_or, None, Ok, arith, length-append}
use Rattle.std.proofs.lemmas.List.{append-nil, drop_at, take_all, take_at, get_or_append_left}
use Rattle.std.proofs.lemmas.Bool.{le-ltb, eq-eqb}
use Rattle.std.specs.List.{list_any}
use Rattle.ep_base.specs.Bytes.{num}
use Rattle.ep_ext.specs.Chain.{Chain, IsEnd, Row, fault_of}
use Rattle.ep_ext.specs.Follow.{has_slot}
use Rattle.ep_ext.specs.Slot.{Order}
use Rattle.ep_ext.specs.Value.{Piece, bytes_of, slots}
use Rattle.ep_ext.specs.declared.net.ipv6_ext_slot.Ipv6ExtSlot.{Ipv6ExtSlot}
use Rattle.ep_ip.specs.Ipv6.{Fits, IsIpv6Header, destination_of, next_header_of, payload_length_of, source_of, encoding}
use Rattle.ep_ip.specs.Ipv6Fault.{header_at}
use Rattle.ep_ip.specs.declared.net.ipv6_header.Ipv6Header.{Ipv6Header}
use Rattle.ep_ip.specs.Ipv4.{version_of}
use Rattle.ep_ipslice.specs.Ipv6Exts.{exts_of, view_order, is_fragmenting_piece}
use Rattle.ep_ipslice.specs.Ipv6Packet.{body_of, extensions_in, extensions_of, ipv6_packet_at}
use Rattle.ep_ipslice.specs.Ipv6Packet.{number_after, ipv6_packet_of, rest_after}
use Rattle.ep_ipslice.specs.Ipv6Walk.{pieces_within}
use Rattle.ep_ipslice.specs.Packet.{Ipv6Packet, body_len, body_source}
use Rattle.ep_ipslice.proofs.Found.{fault_after}

-- the fields of a header, read from its bytes
module _ (h : Ipv6Header) (fits : Fits h) where
  pub head_len : length (encoding h) ≡ 40
  head_len = omega (arith, length-append h.source h.destination, fits.source, fits.destination)

  version_is : version_of (encoding h) ≡ 6
  version_is = omega (arith, fits.traffic_class, fits.flow_label)

  pub is_header : IsIpv6Header (encoding h)
  is_header = record { version = version_is; whole = head_len }

  pub source_is : source_of (encoding h) ≡ h.source
  source_is = take_at h.source h.destination 16 fits.source

  pub destination_is : destination_of (encoding h) ≡ h.destination
  destination_is = ap (take 16) (drop_at h.source h.destination 16 fits.source)
      ∙ take_all 16 h.destination (omega (arith, fits.destination))

-- headers in a row are found one by one
abbrev pub RowsFound : Type 0
RowsFound = (order : Order) (first : ℕ) (bytes : List ℕ) (pieces : List Piece)
    (last : ℕ) (rest : List ℕ)
    → Chain order first bytes pieces last rest
    → pieces_within (length bytes) order [] first bytes ≡ pieces

abbrev pub RowEnds : Type 0
RowEnds = (order : Order) (passed : List Ipv6ExtSlot) (last : ℕ) (rest : List ℕ)
    → order passed last ≡ None → IsEnd order passed last rest

-- a number that names no extension header has no slot
no_slot : (passed : List Ipv6ExtSlot) (last : ℕ) → has_slot last ≡ false
    → (view_order passed last ≡ None) × ((last == 0) ≡ false)
no_slot passed last none = grind arith

number_is : (order : Order) (passed : List Ipv6ExtSlot) (first : ℕ) (pieces : List Piece)
    (last : ℕ) → Row order passed first pieces last → number_after first pieces ≡ last
number_is order passed first [] last row = row
number_is order passed first (piece ∷ pieces) last row =
    number_is order (passed ++ piece.0 ∷ []) (num piece.1 0 1) pieces last row.2

-- no fault where the row ends at such a number
no_fault : (pieces : List Piece) (last : ℕ) (rest : List ℕ) → has_slot last ≡ false
    → fault_of view_order pieces last rest ≡ None
no_fault pieces last rest none = grind arith

-- the body extends to the end of the bytes, also where the payload length is 0
body_len_is : (head : List ℕ) (len : ℕ) → payload_length_of head ≡ len → body_len head len ≡ len
body_len_is head len is = grind arith

-- the packet with this header, extension headers in a row and a message that extends to the end
abbrev pub packet_with_row : (head : List ℕ) → List Piece → (last : ℕ)
    → (message : List ℕ) → Ipv6Packet
packet_with_row head pieces last message = record {
  header = head;
  exts = exts_of (next_header_of head) pieces;
  payload = record {
    ip_number = record { 0 = last };
    fragmented = list_any is_fragmenting_piece pieces;
    len_source = body_source head (length (bytes_of pieces) + length message);
    payload = message;
  };
}

module _ (rows : RowsFound) (ends : RowEnds) (head : List ℕ) (pieces : List Piece) (last : ℕ)
    (message : List ℕ) (is : IsIpv6Header head)
    (row : Row view_order [] (next_header_of head) pieces last)
    (none : has_slot last ≡ false) where
  -- the row, before any rest
  chain : (rest : List ℕ) → Chain view_order (next_header_of head)
      (bytes_of pieces ++ rest) pieces last rest
  chain rest =
      record {
        row = row;
        cut = refl;
        ended = ends view_order (slots pieces) last rest (no_slot (slots pieces) last none).0;
      }

  pub extensions_are : extensions_in (packet_with_row head pieces last message) ≡ pieces
  extensions_are =
      ap (λ (xs : List ℕ). pieces_within (length xs) view_order [] (next_header_of head) xs)
      (sym (append-nil (bytes_of pieces)))
      ∙ rows view_order (next_header_of head) (bytes_of pieces ++ []) pieces last [] (chain [])

  abbrev body : List ℕ
  body = bytes_of pieces ++ message

  body_size : length body ≡ length (bytes_of pieces) + length message
  body_size = length-append (bytes_of pieces) message

  abbrev bytes : List ℕ
  bytes = head ++ body

  following : length bytes - 40 ≡ length body
  following = omega (arith, length-append head body, is.whole)

  head_is : header_at bytes ≡ Ok head
  head_is =
      let first : get_or bytes 0 0 ≡ get_or head 0 0 =
      get_or_append_left head body 0 0 (omega (arith, is.whole)) in
      let version : version_of bytes ≡ 6 = rw first is.version in
      rw (
        le-ltb (length bytes) 40 (omega (arith, length-append head body, is.whole)),
        eq-eqb
            (version_of bytes) 6 version,
      )
      (ap Ok (take_at head body 40 is.whole))

  module _ (size : payload_length_of head ≡ length body) where
    len_is : body_len head (length bytes - 40) ≡ length body
    len_is = ap (body_len head) following ∙ body_len_is head (length body) size

    body_is : body_of bytes head ≡ body
    body_is = (λ i. take (len_is i) (drop_at head body 40 is.whole i))
        ∙ take_all (length body) body (omega arith)

    pieces_are : extensions_of (next_header_of head) (body_of bytes head) ≡ pieces
    pieces_are = grind (arith, body_is, chain)

    rest_is : rest_after bytes head pieces ≡ message
    rest_is = grind (arith, body_is, drop_at)

    last_is : number_after (next_header_of head) pieces ≡ last
    last_is = number_is view_order [] (next_header_of head) pieces last row

    no_fault_after : fault_after bytes head pieces ≡ None
    no_fault_after = grind (arith, last_is, rest_is, no_fault)

    source_after : body_source head (length bytes - 40)
        ≡ body_source head (length (bytes_of pieces) + length message)
    source_after = ap (body_source head) (following ∙ body_size)

    found_is : ipv6_packet_of bytes head pieces ≡ packet_with_row head pieces last message
    found_is = grind (arith, last_is, source_after, rest_is)

    -- it is found at the start of its bytes
    pub packet_is : ipv6_packet_at bytes ≡ Ok (packet_with_row head pieces last message)
    packet_is =
        grind (arith, head_is, pieces_are, le-ltb, following, len_is, no_fault_after, found_is)
