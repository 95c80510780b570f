-- The frame of a packet is bytes, and a line can hold it.
use Rattle.std.proofs.lemmas.Bool.Decides.{nat_tests}
use Rattle.std.proofs.Common.{◌≡◌, sym, subst, refl, ℕ, ◌+◌, ◌<◌, ◌≤◌, arith, ◌==◌, Bool, true, false, List, [], ◌∷◌, ◌++◌}
use Rattle.std.proofs.Common.{length, length-drop, take, drop, Option, Some, None, eqb-true, ltb-false, ne_eqb}
use Rattle.std.proofs.Common.{length-append, IfSome, Ok, Err, inl, inr}
use Rattle.std.specs.Option.{option_map}
use Rattle.std.proofs.Math.Seq.{take-append_seam}
use Rattle.std.proofs.lemmas.List.{length-take-le, take-append-drop}
use Rattle.std.specs.Prelude.{◌⊎◌, nat_lt, slice_index, if◌then◌else◌}
use Rattle.hex.proofs.HexLemmas.{length-encode_with}
use Rattle.hex.specs.Hex.{IsBytes, encode_lower, encode_with, lower_digits}
use Rattle.captures.specs.Framed.{address_at, captured_limit, cooked_type, ethernet_header, family_type, framed_after}
use Rattle.captures.specs.Framed.{frame_len, framed, framed_packet, head_len, reason_on, reported_by, reported_frame, FrameParts}
use Rattle.captures.specs.Framed.{frame_bytes, frame_parts, own_frame, IsBack, ip_type, made_header, no_address}
use Rattle.captures.specs.Framed.{null_family}
use Rattle.captures.specs.declared.link.header.Header.{Header}
use Rattle.captures.specs.Numbers.{half, word}
use Rattle.captures.specs.declared.byte_order.ByteOrder.TheVariants.{Big}
use Rattle.line_grammar.specs.declared.frame_limits.TheConstants.{FRAME_LIMIT}
use Rattle.captures.specs.declared.link.kind.Link.{Link}
use Rattle.captures.specs.declared.link.kind.Link.TheVariants.{Ethernet, Ip, Null, Loop, Sll, Sll2, Other}
use Rattle.captures.specs.declared.skipped.Reason.{Reason}
use Rattle.captures.specs.declared.skipped.Reason.TheVariants.{NoFrame, TooLong}
use Rattle.captures.specs.declared.unfit.Unfit.{Unfit}
use Rattle.captures.proofs.ByteLemmas.{Bytes}

-- a header that was made, before what follows the packet's own
record IsMade (link : Link) (packet frame : List ℕ) : Type 0 where
  source : List ℕ
  ether_type : ℕ
  size : length source ≡ 6
  bytes : IsBytes packet → Bytes source
  fits : head_len link ≤ length packet
  parts : frame ≡ ethernet_header source ether_type ++ drop (head_len link) packet

after_is : (link : Link) (packet source : List ℕ) (frame : FrameParts) (found : Option ℕ)
    → length source ≡ 6 → (IsBytes packet → Bytes source) → head_len link ≤ length packet
    → framed_after source found (drop (head_len link) packet) ≡ Some frame
    → IsMade link packet (frame_bytes frame)
after_is link packet source frame found size bytes fits is = grind arith

no_bytes : Bytes no_address
no_bytes = (omega arith, (omega arith, (omega arith, (omega arith, (omega arith, (omega arith, tt))))))

-- six bytes at an offset, or none
address_six : (six : Bool) (bytes : List ℕ) (p : ℕ)
    → length (if six
    then slice_index bytes p ∷ slice_index bytes (p + 1) ∷ slice_index bytes (p + 2)
    ∷ slice_index bytes (p + 3) ∷ slice_index bytes (p + 4) ∷ slice_index bytes (p + 5) ∷ []
    else no_address) ≡ 6
address_six six bytes p = grind arith

address_bytes : (six : Bool) (bytes : List ℕ) (p : ℕ) → IsBytes bytes
    → Bytes (if six
    then slice_index bytes p ∷ slice_index bytes (p + 1) ∷ slice_index bytes (p + 2)
    ∷ slice_index bytes (p + 3) ∷ slice_index bytes (p + 4) ∷ slice_index bytes (p + 5) ∷ []
    else no_address)
address_bytes true bytes p all =
    (all p, (all (p + 1), (all (p + 2), (all (p + 3), (all (p + 4), (all (p + 5), tt))))))
address_bytes false bytes p all = no_bytes

-- long enough for the header of its link
not_short : (short : Bool) (made : Option FrameParts) (frame : FrameParts)
    → (if short then None else made) ≡ Some frame → (short ≡ false) × (made ≡ Some frame)
not_short short made frame is = grind arith

is_made : (link : Link) (packet : List ℕ) (frame : FrameParts)
    → framed_packet link packet ≡ Some frame → (link ≡ Ethernet → ⊥)
    → IsMade link packet (frame_bytes frame)
is_made Ethernet packet frame is other = absurd (other refl)
is_made Ip packet frame is other = grind arith
is_made Null packet frame is other =
    let n = not_short (nat_lt (length packet) 4) _ frame is in
    let long = ltb-false (length packet) 4 n.0 in
    after_is Null packet no_address frame (family_type (null_family packet)) refl
    (λ all. no_bytes) (omega arith) n.1
is_made Loop packet frame is other =
    let n = not_short (nat_lt (length packet) 4) _ frame is in
    let long = ltb-false (length packet) 4 n.0 in
    after_is Loop packet no_address frame (family_type (word Big packet 0)) refl
    (λ all. no_bytes) (omega arith) n.1
is_made (Other number) packet frame is other = absurd (let e : None ≡ Some frame = is in cc)
is_made Sll packet frame is other =
    let n = not_short (nat_lt (length packet) 16) _ frame is in
    let long = ltb-false (length packet) 16 n.0 in
    let six = half Big packet 4 == 6 in
    after_is Sll packet (address_at (half Big packet 4) packet 6) frame
    (cooked_type (half Big packet 2) (half Big packet 14)) (address_six six packet 6)
    (address_bytes six packet 6) (omega arith) n.1
is_made Sll2 packet frame is other =
    let n = not_short (nat_lt (length packet) 20) _ frame is in
    let long = ltb-false (length packet) 20 n.0 in
    let six = slice_index packet 11 == 6 in
    after_is Sll2 packet (address_at (slice_index packet 11) packet 12) frame
    (cooked_type (half Big packet 8) (half Big packet 0)) (address_six six packet 12)
    (address_bytes six packet 12) (omega arith) n.1

own_bytes : (packet : List ℕ) (frame : FrameParts) → Some (own_frame packet) ≡ Some frame
    → frame_bytes frame ≡ packet
own_bytes packet frame is = grind arith

by_link : (link : Link) (packet : List ℕ) (frame : FrameParts)
    → framed_packet link packet ≡ Some frame
    → (frame_bytes frame ≡ packet) × (link ≡ Ethernet) ⊎ IsMade link packet (frame_bytes frame)
by_link link packet frame is = grind (arith, own_bytes, is_made)

by_length : (link : Link) (packet : List ℕ) (frame : FrameParts) (none : Bool)
    → (length packet == 0) ≡ none
    → (if none then Some (own_frame packet) else framed_packet link packet) ≡ Some frame
    → (frame_bytes frame ≡ packet) × ((link ≡ Ethernet) ⊎ (length packet ≡ 0))
    ⊎ IsMade link packet (frame_bytes frame)
by_length link packet frame none none' is = grind (arith, own_bytes, eqb-true, by_link)

-- the bytes of a frame are those of its parts
by_parts : (link : Link) (packet frame : List ℕ) (found : Option FrameParts)
    → frame_parts link packet ≡ found → option_map frame_bytes found ≡ Some frame
    → (frame ≡ packet) × ((link ≡ Ethernet) ⊎ (length packet ≡ 0)) ⊎ IsMade link packet frame
by_parts link packet frame found found' is = grind (arith, by_length)

back_after : (source rest : List ℕ) (n : ℕ) (found : Option ℕ) (frame : FrameParts)
    → framed_after source found (drop n rest) ≡ Some frame → IsBack rest frame.bytes
back_after source rest n (Some t) frame is =
    let same : drop n rest ≡ frame.bytes = cc in
    subst (λ (b : List ℕ). IsBack rest b) same
    (record { prefix = take n rest; parts = sym (take-append-drop n rest) })
back_after source rest n None frame is = absurd (cc)

back_own : (packet : List ℕ) (frame : FrameParts) → Some (own_frame packet) ≡ Some frame
    → IsBack packet frame.bytes
back_own packet frame is = grind arith

back_packet : (link : Link) (packet : List ℕ) (frame : FrameParts)
    → framed_packet link packet ≡ Some frame → IsBack packet frame.bytes
back_packet Ethernet packet frame is = back_own packet frame is
back_packet Ip packet frame is = back_after no_address packet 0 (ip_type packet) frame is
back_packet Null packet frame is =
    back_after no_address packet 4 (family_type (null_family packet)) frame
    (not_short (nat_lt (length packet) 4) _ frame is).1
back_packet Loop packet frame is =
    back_after no_address packet 4 (family_type (word Big packet 0)) frame
    (not_short (nat_lt (length packet) 4) _ frame is).1
back_packet Sll packet frame is =
    back_after (address_at (half Big packet 4) packet 6) packet 16
    (cooked_type (half Big packet 2) (half Big packet 14)) frame
    (not_short (nat_lt (length packet) 16) _ frame is).1
back_packet Sll2 packet frame is =
    back_after (address_at (slice_index packet 11) packet 12) packet 20
    (cooked_type (half Big packet 8) (half Big packet 0)) frame
    (not_short (nat_lt (length packet) 20) _ frame is).1
back_packet (Other number) packet frame is = absurd (let e : None ≡ Some frame = is in cc)

back_by : (link : Link) (packet : List ℕ) (frame : FrameParts) (none : Bool)
    → (if none then Some (own_frame packet) else framed_packet link packet) ≡ Some frame
    → IsBack packet frame.bytes
back_by link packet frame none is = grind (arith, back_own, back_packet)

-- the bytes after a header that was made are the end of the packet
pub frame_back : (link : Link) (packet : List ℕ) (frame : FrameParts)
    → frame_parts link packet ≡ Some frame → IsBack packet frame.bytes
frame_back link packet frame is = back_by link packet frame (length packet == 0) is

own_fits : (link : Link) (packet frame : List ℕ) → length packet ≤ captured_limit link
    → frame ≡ packet → (link ≡ Ethernet) ⊎ (length packet ≡ 0) → length frame ≤ FRAME_LIMIT
own_fits link packet frame short same h = grind arith

-- a frame that was found
pub found_frame : (link : Link) (packet : List ℕ) (found : Option FrameParts)
    → found ≡ frame_parts link packet
    → IfSome found (λ frame. length (frame_bytes frame) ≤ length packet + 14)
found_frame link packet found is = grind (arith, nat_tests)

pub found_back : (link : Link) (packet : List ℕ) (found : Option FrameParts)
    → found ≡ frame_parts link packet → IfSome found (λ frame. IsBack packet frame.bytes)
found_back link packet found is = grind (arith, frame_back)

-- ---- what is reported of a packet

pub header_len : (source : List ℕ) (ether_type : ℕ) → length source ≡ 6
    → 14 ≡ length (ethernet_header source ether_type)
header_len source ether_type six = grind (arith, length-append)

found_reported : (reason : Reason) (found : Option (List ℕ)) (frame : List ℕ)
    → reported_by reason found ≡ Ok frame → found ≡ Some frame
found_reported reason found frame is = grind arith

reported_is : (link : Link) (long : Bool) (found : Option (List ℕ)) (frame : List ℕ)
    → (if long then Err (reason_on link TooLong) else reported_by (reason_on link NoFrame) found)
    ≡ Ok frame → (long ≡ false) × (found ≡ Some frame)
reported_is link long found frame is = grind arith

pub reported_fits : (unfit : Unfit) (link : Link) (packet frame : List ℕ)
    → reported_frame unfit link packet ≡ Some frame → length frame ≤ FRAME_LIMIT
reported_fits unfit link packet frame is = grind (arith, nat_tests)

-- how many bytes a frame has, if it has any
made_len : (link : Link) (packet frame : List ℕ) → IsMade link packet frame
    → length frame ≡ frame_len link (length packet)
made_len link packet frame m =
    rw m.parts (omega (
      arith,
      length-append (ethernet_header m.source m.ether_type) (drop (head_len link) packet),
      header_len m.source m.ether_type m.size,
      length-drop (head_len link) packet,
      m.fits,
    ))

own_len : (link : Link) (packet frame : List ℕ) → frame ≡ packet
    → (link ≡ Ethernet) ⊎ (length packet ≡ 0) → 0 < length frame
    → length frame ≡ frame_len link (length packet)
own_len link packet frame same h some = grind arith

pub framed_len : (link : Link) (packet frame : List ℕ) → framed link packet ≡ Some frame
    → 0 < length frame → length frame ≡ frame_len link (length packet)
framed_len link packet frame is some =
    elim (by_parts link packet frame (frame_parts link packet) refl is) [
      | inl own ↦ own_len link packet frame own.0 own.1 some
      | inr made ↦ made_len link packet frame made
    ]

framed_whole : (link : Link) (packet frame : List ℕ) → framed link packet ≡ Some frame
    → length frame ≤ frame_len link (length packet)
framed_whole link packet [] is = omega arith
framed_whole link packet (byte ∷ bytes) is =
    omega (arith, framed_len link packet (byte ∷ bytes) is (omega arith))

-- of a packet that is passed over no bytes are reported
pub reported_whole : (unfit : Unfit) (link : Link) (packet frame : List ℕ)
    → reported_frame unfit link packet ≡ Some frame → length frame ≤ frame_len link (length packet)
reported_whole unfit link packet frame is = grind (arith, nat_tests, framed_whole)

pub reported_bytes : (unfit : Unfit) (link : Link) (packet frame : List ℕ) → Bytes packet
    → reported_frame unfit link packet ≡ Some frame → Bytes frame
reported_bytes unfit link packet frame bytes is = grind (arith, nat_tests)

-- ---- hex digits of a header and of what follows it

encode_with-append : (digits xs ys : List ℕ)
    → encode_with digits (xs ++ ys) ≡ encode_with digits xs ++ encode_with digits ys
unfolding encode_with
encode_with-append digits [] ys = refl
encode_with-append digits (x ∷ xs) ys = grind (arith, encode_with-append digits xs ys)

pub encode_lower-append : (xs ys : List ℕ)
    → encode_lower (xs ++ ys) ≡ encode_lower xs ++ encode_lower ys
encode_lower-append xs ys = encode_with-append lower_digits xs ys

-- ---- a header has bytes

pub header_some : (header : Header) (rest : List ℕ)
    → (length (made_header (Some header) ++ rest) == 0) ≡ false
header_some header rest = ne_eqb (length (made_header (Some header) ++ rest)) 0 (λ e. omega arith)

-- the digits of a header come before those of what follows it
pub header_digits : (source : List ℕ) (ether_type : ℕ) (following : List ℕ) → length source ≡ 6
    → take 28 (encode_lower (ethernet_header source ether_type ++ following))
    ≡ encode_lower (ethernet_header source ether_type)
header_digits source ether_type following six =
    let header = ethernet_header source ether_type in
    let few = header_len source ether_type six in
    let size : length (encode_lower header) ≡ 28 =
    omega (arith, length-encode_with lower_digits header, few) in
    rw (encode_lower-append header following)
    (subst (λ n. take n (encode_lower header ++ encode_lower following) ≡ encode_lower header) size
    (take-append_seam (encode_lower header) (encode_lower following)))

pub header_digits_len : (source : List ℕ) (ether_type : ℕ) (digits : List ℕ) → length source ≡ 6
    → digits ≡ encode_lower (ethernet_header source ether_type ++ 0 ∷ 0 ∷ [])
    → length (take 28 digits) ≡ 28
header_digits_len source ether_type digits six is =
    let header = ethernet_header source ether_type in
    let few = header_len source ether_type six in
    let bytes = length-append header (0 ∷ 0 ∷ []) in
    let size : 28 ≤ length digits =
    rw is (omega (arith, length-encode_with lower_digits (header ++ 0 ∷ 0 ∷ []), few, bytes)) in
    length-take-le 28 digits size

pub six_bytes : (xs rest : List ℕ) → length xs ≡ 6
    → slice_index xs 0 ∷ slice_index xs 1 ∷ slice_index xs 2 ∷ slice_index xs 3 ∷ slice_index xs 4
    ∷ slice_index xs 5 ∷ rest ≡ xs ++ rest
six_bytes (a ∷ b ∷ c ∷ d ∷ e ∷ f ∷ []) rest size = refl
six_bytes [] rest size = absurd (omega arith)
six_bytes (a ∷ []) rest size = absurd (omega arith)
six_bytes (a ∷ b ∷ []) rest size = absurd (omega arith)
six_bytes (a ∷ b ∷ c ∷ []) rest size = absurd (omega arith)
six_bytes (a ∷ b ∷ c ∷ d ∷ []) rest size = absurd (omega arith)
six_bytes (a ∷ b ∷ c ∷ d ∷ e ∷ []) rest size = absurd (omega arith)
six_bytes (a ∷ b ∷ c ∷ d ∷ e ∷ f ∷ g ∷ xs) rest size = absurd (omega arith)
