-- What the frame with a message, or with a fragment of one, is read as, whatever the letter.
use Rattle.std.proofs.Common.{◌≡◌, ◌∙◌, sym, ap, refl, ℕ, ◌≤◌, ◌==◌, Bool, true, false, List, [], ◌∷◌, length, Option}
use Rattle.std.proofs.Common.{Some, Ok, Err, arith}
use Rattle.std.specs.Prelude.{◌||◌}
use Rattle.etherparse.specs.Built.{packet_with_number}
use Rattle.etherparse.specs.BuiltFrames.{Frames, NamesNone, addresses_in, fields_in, ethernet_packet as frame_headers}
use Rattle.etherparse.specs.BuiltFrames.{ids_in, fragment_with}
use Rattle.etherparse.specs.declared.defrag.ip_frag_version_spec_id.IpFragVersionSpecId.{IpFragVersionSpecId}
use Rattle.etherparse.specs.ext.Follow.{has_slot}
use Rattle.etherparse.specs.ip.Ipv4.{is_fragmenting}
use Rattle.etherparse.specs.link.declared.link.ethernet2_header.Ethernet2Header.{Ethernet2Header}
use Rattle.etherparse.specs.ipslice.Packet.{FragmentFields}
use Rattle.etherparse.specs.packet.Class.{class_of}
use Rattle.etherparse.specs.packet.Class.Class.{Cut, Refused, Whole}
use Rattle.etherparse.specs.packet.IpHeaders.{is_fragmenting as fragments}
use Rattle.etherparse.specs.packet.Readable.{ReadMessage, message_at}
use Rattle.etherparse.specs.packet.declared.err.packet.slice_error.SliceError.{SliceError}
use Rattle.etherparse.specs.packet.declared.net.ip_headers.IpHeaders.{IpHeaders}
use Rattle.etherparse.specs.tag.declared.link.vlan_header.VlanHeader.{VlanHeader}
use Rattle.netlines.specs.Letter.{LetterFits, identification_of, name_of}
use Rattle.netlines.specs.Sealed.{addresses_of}
use Rattle.netlines.specs.Posted.{frame}
use Rattle.netlines.specs.PostRefusal.{names_extension, room}
use Rattle.netlines.specs.PostedHeaders.{ip_headers_of, tags_of}
use Rattle.netlines.specs.declared.letter.Letter.{Letter}
use Rattle.netlines.proofs.LetterLemmas.{HeadersFit, ethernet_of, headers_fit}
use Rattle.netlines.proofs.PostLemmas.{framed, unrefused_fragment}

-- a letter's number names no extension header, and a message or a fragment of these bytes fits a
-- packet
pub record CanCarry (letter : Letter) (cut : Bool) (text : List ℕ) : Type 0 where
  pub number : names_extension letter.version_id letter.number.0 ≡ false
  pub fits : length text ≤ room letter.version_id cut

no_one : (a b c d e : Bool) → (a || b || c || d || e) ≡ false
    → (a || (b || (c || (d || (e || false))))) ≡ false
no_one a b c d e is = grind arith

no_slot : (n : ℕ) → ((n == 0) || (n == 43) || (n == 44) || (n == 51) || (n == 60)) ≡ false
    → has_slot n ≡ false
no_slot n is = no_one (n == 0) (n == 43) (n == 44) (n == 51) (n == 60) is

-- a number that names no extension header
names_none : (version_id : IpFragVersionSpecId) (cut : Bool) (offset : ℕ) (more : Bool) (number : ℕ)
    → names_extension version_id number ≡ false
    → NamesNone (ip_headers_of version_id cut offset more) number
names_none version_id cut offset more number is = grind arith

-- the frame is one that the builder writes
module _ (letter : Letter) (cut : Bool) (offset : ℕ) (more : Bool) (text : List ℕ)
    (fit : HeadersFit letter cut offset more) (carries : CanCarry letter cut text) where
  abbrev ip : IpHeaders
  ip = ip_headers_of letter.version_id cut offset more

  frames : Frames (ethernet_of letter) (tags_of letter.vlans.items) ip letter.number.0 (length text)
  frames = record {
    link_fits = fit.link;
    tags_fit = fit.tags;
    ip_fits = fit.ip;
    names_none = names_none letter.version_id cut offset more letter.number.0 carries.number;
    written = unrefused_fragment letter cut offset more (length text) carries.fits;
  }

  as_built : class_of (frame letter cut (record { offset = offset; more = more; text = text }))
      ≡ class_of (packet_with_number (frame_headers (ethernet_of letter) (tags_of
      letter.vlans.items) ip)
      letter.number.0 text)
  as_built = ap class_of
      (sym (framed letter cut (record { offset = offset; more = more; text = text })))

addresses_are : (version_id : IpFragVersionSpecId) (cut : Bool) (offset : ℕ) (more : Bool)
    → addresses_in (ip_headers_of version_id cut offset more) ≡ addresses_of version_id
addresses_are version_id cut offset more = grind arith

tags_again : (ids : List ℕ) → length ids ≤ 2 → ids_in (tags_of ids) ≡ ids
tags_again [] few = refl
tags_again (id ∷ []) few = refl
tags_again (outer ∷ inner ∷ []) few = refl
tags_again (outer ∷ inner ∷ third ∷ others) few = absurd (omega arith)

uncut_headers : (version_id : IpFragVersionSpecId)
    → fragments (ip_headers_of version_id false 0 false) ≡ false
uncut_headers version_id = grind arith

fragment_headers : (version_id : IpFragVersionSpecId) (offset : ℕ) (more : Bool)
    → is_fragmenting more offset ≡ true → fragments (ip_headers_of version_id true offset more) ≡ true
fragment_headers version_id offset more is = grind arith

fragment_fields : (version_id : IpFragVersionSpecId) (offset : ℕ) (more : Bool)
    → fields_in (ip_headers_of version_id true offset more)
    ≡ Some (record { identification = identification_of version_id; offset = offset; more = more })
fragment_fields version_id offset more = grind arith

-- what is said of built frames
abbrev pub WholeIsRead : Type 0
WholeIsRead = (link : Ethernet2Header) (vlan : Option VlanHeader) (ip : IpHeaders) (number : ℕ)
    (payload : List ℕ) → Frames link vlan ip number (length payload)
    → (read : ReadMessage) → fragments ip ≡ false → message_at number payload ≡ Ok read
    → class_of (packet_with_number (frame_headers link vlan ip) number payload)
    ≡ Whole (addresses_in ip) number payload read

abbrev pub RefusedIsRead : Type 0
RefusedIsRead = (link : Ethernet2Header) (vlan : Option VlanHeader) (ip : IpHeaders) (number : ℕ)
    (payload : List ℕ) → Frames link vlan ip number (length payload)
    → (e : SliceError) → fragments ip ≡ false → message_at number payload ≡ Err e
    → class_of (packet_with_number (frame_headers link vlan ip) number payload) ≡ Refused

abbrev pub FragmentIsRead : Type 0
FragmentIsRead = (link : Ethernet2Header) (vlan : Option VlanHeader) (ip : IpHeaders) (number : ℕ)
    (payload : List ℕ) → Frames link vlan ip number (length payload)
    → (reported : FragmentFields) → fragments ip ≡ true → fields_in ip ≡ Some reported
    → class_of (packet_with_number (frame_headers link vlan ip) number payload)
    ≡ fragment_with vlan ip number payload reported

module _ (letter : Letter) where
  pub frame_is_whole : WholeIsRead → LetterFits letter
      → (message : List ℕ) (read : ReadMessage) → CanCarry letter false message
      → message_at letter.number.0 message ≡ Ok read
      → class_of (frame letter false (record { offset = 0; more = false; text = message }))
      ≡ Whole (addresses_of letter.version_id) letter.number.0 message read
  frame_is_whole law fit message read carries is =
      as_built letter false 0 false message
      (headers_fit letter false 0 false (omega arith) fit) carries
      ∙ law (ethernet_of letter) (tags_of letter.vlans.items)
      (ip_headers_of letter.version_id false 0 false) letter.number.0 message
      (frames letter false 0 false message
      (headers_fit letter false 0 false (omega arith) fit) carries) read
      (uncut_headers letter.version_id) is
      ∙ ap (λ a. Whole a letter.number.0 message read) (addresses_are letter.version_id false 0 false)

  pub frame_is_refused : RefusedIsRead → LetterFits letter
      → (message : List ℕ) (e : SliceError) → CanCarry letter false message
      → message_at letter.number.0 message ≡ Err e
      → class_of (frame letter false (record { offset = 0; more = false; text = message }))
      ≡ Refused
  frame_is_refused law fit message e carries is =
      as_built letter false 0 false message
      (headers_fit letter false 0 false (omega arith) fit) carries
      ∙ law (ethernet_of letter) (tags_of letter.vlans.items)
      (ip_headers_of letter.version_id false 0 false) letter.number.0 message
      (frames letter false 0 false message
      (headers_fit letter false 0 false (omega arith) fit) carries) e (uncut_headers letter.version_id) is

  pub frame_is_fragment : FragmentIsRead → (offset : ℕ) (more : Bool) → HeadersFit letter true offset more
      → (text : List ℕ) → CanCarry letter true text → is_fragmenting more offset ≡ true
      → class_of (frame letter true (record { offset = offset; more = more; text = text }))
      ≡ Cut (name_of letter) offset more text
  frame_is_fragment law offset more fit text carries is =
      as_built letter true offset more text fit carries
      ∙ law (ethernet_of letter) (tags_of letter.vlans.items)
      (ip_headers_of letter.version_id true offset more) letter.number.0 text
      (frames letter true offset more text fit carries) _ (fragment_headers letter.version_id offset more is)
      (fragment_fields letter.version_id offset more)
      ∙ (λ i. Cut (record {
        vlan_ids = tags_again letter.vlans.items fit.few i;
        addresses = addresses_are letter.version_id true offset more i;
        identification = identification_of letter.version_id;
        number = letter.number.0;
      }) offset more text)
