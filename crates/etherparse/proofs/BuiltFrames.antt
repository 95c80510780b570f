-- The class of an Ethernet II frame whose IP packet was built.
use Rattle.std.proofs.Common.{◌≡◌, ◌∙◌, sym, ap, refl, ℕ, ◌+◌, ◌≤◌, ◌==◌, ◌||◌, Bool, true, false, cond, not, List}
use Rattle.std.proofs.Common.{◌++◌, length, Option, Some, None, Ok, Err, arith, append_assoc, length-append}
use Rattle.std.specs.Prelude.{nat_lt}
use Rattle.std.specs.Option.{option_map, option_map_or, option_or}
use Rattle.std.specs.List.{list_any}
use Rattle.ep_base.specs.declared.err.value_too_big_error.ValueTooBigError.{ValueTooBigError}
use Rattle.ep_base.specs.declared.len_source.LenSource.{LenSource}
use Rattle.ep_base.specs.declared.len_source.LenSource.TheVariants.{Ipv4HeaderTotalLen}
use Rattle.ep_ext.specs.Follow.{header_len}
use Rattle.ep_ext.specs.Fragment.{fragment_encoding, fragments, fragment_header_of}
use Rattle.ep_ext.specs.Ipv4Exts.{ipv4_exts_encoding}
use Rattle.ep_ext.specs.Link.{all_slots, first_named, pieces_in, with_links}
use Rattle.ep_ext.specs.Value.{Piece, bytes_of}
use Rattle.ep_ext.specs.declared.net.ipv4_extensions.Ipv4Extensions.{Ipv4Extensions}
use Rattle.ep_ext.specs.declared.net.ipv6_extensions.Ipv6Extensions.{Ipv6Extensions}
use Rattle.ep_ext.specs.declared.net.ipv6_fragment_header.Ipv6FragmentHeader.{Ipv6FragmentHeader}
use Rattle.ep_ip.specs.Ipv4 as ipv4
use Rattle.ep_ip.specs.Ipv6 as ipv6
use Rattle.ep_ip.specs.declared.net.ipv4_header.Ipv4Header.{Ipv4Header}
use Rattle.ep_ip.specs.declared.net.ipv6_header.Ipv6Header.{Ipv6Header}
use Rattle.ep_ipslice.specs.Ipv6Packet.{ipv6_packet_at, extensions_in}
use Rattle.ep_ipslice.specs.Packet.{FragmentFields, IpPayload, Ipv6Packet, ipv6_fragment_fields}
use Rattle.ep_ipslice.specs.Ipv6Exts.{is_fragmenting_piece}
use Rattle.ep_link.specs.declared.link.ethernet2_header.Ethernet2Header.{Ethernet2Header}
use Rattle.ep_packet.proofs.ClassLemmas.{ipv4_class_at, ipv6_class}
use Rattle.ep_packet.specs.Class.{class_of, ip_class}
use Rattle.ep_packet.specs.Class.Class.{Refused, Whole}
use Rattle.ep_packet.specs.IpHeaders.{is_fragmenting, with_exts}
use Rattle.ep_packet.specs.Readable.{ReadMessage, message_at}
use Rattle.ep_packet.specs.declared.addresses.Addresses.TheVariants.{V6}
use Rattle.ep_packet.specs.declared.err.packet.slice_error.SliceError.{SliceError}
use Rattle.ep_packet.specs.declared.net.ip_headers.IpHeaders.{IpHeaders}
use Rattle.ep_packet.specs.declared.net.ip_headers.IpHeaders.TheVariants.{Ipv4, Ipv6}
use Rattle.ep_tag.specs.declared.link.vlan_header.VlanHeader.{VlanHeader}
use Rattle.etherparse.proofs.FrameTags.{class_framed}
use Rattle.etherparse.proofs.FramedIpv4 as v4
use Rattle.etherparse.proofs.FramedIpv6 as v6
use Rattle.etherparse.proofs.LinkedExts.{linked_len, pieces_len}
use Rattle.etherparse.proofs.ViewedRows.{bytes_viewed, row_viewed, stated_by, viewed}
use Rattle.etherparse.specs.Built.{packet_with_number, too_long}
use Rattle.etherparse.specs.BuiltFrames.{FragmentFits, Frames, addresses_in, fields_in, ethernet_packet, ids_in}
use Rattle.etherparse.specs.BuiltFrames.{ipv6_fields, fragment_with}
use Rattle.etherparse.specs.declared.err.packet.build_write_error.BuildWriteError.{BuildWriteError}

-- a length that is not refused fits its field
taken : (b : Bool) (e : ValueTooBigError ℕ) (headers : IpHeaders)
    → ◌≡◌ {A = Option BuildWriteError}
    (option_or (too_long (cond b (Err e) (Ok headers))) None) None → b ≡ false
taken b e headers is = grind arith

uncapped : (b : Bool) (n : ℕ) → cond b 18446744073709551615 n ≤ 65535
    → cond b 18446744073709551615 n ≡ n
uncapped b n short = grind arith

summed : (n m : ℕ) → with_exts n m ≤ 65535 → with_exts n m ≡ n + m
summed n m short = uncapped (nat_lt 18446744073709551615 (n + m)) (n + m) short

len_fits : (x len : ℕ) → nat_lt 65535 (with_exts (with_exts len 0) x) ≡ false
    → x + (0 + len) ≤ 65535
len_fits x len short = grind arith

-- an IP payload of this number, whatever its length came from
abbrev pub payload_with : IpHeaders → (number : ℕ) → (payload : List ℕ) → LenSource → IpPayload
payload_with ip number payload source =
    record {
      ip_number = record { 0 = number };
      fragmented = is_fragmenting ip;
      len_source = source;
      payload = payload;
    }

abbrev pub ClassIs : Ethernet2Header → Option VlanHeader → IpHeaders → (number : ℕ)
    → (payload : List ℕ) → Type 0
ClassIs link vlan ip number payload = (source : LenSource)
    × (class_of (packet_with_number (ethernet_packet link vlan ip) number payload)
    ≡ ip_class (ids_in vlan) (addresses_in ip)
    (payload_with ip number payload source) (fields_in ip))

module _ (found : v4.Found) (link : Ethernet2Header) (vlan : Option VlanHeader) (h : Ipv4Header)
    (e : Ipv4Extensions) (number : ℕ) (payload : List ℕ)
    (frames : Frames link vlan (Ipv4 h e) number (length payload)) where
  ipv4_short : ipv4.header_len h + (length (ipv4_exts_encoding e) + (0 + length payload)) ≤ 65535
  ipv4_short = grind arith

  ipv4_class_is : ClassIs link vlan (Ipv4 h e) number payload
  ipv4_class_is = (
    Ipv4HeaderTotalLen,
    class_framed link vlan 0x0800 _ frames.link_fits frames.tags_fit
        (record { vlan = refl; macsec = refl; short = omega arith })
        ∙ ap (ipv4_class_at (ids_in vlan))
        (v4.found_is found h e number payload (0 + length payload)
        (omega arith) frames.ip_fits.0 frames.ip_fits.1 frames.names_none ipv4_short)
        ∙ v4.class_is found h e number payload (0 + length payload)
        (omega arith) frames.ip_fits.0 frames.ip_fits.1 frames.names_none ipv4_short (ids_in vlan),
  )

-- what the bytes of a fragment header say of the payload as a fragment
abbrev stated_fields : List ℕ → FragmentFields
stated_fields header = record {
  identification = (fragment_header_of header).identification;
  offset = (fragment_header_of header).fragment_offset;
  more = (fragment_header_of header).more_fragments;
}

-- the fields of the fragment header, read from its bytes
fields_are : (o : Option Ipv6FragmentHeader) (n : ℕ) → FragmentFits o
    → option_map stated_fields
    (option_map fragment_encoding
    (option_map {T = Ipv6FragmentHeader} (λ h. record h { next_header = record { 0 = n } }) o))
    ≡ option_map ipv6_fields o
fields_are o n fits = grind arith

fragments_are : (o : Option Ipv6FragmentHeader) (n : ℕ) → FragmentFits o
    → option_map_or (λ header. fragments (fragment_header_of header))
    (option_map fragment_encoding
    (option_map {T = Ipv6FragmentHeader} (λ h. record h { next_header = record { 0 = n } }) o))
    false
    ≡ option_map_or fragments o false
fragments_are o n fits = grind arith

module _ (rows : v6.RowsFound) (ends : v6.RowEnds) (link : Ethernet2Header)
    (vlan : Option VlanHeader) (h : Ipv6Header) (e : Ipv6Extensions) (number : ℕ) (payload : List ℕ)
    (frames : Frames link vlan (Ipv6 h e) number (length payload)) where
  ipv6_short : header_len e + (0 + length payload) ≤ 65535
  ipv6_short = len_fits (header_len e) (length payload) (taken _ _ _ frames.written)

  abbrev whole : Ipv6Header
  whole = record h {
    payload_length = header_len e + (0 + length payload);
    next_header = record { 0 = first_named e all_slots number };
  }

  whole_fits : ipv6.Fits whole
  whole_fits = record {
    traffic_class = frames.ip_fits.0.traffic_class;
    flow_label = frames.ip_fits.0.flow_label;
    payload_length = omega (arith, ipv6_short);
    source = frames.ip_fits.0.source;
    destination = frames.ip_fits.0.destination;
  }

  abbrev pieces : List Piece
  pieces = pieces_in (with_links e number) all_slots

  abbrev head : List ℕ
  head = ipv6.encoding whole

  abbrev packet : Ipv6Packet
  packet = v6.packet_with_row head (viewed pieces) number payload

  size : ipv6.payload_length_of head ≡ length (bytes_of (viewed pieces) ++ payload)
  size = grind (arith, viewed, bytes_viewed, pieces_len, linked_len, whole_fits, length-append)

  found_is : ipv6_packet_at ((head ++ bytes_of pieces) ++ payload) ≡ Ok packet
  found_is =
      ap ipv6_packet_at (append_assoc head (bytes_of pieces) payload)
      ∙ ap (λ (xs : List ℕ). ipv6_packet_at (head ++ (xs ++ payload))) (sym (bytes_viewed pieces))
      ∙ v6.packet_is rows ends head (viewed pieces) number payload (v6.is_header whole whole_fits)
      (row_viewed (first_named e all_slots number) pieces number frames.ip_fits.2)
      frames.names_none size

  extensions_agree : ipv6_fragment_fields (extensions_in packet) ≡ fields_in (Ipv6 h e)
  extensions_agree =
      ap ipv6_fragment_fields
      (v6.extensions_are rows ends head (viewed pieces) number payload
      (v6.is_header whole whole_fits)
      (row_viewed (first_named e all_slots number) pieces number frames.ip_fits.2)
      frames.names_none)
      ∙ ap (option_map stated_fields) (stated_by (with_links e number)).0
      ∙ fields_are e.fragment _ frames.ip_fits.1

  fragmented_is : list_any is_fragmenting_piece (viewed pieces) ≡ is_fragmenting (Ipv6 h e)
  fragmented_is = (stated_by (with_links e number)).1 ∙ fragments_are e.fragment _ frames.ip_fits.1

  class_is : ipv6_class (ids_in vlan) packet
      ≡ ip_class (ids_in vlan) (V6 h.source h.destination)
      (payload_with (Ipv6 h e) number payload packet.payload.len_source) (fields_in (Ipv6 h e))
  class_is = λ i. ip_class (ids_in vlan)
      (V6 (v6.source_is whole whole_fits i) (v6.destination_is whole whole_fits i))
      (record {
        ip_number = record { 0 = number };
        fragmented = fragmented_is i;
        len_source = packet.payload.len_source;
        payload = payload;
      })
      (extensions_agree i)

  ipv6_class_is : ClassIs link vlan (Ipv6 h e) number payload
  ipv6_class_is = (
    packet.payload.len_source,
    grind (arith, class_framed, found_is, class_is),
  )

-- offset and flag mark a fragment alike in both versions
not_zero : (more : Bool) (offset : ℕ) → (more || nat_lt 0 offset) ≡ (more || not (offset == 0))
not_zero more offset = grind arith

some_same : (x y : FragmentFields) → ◌≡◌ {A = Option FragmentFields} (Some x) (Some y) → x ≡ y
some_same x y is = cc

abbrev fragments_by : FragmentFields → Bool
fragments_by stated = ipv4.is_fragmenting stated.more stated.offset

agree : (ip : IpHeaders) (stated : FragmentFields) → fields_in ip ≡ Some stated
    → fragments_by stated ≡ is_fragmenting ip
agree ip stated is = grind arith

module _ (found : v4.Found) (rows : v6.RowsFound) (ends : v6.RowEnds) where
  class_built : (link : Ethernet2Header) (vlan : Option VlanHeader) (ip : IpHeaders) (number : ℕ)
      (payload : List ℕ) → Frames link vlan ip number (length payload)
      → ClassIs link vlan ip number payload
  class_built link vlan (Ipv4 h e) number payload frames =
      ipv4_class_is found link vlan h e number payload frames
  class_built link vlan (Ipv6 h e) number payload frames =
      ipv6_class_is rows ends link vlan h e number payload frames

  module _ (link : Ethernet2Header) (vlan : Option VlanHeader) (ip : IpHeaders) (number : ℕ)
      (payload : List ℕ) (frames : Frames link vlan ip number (length payload)) where
    pub built_whole : (read : ReadMessage) → is_fragmenting ip ≡ false
        → message_at number payload ≡ Ok read
        → class_of (packet_with_number (ethernet_packet link vlan ip) number payload)
        ≡ Whole (addresses_in ip) number payload read
    built_whole read uncut is =
        let class = class_built link vlan ip number payload frames in
        grind arith

    pub built_refused : (e : SliceError) → is_fragmenting ip ≡ false
        → message_at number payload ≡ Err e
        → class_of (packet_with_number (ethernet_packet link vlan ip) number payload) ≡ Refused
    built_refused e uncut is =
        let class = class_built link vlan ip number payload frames in
        grind arith

    pub built_fragment : (stated : FragmentFields) → is_fragmenting ip ≡ true → fields_in ip ≡ Some stated
        → class_of (packet_with_number (ethernet_packet link vlan ip) number payload)
        ≡ fragment_with vlan ip number payload stated
    built_fragment stated cut is =
        let class = class_built link vlan ip number payload frames in
        grind arith
