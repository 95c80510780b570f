-- The IPv4 packet whose headers and payload were built, as it is found.
use Rattle.std.proofs.Common.{◌≡◌, ◌≢◌, ◌∙◌, ap, refl, ℕ, ◌+◌, ◌*◌, ◌/◌, ◌%◌, ◌^◌, ◌≤◌, ◌<◌, ◌==◌, Bool, is_some, List}
use Rattle.std.proofs.Common.{◌++◌, length, take, drop, Option, Some, None, Result, Ok, arith, append_assoc}
use Rattle.std.proofs.Common.{length-append, if◌then◌else◌}
use Rattle.std.specs.Int.{bit_at}
use Rattle.std.proofs.lemmas.List.{drop_at, take_all, take_at, get_or_append_left}
use Rattle.std.proofs.lemmas.Bool.{le-ltb, eq-eqb, ne_eqb}
use Rattle.std.specs.Result.{result_map_both}
use Rattle.ep_base.specs.declared.len_source.LenSource.TheVariants.{Ipv4HeaderTotalLen}
use Rattle.ep_ext.specs.Auth.{auth_at, auth_encoding}
use Rattle.ep_ext.specs.Chain.{IsPiece, prefix_of, of_auth}
use Rattle.ep_ext.specs.Ipv4Exts.{auth_after, auth_bytes, ipv4_exts_encoding, ipv4_with_link, number_after}
use Rattle.ep_base.specs.declared.err.slice_error.SliceError.{SliceError}
use Rattle.ep_base.specs.declared.err.slice_error.SliceError.TheVariants as slice_error
use Rattle.ep_ext.specs.declared.err.ip_auth.header_error.HeaderError.{HeaderError as AuthFault}
use Rattle.ep_ext.specs.declared.net.ip_auth_header.IpAuthHeader.{IpAuthHeader}
use Rattle.ep_ext.specs.declared.net.ipv4_extensions.Ipv4Extensions.{Ipv4Extensions}
use Rattle.ep_ext.specs.declared.net.ipv6_ext_slot.Ipv6ExtSlot.{Ipv6ExtSlot}
use Rattle.ep_ext.specs.declared.net.ipv6_ext_slot.Ipv6ExtSlot.TheVariants.{Authentication}
use Rattle.ep_ip.specs.Ipv4.{Fits, IsIpv4Header, destination_of, fragment_offset_of, header_len, identification_of}
use Rattle.ep_ip.specs.Ipv4.{is_fragmenting, more_fragments_of, protocol_of, source_of, encoding, total_len_of}
use Rattle.ep_ip.specs.Ipv4Checksum.{right_checksum}
use Rattle.ep_ip.specs.declared.net.ipv4_header.Ipv4Header.{Ipv4Header}
use Rattle.ep_ipslice.specs.Ipv4Packet.{ipv4_packet_at}
use Rattle.ep_ipslice.specs.Packet.{Ipv4Packet}
use Rattle.ep_packet.proofs.ClassLemmas.{ipv4_class}
use Rattle.ep_packet.specs.Class.{ip_class}
use Rattle.ep_packet.specs.declared.addresses.Addresses.TheVariants.{V4}
use Rattle.etherparse.proofs.FrameTags.{two_bytes}
use Rattle.etherparse.specs.BuiltFrames.{AuthFits}

flag_bits : (dont more : Bool) (offset : ℕ) → offset < 2 ^ 13
    → let n = (if dont then 2 ^ 14 else 0) + (if more then 2 ^ 13 else 0) + offset in
    ((bit_at (n / 256 % 256) 5 == 1) ≡ more) × ((256 * (n / 256 % 256) + n % 256) % 2 ^ 13 ≡ offset)
flag_bits dont more offset small = grind arith

-- the fields of a header, read from its bytes
module _ (h : Ipv4Header) (fits : Fits h) where
  head_len : length (encoding h) ≡ header_len h
  head_len = grind (arith, length-append)

  is_header : IsIpv4Header (encoding h)
  is_header = record {
    version = omega (arith, fits.options.fits);
    minimum = omega (arith, fits.options.fits);
    whole = omega (arith, head_len, fits.options.fits, fits.options.words);
  }

  total_is : total_len_of (encoding h) ≡ h.total_len
  total_is = two_bytes h.total_len (omega (arith, fits.total_len))

  identification_is : identification_of (encoding h) ≡ h.identification
  identification_is = two_bytes h.identification (omega (arith, fits.identification))

  more_is : more_fragments_of (encoding h) ≡ h.more_fragments
  more_is = (flag_bits h.dont_fragment h.more_fragments h.fragment_offset fits.fragment_offset).0

  offset_is : fragment_offset_of (encoding h) ≡ h.fragment_offset
  offset_is = (flag_bits h.dont_fragment h.more_fragments h.fragment_offset fits.fragment_offset).1

  source_is : source_of (encoding h) ≡ h.source
  source_is = ap (take 4) (append_assoc h.source h.destination h.options)
      ∙ take_at h.source (h.destination ++ h.options) 4 fits.source

  destination_is : destination_of (encoding h) ≡ h.destination
  destination_is =
      ap (λ (xs : List ℕ). take 4 (drop 4 xs)) (append_assoc h.source h.destination h.options)
      ∙ ap (take 4) (drop_at h.source (h.destination ++ h.options) 4 fits.source)
      ∙ take_at h.destination h.options 4 fits.destination

-- a header, what it names, and a message that extends to the end
packet_is : (head exts message : List ℕ) (auth : Option (List ℕ)) → IsIpv4Header head
    → total_len_of head ≡ length head + (length exts + length message)
    → auth_after (protocol_of head) (exts ++ message) ≡ Ok auth
    → length (auth_bytes auth) ≡ length exts
    → ipv4_packet_at (head ++ (exts ++ message))
    ≡ Ok (record { header = head; auth = auth; payload = message })
packet_is head exts message auth is total following same =
    grind (arith, length-append, get_or_append_left, le-ltb, eq-eqb, take_at, take_all, drop_at)

-- what a whole header is found by
abbrev pub Found : Type 0
Found = (slot : Ipv6ExtSlot) (header rest : List ℕ) → IsPiece slot header
    → prefix_of slot (header ++ rest) ≡ Ok header

auth_found : (found : Result (List ℕ) (SliceError AuthFault)) (header : List ℕ)
    → of_auth found ≡ Ok header → found ≡ Ok header
auth_found found header is = grind arith

-- the authentication header of a packet, naming what follows it
abbrev pub auth_in : Option IpAuthHeader → ℕ → Option (List ℕ)
auth_in None number = None
auth_in (Some h) number = Some (auth_encoding (record h { next_header = record { 0 = number } }))

exts_are : (auth : Option IpAuthHeader) (number : ℕ)
    → ipv4_exts_encoding (ipv4_with_link (record { auth = auth }) number)
    ≡ auth_bytes (auth_in auth number)
exts_are auth number = grind arith

exts_len : (auth : Option IpAuthHeader) (number : ℕ)
    → length (auth_bytes (auth_in auth number))
    ≡ length (ipv4_exts_encoding (record { auth = auth }))
exts_len auth number = grind arith

-- the number by which the IPv4 header names what follows it
abbrev pub first_in : Option IpAuthHeader → ℕ → ℕ
first_in auth number = if is_some auth then 51 else number

after_first : Found → (auth : Option IpAuthHeader) (number : ℕ) (message : List ℕ)
    → AuthFits auth → number ≢ 51
    → auth_after (first_in auth number) (auth_bytes (auth_in auth number) ++ message)
    ≡ Ok (auth_in auth number)
after_first found None number message fits other = rw (ne_eqb number 51 other) refl
after_first found (Some h) number message fits other =
    let bytes = auth_encoding (record h { next_header = record { 0 = number } }) in
    ap (result_map_both Some (λ e. e)) (auth_found (auth_at (bytes ++ message)) bytes
    (found Authentication bytes message (record { least = fits.least; whole = fits.whole })))

-- the number after it
pub number_is : (auth : Option IpAuthHeader) (number : ℕ)
    → number_after (first_in auth number) (auth_in auth number) ≡ number
number_is auth number = grind arith

-- the header as it is built, for a payload of so many bytes
abbrev pub header_for : Ipv4Header → Ipv4Extensions → (number len : ℕ) → Ipv4Header
header_for h e number len =
    let whole = record h {
      total_len = header_len h + (length (ipv4_exts_encoding e) + len);
      protocol = record { 0 = first_in e.auth number };
    } in
    record whole { header_checksum = right_checksum whole }

module _ (found : Found) (h : Ipv4Header) (e : Ipv4Extensions) (number : ℕ) (message : List ℕ)
    (len : ℕ) (size : len ≡ length message) (fits : Fits h) (auth_fits : AuthFits e.auth)
    (other : number ≢ 51) (short : header_len h + (length (ipv4_exts_encoding e) + len)
    ≤ 65535) where
  abbrev whole : Ipv4Header
  whole = header_for h e number len

  whole_fits : Fits whole
  whole_fits = record {
    dscp = fits.dscp;
    total_len = omega (arith, short);
    identification = fits.identification;
    fragment_offset = fits.fragment_offset;
    header_checksum = omega arith;
    source = fits.source;
    destination = fits.destination;
    options = fits.options;
  }

  abbrev packet : Ipv4Packet
  packet = record { header = encoding whole; auth = auth_in e.auth number; payload = message }

  -- it is found at the start of its bytes
  pub found_is : ipv4_packet_at ((encoding whole ++ ipv4_exts_encoding (ipv4_with_link e number))
      ++ message) ≡ Ok packet
  found_is =
      ap ipv4_packet_at (append_assoc (encoding whole)
      (ipv4_exts_encoding (ipv4_with_link e number)) message)
      ∙ ap (λ (xs : List ℕ). ipv4_packet_at (encoding whole ++ (xs ++ message)))
      (exts_are e.auth number)
      ∙ packet_is (encoding whole) (auth_bytes (auth_in e.auth number)) message
      (auth_in e.auth number) (is_header whole whole_fits)
      (omega (
        arith,
        total_is whole whole_fits,
        head_len whole
            whole_fits,
        exts_len e.auth number,
        size,
      ))
      (after_first found e.auth number message auth_fits other) refl

  -- and has the class that the header determines
  pub class_is : (ids : List ℕ)
      → ipv4_class ids packet ≡ ip_class ids (V4 h.source h.destination)
      (record {
        ip_number = record { 0 = number };
        fragmented = is_fragmenting h.more_fragments h.fragment_offset;
        len_source = Ipv4HeaderTotalLen;
        payload = message;
      })
      (Some (record {
        identification = h.identification;
        offset = h.fragment_offset;
        more = h.more_fragments;
      }))
  class_is ids = λ i. ip_class ids
      (V4 (source_is whole whole_fits i) (destination_is whole whole_fits i))
      (record {
        ip_number = record { 0 = number_is e.auth number i };
        fragmented = is_fragmenting (more_is whole whole_fits i) (offset_is whole whole_fits i);
        len_source = Ipv4HeaderTotalLen;
        payload = message;
      })
      (Some (record {
        identification = identification_is whole whole_fits i;
        offset = offset_is whole whole_fits i;
        more = more_is whole whole_fits i;
      }))
