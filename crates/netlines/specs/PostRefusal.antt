-- Why a message can't be posted, out of memory aside.
use Rattle.std.specs.Prelude.{ℕ, ◌+◌, ◌%◌, ◌&&◌, ◌||◌, ◌==◌, nat_lt, Bool, if◌then◌else◌, List, [], ◌∷◌, length, Option}
use Rattle.std.specs.Prelude.{Some, None}
use Rattle.std.specs.Option.{option_map, option_or}
use Rattle.etherparse.specs.base.Refusals.{first_refusal}
use Rattle.etherparse.specs.declared.defrag.ip_frag_version_spec_id.IpFragVersionSpecId.{IpFragVersionSpecId}
use Rattle.etherparse.specs.declared.defrag.ip_frag_version_spec_id.IpFragVersionSpecId.TheVariants.{Ipv4, Ipv6}
use Rattle.netlines.specs.declared.letter.Letter.{Letter}
use Rattle.netlines.specs.declared.post_error.PostError.{PostError}
use Rattle.netlines.specs.declared.post_error.PostError.TheVariants.{Cuts, MessageTooLong, ExtensionNumber}
use Rattle.netlines.specs.declared.post_error.PostError.TheVariants.{IcmpOfOtherVersion, PieceTooLong}
use Rattle.netlines.specs.Posted.{PostedFragment, is_fragmented, fragments_from}

-- a message of so many bytes can be cut here, after the cut before (0 before the first one): a
-- multiple of 8, above the one before and below the length
abbrev pub is_good_cut : (len before cut : ℕ) → Bool
is_good_cut len before cut = (cut % 8 == 0) && nat_lt before cut && nat_lt cut len

-- the index of the first cut that can't be made, counted from this one on
abbrev pub bad_cut_from : (len before index : ℕ) → List ℕ → Option ℕ
bad_cut_from len before index [] = None
bad_cut_from len before index (cut ∷ cuts) =
    if is_good_cut len before cut then bad_cut_from len cut (index + 1) cuts else Some index

abbrev pub bad_cut : ℕ → List ℕ → Option ℕ
bad_cut len cuts = bad_cut_from len 0 0 cuts

-- a number that names an extension header, so that the message would be read as one: over IPv4 the
-- authentication header (RFC 4302), over IPv6 those of RFC 8200, section 4, too
abbrev pub names_extension : IpFragVersionSpecId → ℕ → Bool
names_extension (Ipv4 source destination identification) number = number == 51
names_extension (Ipv6 source destination identification) number =
    (number == 0) || (number == 43) || (number == 44) || (number == 51) || (number == 60)

-- ICMPv6 (RFC 4443) has its number over IPv6 alone, and ICMP (RFC 792) over IPv4
abbrev pub is_icmp_of_other_version : IpFragVersionSpecId → ℕ → Bool
is_icmp_of_other_version (Ipv4 source destination identification) number = number == 58
is_icmp_of_other_version (Ipv6 source destination identification) number = number == 1

-- the greatest length of a fragment in bytes by the packet's length field: 65535 with the header
-- over IPv4, and 65535 after the header over IPv6, where a message that is cut has the 8 bytes of a
-- fragment header
abbrev pub room : IpFragVersionSpecId → (cut : Bool) → ℕ
room (Ipv4 source destination identification) cut = 65515
room (Ipv6 source destination identification) cut = if cut then 65527 else 65535

-- the index of the first fragment of more bytes than these, counted from this one on
abbrev pub long_fragment_from : (room index : ℕ) → List PostedFragment → Option ℕ
long_fragment_from room index [] = None
long_fragment_from room index (posted_fragment ∷ fragments) =
    if nat_lt room (length posted_fragment.text) then Some index else long_fragment_from room (index + 1) fragments

abbrev pub long_fragment : IpFragVersionSpecId → List ℕ → List ℕ → Option ℕ
long_fragment version_id message cuts = long_fragment_from (room version_id (is_fragmented cuts)) 0
    (fragments_from 0 cuts message)

-- the first refusal, out of memory aside
abbrev pub post_refusal : Letter → List ℕ → List ℕ → Option PostError
post_refusal letter message cuts =
    option_or (option_map Cuts (bad_cut (length message) cuts))
    (option_or (first_refusal (
    (nat_lt 65535 (length message), MessageTooLong)
    ∷ (names_extension letter.version_id letter.number.0, ExtensionNumber)
    ∷ (is_icmp_of_other_version letter.version_id letter.number.0, IcmpOfOtherVersion)
    ∷ []))
    (option_map PieceTooLong (long_fragment letter.version_id message cuts)))
