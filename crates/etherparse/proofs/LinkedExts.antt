-- Extension headers that were made to name one another: the number of the first, and their length.
use Rattle.std.proofs.Common.{◌≡◌, refl, ℕ, ◌+◌, Bool, true, cond, List, [], ◌∷◌, length, length-append, Option, Some}
use Rattle.std.proofs.Common.{None, unwrap_or, arith}
use Rattle.std.specs.Option.{option_and_then, option_map}
use Rattle.ep_ext.specs.Auth.{auth_encoding}
use Rattle.ep_ext.specs.Chain.{Row}
use Rattle.ep_ext.specs.Follow.{Follows, header_in, header_len}
use Rattle.ep_ext.specs.Fragment.{fragment_encoding}
use Rattle.ep_ext.specs.Ipv4Exts.{ipv4_exts_encoding, ipv4_with_link}
use Rattle.ep_ext.specs.Link.{all_slots, first_named, piece_if, pieces_in, raw_with_next, with_links}
use Rattle.ep_ext.specs.Slot.{slot_number, slot_of}
use Rattle.ep_ext.specs.Raw.{raw_encoding}
use Rattle.ep_ext.specs.Value.{Piece, bytes_of}
use Rattle.ep_ext.specs.declared.net.ip_auth_header.IpAuthHeader.{IpAuthHeader}
use Rattle.ep_ext.specs.declared.net.ipv4_extensions.Ipv4Extensions.{Ipv4Extensions}
use Rattle.ep_ext.specs.declared.net.ipv6_ext_slot.Ipv6ExtSlot.{Ipv6ExtSlot}
use Rattle.ep_ext.specs.declared.net.ipv6_ext_slot.Ipv6ExtSlot.TheVariants.{HopByHop, Destination, Routing, Fragment}
use Rattle.ep_ext.specs.declared.net.ipv6_ext_slot.Ipv6ExtSlot.TheVariants.{Authentication, FinalDestination}
use Rattle.ep_ext.specs.declared.net.ipv6_extensions.Ipv6Extensions.{Ipv6Extensions}
use Rattle.ep_ext.specs.declared.net.ipv6_fragment_header.Ipv6FragmentHeader.{Ipv6FragmentHeader}
use Rattle.ep_ext.specs.declared.net.ipv6_raw_ext_header.Ipv6RawExtHeader.{Ipv6RawExtHeader}
use Rattle.ep_ext.specs.declared.net.ipv6_routing_extensions.Ipv6RoutingExtensions.{Ipv6RoutingExtensions}
use Rattle.ep_ext.proofs.Linking.{final_of}

some_same : {A : Type 0} (x y : A) → ◌≡◌ {A = Option A} (Some x) (Some y) → x ≡ y
some_same x y h = cc

none_some : {A : Type 0} (x : A) → ◌≡◌ {A = Option A} None (Some x) → ⊥
none_some x h = cc

-- a slot with no header before it has the number that leads there
test : (b : Bool) (n : ℕ) (p q : Ipv6ExtSlot) (other : Option Ipv6ExtSlot)
    → (b ≡ true → n ≡ slot_number p) → (other ≡ Some q → slot_number q ≡ n)
    → cond b (Some p) other ≡ Some q → slot_number q ≡ n
test b n p q other is rest e = grind arith

begins : (n : ℕ) (q : Ipv6ExtSlot) → slot_of [] n ≡ Some q → slot_number q ≡ n
begins n q e = grind arith

-- the number that leads to a row
abbrev first_of : List Piece → ℕ → ℕ
first_of [] last = last
first_of (piece ∷ pieces) last = slot_number piece.0

first_in : (value : Ipv6Extensions) (slots : List Ipv6ExtSlot) (last : ℕ)
    → first_of (pieces_in value slots) last ≡ first_named value slots last
first_in value [] last = refl
first_in value (slot ∷ slots) last = grind (arith, first_in value slots last)

-- links change neither which headers are held nor their lengths
abbrev Shape : Option (List ℕ) → Option (List ℕ) → Type 0
Shape new old = option_map length new ≡ option_map length old

raw_shape : (n : ℕ) (o : Option Ipv6RawExtHeader)
    → Shape (option_map raw_encoding (option_map (raw_with_next n) o)) (option_map raw_encoding o)
raw_shape n None = refl
raw_shape n (Some h) = refl

fragment_shape : (n : ℕ) (o : Option Ipv6FragmentHeader)
    → Shape (option_map fragment_encoding
    (option_map {T = Ipv6FragmentHeader} (λ h. record h { next_header = record { 0 = n } }) o))
    (option_map fragment_encoding o)
fragment_shape n None = refl
fragment_shape n (Some h) = refl

auth_shape : (n : ℕ) (o : Option IpAuthHeader)
    → Shape (option_map auth_encoding
    (option_map {T = IpAuthHeader} (λ h. record h { next_header = record { 0 = n } }) o))
    (option_map auth_encoding o)
auth_shape n None = refl
auth_shape n (Some h) = refl

abbrev naming : ℕ → ℕ → Ipv6RoutingExtensions → Ipv6RoutingExtensions
naming n last r =
    record {
      routing = raw_with_next n r.routing;
      final_destination_options = option_map (raw_with_next last) r.final_destination_options;
    }

routing_shape : (n last : ℕ) (o : Option Ipv6RoutingExtensions)
    → Shape (option_map {T = Ipv6RoutingExtensions} (λ r. raw_encoding r.routing)
    (option_map (naming n last) o))
    (option_map {T = Ipv6RoutingExtensions} (λ r. raw_encoding r.routing) o)
routing_shape n last None = refl
routing_shape n last (Some r) = refl

final_shape : (n last : ℕ) (o : Option Ipv6RoutingExtensions)
    → Shape (option_and_then final_of (option_map (naming n last) o)) (option_and_then final_of o)
final_shape n last None = refl
final_shape n last (Some r) = raw_shape last r.final_destination_options

same_shape : (value : Ipv6Extensions) (last : ℕ) (slot : Ipv6ExtSlot)
    → Shape (header_in (with_links value last) slot) (header_in value slot)
same_shape value last HopByHop = raw_shape _ value.hop_by_hop_options
same_shape value last Destination = raw_shape _ value.destination_options
same_shape value last Routing = routing_shape _ last value.routing
same_shape value last Fragment = fragment_shape _ value.fragment
same_shape value last Authentication = auth_shape _ value.auth
same_shape value last FinalDestination =
    final_shape (first_named value (Fragment ∷ Authentication ∷ FinalDestination ∷ []) last)
    last value.routing

-- the first number leads to the first header that is held
pub first_linked : (value : Ipv6Extensions) (first last : ℕ)
    → Row slot_of [] first (pieces_in (with_links value last) all_slots) last
    → first ≡ first_named value all_slots last
first_linked value first last row = grind arith

-- the number that is named first leads through all headers that are held
pub leads : (value new : Ipv6Extensions) (first last : ℕ) → new ≡ with_links value last
    → Follows new first (pieces_in new all_slots) last
    → Row slot_of [] (first_named value all_slots last)
    (pieces_in (with_links value last) all_slots) last
leads value new first last links follows = grind arith

abbrev len_of : Option ℕ → ℕ
len_of None = 0
len_of (Some n) = n

pub linked_len : (value : Ipv6Extensions) (last : ℕ)
    → header_len (with_links value last) ≡ header_len value
linked_len value last = grind arith

piece_len : (slot : Ipv6ExtSlot) (o : Option (List ℕ)) (pieces : List Piece)
    → length (bytes_of (piece_if slot o pieces))
    ≡ length (unwrap_or o []) + length (bytes_of pieces)
piece_len slot o pieces = grind (arith, length-append)

-- all headers together are as long as their bytes
pub pieces_len : (value : Ipv6Extensions)
    → length (bytes_of (pieces_in value all_slots)) ≡ header_len value
pieces_len value = grind (arith, piece_len)

auth_len : (n : ℕ) (o : Option IpAuthHeader)
    → length (unwrap_or (option_map auth_encoding
    (option_map {T = IpAuthHeader} (λ h. record h { next_header = record { 0 = n } }) o)) [])
    ≡ length (unwrap_or (option_map auth_encoding o) [])
auth_len n o = grind arith

-- the same of IPv4
pub ipv4_linked_len : (value : Ipv4Extensions) (last : ℕ)
    → length (ipv4_exts_encoding (ipv4_with_link value last)) ≡ length (ipv4_exts_encoding value)
ipv4_linked_len value last = auth_len last value.auth
