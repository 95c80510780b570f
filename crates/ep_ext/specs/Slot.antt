-- The slots of extension headers, and in which order the headers may follow one another (RFC 8200,
-- section 4.1).
use Rattle.std.specs.Prelude.{◌≡◌, ℕ, Bool, ◌==◌, if◌then◌else◌, List, Option, Some, None, [], ◌∷◌}
use Rattle.std.specs.List.{list_any}
use Rattle.ep_ext.specs.declared.net.ipv6_ext_slot.Ipv6ExtSlot.{Ipv6ExtSlot}
use Rattle.ep_ext.specs.declared.net.ipv6_ext_slot.Ipv6ExtSlot.TheVariants.{HopByHop, Destination, Routing, Fragment}
use Rattle.ep_ext.specs.declared.net.ipv6_ext_slot.Ipv6ExtSlot.TheVariants.{Authentication, FinalDestination}

-- the number of the header in a slot
abbrev pub slot_number : Ipv6ExtSlot → ℕ
slot_number HopByHop = 0
slot_number Destination = 60
slot_number Routing = 43
slot_number Fragment = 44
slot_number Authentication = 51
slot_number FinalDestination = 60

-- the index of a slot in the order in which they are declared
abbrev pub rank : Ipv6ExtSlot → ℕ
rank HopByHop = 0
rank Destination = 1
rank Routing = 2
rank Fragment = 3
rank Authentication = 4
rank FinalDestination = 5

-- the same slot
abbrev pub is_same : Ipv6ExtSlot → Ipv6ExtSlot → Bool
is_same p q = rank p == rank q

abbrev pub is_passed : List Ipv6ExtSlot → Ipv6ExtSlot → Bool
is_passed passed slot = list_any (λ p. is_same p slot) passed

-- which slot, if any, a header of a number takes after headers in these slots
abbrev pub Order : Type 0
Order = List Ipv6ExtSlot → ℕ → Option Ipv6ExtSlot

-- a header takes only slots of its own number
abbrev pub KeepsNumbers : Order → Type 0
KeepsNumbers order =
    (passed : List Ipv6ExtSlot) (number : ℕ) (slot : Ipv6ExtSlot)
    → order passed number ≡ Some slot → slot_number slot ≡ number

-- a slot that is taken once
abbrev pub once : List Ipv6ExtSlot → Ipv6ExtSlot → Option Ipv6ExtSlot
once passed slot = if is_passed passed slot then None else Some slot

-- hop-by-hop options come before all others
abbrev pub at_start : List Ipv6ExtSlot → Option Ipv6ExtSlot
at_start [] = Some HopByHop
at_start (slot ∷ passed) = None

-- the order of the headers of one value: each once, destination options once before a routing
-- header and once after one
abbrev pub slot_of : Order
slot_of passed number =
    if number == 0 then at_start passed else (
    if number == 43 then once passed Routing else (
    if number == 44 then once passed Fragment else (
    if number == 51 then once passed Authentication else (
    if number == 60 then (if is_passed passed Routing then once passed FinalDestination
    else once passed Destination) else
    None))))
