-- The options of neighbor discovery: which bytes encode which option (RFC 4861, section 4.6; RFC
-- 8106, section 5), and the items that bytes are read as.
use Rattle.std.specs.Prelude.{◌≡◌, ◌⊎◌, map, ℕ, zero, suc, ◌+◌, ◌-◌, ◌*◌, ◌/◌, ◌%◌, ◌^◌, ◌<◌, ◌≤◌, ◌==◌, ◌&&◌, ◌||◌, nat_le, nat_lt}
use Rattle.std.specs.Prelude.{not, Bool, true, IsTrue, List, [], ◌∷◌, ◌++◌, length, slice_range, drop, take, replicate}
use Rattle.std.specs.Prelude.{if◌then◌else◌, Option, Some, None, Result, Ok, Err}
use Rattle.std.specs.List.{All, concat}
use Rattle.std.specs.Int.{w32, to_be_bytes}
use Rattle.ep_base.specs.Bytes.{num, flag}
use Rattle.ep_base.specs.Refusals.{unless_refused}
use Rattle.ep_icmp.specs.Ndp.{bit_of}
use Rattle.ep_icmp.specs.declared.transport.icmpv6.ndp.ndp_option.NdpOption.{NdpOption}
use Rattle.ep_icmp.specs.declared.transport.icmpv6.ndp.ndp_option.NdpOption.TheVariants as option
use Rattle.ep_icmp.specs.declared.transport.icmpv6.ndp.ndp_option_error.NdpOptionError.{NdpOptionError}
use Rattle.ep_icmp.specs.declared.transport.icmpv6.ndp.ndp_option_error.NdpOptionError.TheVariants as fault
use Rattle.ep_icmp.specs.declared.transport.icmpv6.ndp.prefix_information.PrefixInformation.{PrefixInformation}

-- the length of an option in bytes, by its second byte, which counts units of 8 bytes
abbrev pub size_of : List ℕ → ℕ
size_of bytes = 8 * num bytes 1 1

-- the bytes are an option, and no more
pub record IsOption (bytes : List ℕ) : Type 0 where
  pub some : 0 < num bytes 1 1
  pub whole : length bytes ≡ size_of bytes

-- the prefix that the bytes of an option encode (RFC 4861, section 4.6.2)
abbrev pub prefix_of : List ℕ → PrefixInformation
prefix_of bytes = record {
  prefix_length = num bytes 2 1;
  on_link = bit_of bytes 3 7;
  autonomous = bit_of bytes 3 6;
  valid_lifetime = num bytes 4 4;
  preferred_lifetime = num bytes 8 4;
  prefix = slice_range bytes 16 32;
}

-- the option of this type and of so many units of 8 bytes that the bytes encode; one of a type that
-- isn't known, or of a length that its type doesn't have, is `Unknown`
abbrev pub option_of_kind : ℕ → ℕ → List ℕ → NdpOption
option_of_kind kind units bytes =
    if kind == 1 then option.SourceLinkLayerAddress (drop 2 bytes) else (
    if kind == 2 then option.TargetLinkLayerAddress (drop 2 bytes) else (
    if kind == 3 && (units == 4) then option.PrefixInformation (prefix_of bytes) else (
    if kind == 4 then option.RedirectedHeader (drop 8 bytes) else (
    if kind == 5 && (units == 1) then option.Mtu (num bytes 4 4) else (
    if kind == 25 && (nat_le 3 units && (units % 2 == 1))
    then option.RecursiveDnsServer (num bytes 4 4) (drop 8 bytes) else (
    if kind == 31 && nat_le 2 units
    then option.DnsSearchList (num bytes 4 4) (drop 8 bytes) else
    option.Unknown kind (drop 2 bytes)))))))

abbrev pub option_of : List ℕ → NdpOption
option_of bytes = option_of_kind (num bytes 0 1) (num bytes 1 1) bytes

-- the bytes of an option of this type with what follows type and length
abbrev pub of_kind : ℕ → List ℕ → List ℕ
of_kind kind content = kind ∷ ((2 + length content) / 8) ∷ content

-- what follows type and length of a prefix, up to the prefix
abbrev pub prefix_fields : PrefixInformation → List ℕ
prefix_fields p =
    p.prefix_length ∷ (flag p.on_link 128 + flag p.autonomous 64) ∷ to_be_bytes w32 p.valid_lifetime
    ++ to_be_bytes w32 p.preferred_lifetime ++ replicate 4 0

-- the bytes of an option; reserved bits are 0
abbrev pub option_bytes : NdpOption → List ℕ
option_bytes (option.SourceLinkLayerAddress address) = of_kind 1 address
option_bytes (option.TargetLinkLayerAddress address) = of_kind 2 address
option_bytes (option.PrefixInformation p) = of_kind 3 (prefix_fields p ++ p.prefix)
option_bytes (option.RedirectedHeader packet) = of_kind 4 (replicate 6 0 ++ packet)
option_bytes (option.Mtu mtu) = of_kind 5 (0 ∷ 0 ∷ to_be_bytes w32 mtu)
option_bytes (option.RecursiveDnsServer lifetime addresses) =
    of_kind 25 (0 ∷ 0 ∷ to_be_bytes w32 lifetime ++ addresses)
option_bytes (option.DnsSearchList lifetime names) =
    of_kind 31 (0 ∷ 0 ∷ to_be_bytes w32 lifetime ++ names)
option_bytes (option.Unknown kind bytes) = of_kind kind bytes

-- an option of so many bytes, which fit its type, can be written: its second byte counts their units
abbrev pub has_len : ℕ → Bool → Bool
has_len len fits = fits && ((len % 8 == 0) && nat_le len 2040)

-- what the option carries fits its type: addresses of 16 bytes, and names that aren't missing (RFC
-- 8106, sections 5.1 and 5.2)
abbrev pub fits_kind : NdpOption → Bool
fits_kind (option.RecursiveDnsServer lifetime addresses) =
    not (length addresses == 0) && (length addresses % 16 == 0)
fits_kind (option.DnsSearchList lifetime names) = not (length names == 0)
fits_kind _ = true

abbrev pub is_writable : NdpOption → Bool
is_writable x = has_len (length (option_bytes x)) (fits_kind x)

-- what an iterator has left: bytes, and how many there were at first
pub record Left : Type 0 where
  pub rest : List ℕ
  pub end : ℕ

-- the size of the option at this offset, at the start of the bytes, or its fault
abbrev pub size_at : ℕ → List ℕ → Result ℕ NdpOptionError
size_at offset bytes = unless_refused (
    (nat_lt (length bytes) 2, fault.UnexpectedEnd offset 2 (length bytes))
    ∷ (size_of bytes == 0, fault.ZeroLength offset)
    ∷ (
      nat_lt (length bytes) (size_of bytes),
      fault.UnexpectedEnd offset (size_of bytes) (length bytes),
    )
    ∷ []) (size_of bytes)

abbrev pub offset_of : Left → ℕ
offset_of left = left.end - length left.rest

-- the option at the start of what is left, or its fault
abbrev pub option_or_fault : Result ℕ NdpOptionError → List ℕ → Result NdpOption NdpOptionError
option_or_fault (Ok size) bytes = Ok (option_of (take size bytes))
option_or_fault (Err f) bytes = Err f

abbrev pub option_at : Left → Result NdpOption NdpOptionError
option_at left = option_or_fault (size_at (offset_of left) left.rest) left.rest

-- what is left after it, and nothing after a fault
abbrev pub rest_after : Result ℕ NdpOptionError → List ℕ → List ℕ
rest_after (Ok size) bytes = drop size bytes
rest_after (Err f) bytes = []

abbrev pub left_after : Left → Left
left_after left =
    record left { rest = rest_after (size_at (offset_of left) left.rest) left.rest }

abbrev pub is_end : Left → Bool
is_end left = length left.rest == 0

-- one step: the next item; none at the end
abbrev pub item_at : Left → Option (Result NdpOption NdpOptionError)
item_at left = if is_end left then None else Some (option_at left)

-- all items, in at most so many steps
unfoldable pub items_within : ℕ → Left → List (Result NdpOption NdpOptionError)
items_within zero left = []
items_within (suc n) left = if is_end left then []
    else option_at left ∷ items_within n (left_after left)

-- all items: the options up to the end of the bytes, or up to the first fault, which is the last
-- item. (Each step takes a byte.)
abbrev pub items_of : Left → List (Result NdpOption NdpOptionError)
items_of left = items_within (length left.rest) left

-- the option at the start of the bytes needs so many: its type and its length, and where these are
-- there, as many as the length gives
abbrev pub Needs : List ℕ → ℕ → Type 0
Needs bytes needed = ((length bytes < 2) × (needed ≡ 2))
    ⊎ ((2 ≤ length bytes) × (needed ≡ size_of bytes))

-- what is wrong with the option at this offset, at the start of the bytes
abbrev pub IsFault : ℕ → List ℕ → NdpOptionError → Type 0
IsFault offset bytes (fault.UnexpectedEnd named needed left) =
    (named ≡ offset) × Needs bytes needed × (left ≡ length bytes) × (left < needed)
IsFault offset bytes (fault.ZeroLength named) =
    (named ≡ offset) × (2 ≤ length bytes) × (num bytes 1 1 ≡ 0)

-- why a list of options ends before these bytes at this offset: none are left, or the option there
-- has this fault
abbrev pub EndsAs : ℕ → Option NdpOptionError → List ℕ → Type 0
EndsAs offset None rest = length rest ≡ 0
EndsAs offset (Some f) rest = (0 < length rest) × IsFault offset rest f

-- the options of a list that ends so, and after them the fault if there is one
abbrev pub items_and : List NdpOption → Option NdpOptionError
    → List (Result NdpOption NdpOptionError)
items_and options None = map (λ x. Ok x) options
items_and options (Some f) = map (λ x. Ok x) options ++ Err f ∷ []

-- these items are what the bytes that are left encode: they are options one after the other, each
-- as long as its second byte gives, and then what is left
pub record AreItems (left : Left) (items : List (Result NdpOption NdpOptionError)) : Type 0 where
  pub options : List (List ℕ)
  pub faulty : Option NdpOptionError
  pub rest : List ℕ
  pub each : All IsOption options
  pub encoded : left.rest ≡ concat options ++ rest
  pub ends : EndsAs (left.end - length rest) faulty rest
  pub all : items ≡ items_and (map option_of options) faulty

-- all bytes encode the items that they are read as
abbrev pub ItemsAreEncoded : Type 0
ItemsAreEncoded = (left : Left) → AreItems left (items_of left)

-- and no others
abbrev pub NoOtherItems : Type 0
NoOtherItems = (left : Left) (items : List (Result NdpOption NdpOptionError))
    → AreItems left items → items ≡ items_of left

-- the kind is one that `Unknown` has with so many units: no other variant has them
abbrev pub is_unknown : ℕ → ℕ → Bool
is_unknown kind units = not ((kind == 1) || ((kind == 2) || ((kind == 3 && (units == 4))
    || ((kind == 4) || ((kind == 5 && (units == 1))
    || ((kind == 25 && (nat_le 3 units && (units % 2 == 1))) || (kind == 31 && nat_le 2 units)))))))

-- so many bytes, those of type and length among them, are as many as an option can have
abbrev pub AreUnits : ℕ → ℕ → Type 0
AreUnits len units = (len ≡ 8 * units) × (1 ≤ units) × (units < 256)

-- the ranges of the fields, and the lengths of what an option carries
abbrev pub FitsOption : NdpOption → Type 0
FitsOption (option.SourceLinkLayerAddress address) =
    (units : ℕ) × AreUnits (2 + length address) units
FitsOption (option.TargetLinkLayerAddress address) =
    (units : ℕ) × AreUnits (2 + length address) units
FitsOption (option.PrefixInformation p) = (p.valid_lifetime < 2 ^ 32)
    × (p.preferred_lifetime < 2 ^ 32) × (length p.prefix ≡ 16)
FitsOption (option.RedirectedHeader packet) = (units : ℕ) × AreUnits (8 + length packet) units
FitsOption (option.Mtu mtu) = mtu < 2 ^ 32
FitsOption (option.RecursiveDnsServer lifetime addresses) = (lifetime < 2 ^ 32)
    × ((servers : ℕ) × (1 ≤ servers) × (servers ≤ 127) × (length addresses ≡ 16 * servers))
FitsOption (option.DnsSearchList lifetime names) = (lifetime < 2 ^ 32)
    × ((units : ℕ) × AreUnits (8 + length names) units × (2 ≤ units))
FitsOption (option.Unknown kind bytes) = (units : ℕ) × AreUnits (2 + length bytes) units
    × IsTrue (is_unknown kind units)

-- the bytes of an option are one, and are read as it
abbrev pub OptionsComeBack : Type 0
OptionsComeBack = (x : NdpOption) → FitsOption x
    → IsOption (option_bytes x) × (option_of (option_bytes x) ≡ x)
