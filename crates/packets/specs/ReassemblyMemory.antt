-- How many bytes the datagrams that are not complete take, and which of them are dropped where that
-- is more than a limit: those that started first.
use Rattle.std.specs.Prelude.{◌≡◌, ℕ, ◌+◌, ◌==◌, ◌&&◌, ◌||◌, nat_lt, Bool, true, false, not, if◌then◌else◌, min, length}
use Rattle.std.specs.Prelude.{List, [], ◌∷◌, ◌++◌, map, filter, Option, Some, None, Result, MatchResult}
use Rattle.captures.specs.Numbers.{capped}
use Rattle.etherparse.specs.FragmentBytes.{kept_bytes}
use Rattle.etherparse.specs.Fragments.{Fragment}
use Rattle.etherparse.specs.IpFragId.{fragment_in, id_named, same_name}
use Rattle.etherparse.specs.PoolCalls.{Lists, lists_with_frame}
use Rattle.etherparse.specs.declared.defrag.ip_frag_id.IpFragId.{IpFragId}
use Rattle.ep_packet.specs.Class.{Class, FragmentName}
use Rattle.packets.specs.Started.{Started, ShowsFragments, ShowsStarted}
use Rattle.packets.specs.declared.datagrams.Finding.{Finding}
use Rattle.packets.specs.declared.datagrams.Datagrams.{Datagrams}

-- a datagram, by its name and channel
abbrev pub DatagramName : Type 0
DatagramName = FragmentName × ℕ

abbrev pub is_same : DatagramName → DatagramName → Bool
is_same a b = same_name a.0 b.0 && (a.1 == b.1)

-- datagrams in the order in which they started, the oldest first
abbrev pub Order : Type 0
Order = List DatagramName

-- ---- how many bytes they take

-- what a datagram takes beside its bytes, about: 279 to 559 in the tables of a pool, 16 for ranges of
-- bytes, 48 for fragments over IPv6, and 8 to 24 of the allocator for each of these buffers
abbrev pub beside_bytes : ℕ
beside_bytes = 640

-- its bytes up to the greatest end of a fragment, which is 65535 at most, and what it takes beside
abbrev pub taken_by : List Fragment → ℕ
taken_by fs = min 65535 (length (kept_bytes fs)) + beside_bytes

-- what all take
abbrev pub taken : Lists → Order → ℕ
taken lists [] = 0
taken lists (d ∷ ds) = taken_by (lists d.0 d.1).fragments + taken lists ds

-- ---- their order, with each packet

abbrev pub is_some_fragment : List Fragment → Bool
is_some_fragment [] = false
is_some_fragment (f ∷ fs) = true

-- some of its fragments wait
abbrev pub waits : Lists → DatagramName → Bool
waits lists d = is_some_fragment (lists d.0 d.1).fragments

-- the order by whether fragments of a datagram wait before a packet and after it: it starts, or
-- none wait any more
abbrev pub order_by : (before after : Bool) → DatagramName → Order → Order
order_by false true d order = order ++ d ∷ []
order_by true false d order = filter (λ e. not (is_same d e)) order
order_by false false d order = order
order_by true true d order = order

abbrev pub order_with_fragment : (before after : Lists) → Option (FragmentName × Fragment) → (channel : ℕ)
    → Order → Order
order_with_fragment before after None channel order = order
order_with_fragment before after (Some reported) channel order =
    order_by (waits before (reported.0, channel)) (waits after (reported.0, channel)) (reported.0, channel) order

-- the order after a packet of this class on a channel, with the lists before it and after it
abbrev pub order_with : (before after : Lists) → Class → (channel : ℕ) → Order → Order
order_with before after class channel order =
    order_with_fragment before after (fragment_in class) channel order

-- the order of those of which fragments wait
abbrev pub order_of_waiting : Lists → Order → Order
order_of_waiting lists order = filter (waits lists) order

-- ---- which are dropped

-- without the fragments of a datagram
abbrev pub lists_without : DatagramName → Lists → Lists
lists_without d lists name channel = if is_same d (name, channel)
    then record { fragments = []; time = (lists name channel).time } else lists name channel

-- the first ones of the order are dropped until the others take no more than the limit: the lists then
abbrev pub lists_within : (limit : ℕ) → Lists → Order → Lists
lists_within limit lists [] = lists
lists_within limit lists (d ∷ ds) = if nat_lt limit (taken lists (d ∷ ds))
    then lists_within limit (lists_without d lists) ds else lists

-- and the order
abbrev pub order_within : (limit : ℕ) → Lists → Order → Order
order_within limit lists [] = []
order_within limit lists (d ∷ ds) = if nat_lt limit (taken lists (d ∷ ds))
    then order_within limit (lists_without d lists) ds else d ∷ ds

-- and how many were dropped
abbrev pub dropped_within : (limit : ℕ) → Lists → Order → ℕ
dropped_within limit lists [] = 0
dropped_within limit lists (d ∷ ds) = if nat_lt limit (taken lists (d ∷ ds))
    then 1 + dropped_within limit (lists_without d lists) ds else 0

-- ---- the order has each datagram of which fragments wait, once, and no other

abbrev pub has : Order → DatagramName → Bool
has [] d = false
has (e ∷ order) d = is_same d e || has order d

abbrev pub AreDistinct : Order → Type 0
AreDistinct [] = Unit {0}
AreDistinct (d ∷ order) = (has order d ≡ false) × AreDistinct order

pub record Tracks (lists : Lists) (order : Order) : Type 0 where
  pub distinct : AreDistinct order
  pub each : (d : DatagramName) → has order d ≡ waits lists d

-- ---- what a pool keeps of the order

abbrev pub id_of : DatagramName → IpFragId ℕ
id_of d = id_named d.0 d.1

-- the names of its datagrams, in the order of their starts
abbrev pub starts_of : {S H : Type 0} → Datagrams S H → List (IpFragId ℕ)
starts_of datagrams = datagrams.pool.starts

abbrev pub ShowsOrder : {S H : Type 0} → Datagrams S H → Order → Type 0
ShowsOrder datagrams order = starts_of datagrams ≡ map id_of order

-- the packet of this class, which came at this time on this channel, changes the order; or memory
-- ran out, and the order stays
abbrev pub AnswersOrder : {E S H : Type 0} → (old new : Datagrams S H) → Class
    → (time channel : ℕ) → Result Finding E → Type 0
AnswersOrder old new class time channel result = (lists : Lists) (order : Order)
    → ShowsFragments old lists → ShowsOrder old order
    → MatchResult result
    (λ finding. ShowsOrder new
    (order_with lists (lists_with_frame lists class time channel) class channel order))
    (λ e. ShowsOrder new order)

-- what is known of the packets in which datagrams started stays
abbrev pub KeepsStarted : {S H : Type 0} → (old new : Datagrams S H) → Type 0
KeepsStarted old new = (started : Started) → ShowsStarted old started → ShowsStarted new started

-- the datagram that started first was dropped, if there is one
abbrev pub DropsOldest : {S H : Type 0} → (old new : Datagrams S H) → Lists → Order → (found : Bool) → Type 0
DropsOldest old new lists [] found =
    (found ≡ false) × ShowsFragments new lists × ShowsOrder new [] × KeepsStarted old new
DropsOldest old new lists (d ∷ ds) found =
    (found ≡ true) × ShowsFragments new (lists_without d lists) × ShowsOrder new ds × KeepsStarted old new

-- so many datagrams, up to the greatest number of 64 bits, were dropped to come to the limit
pub record KeepsWithin {S H : Type 0} (old new : Datagrams S H) (limit dropped : ℕ) (lists : Lists)
    (order : Order) : Type 0 where
  pub fragments : ShowsFragments new (lists_within limit lists order)
  pub order_is : ShowsOrder new (order_within limit lists order)
  pub count : dropped ≡ capped (dropped_within limit lists order)
  pub started : KeepsStarted old new
