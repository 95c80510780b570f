-- In which packets the datagrams that are not complete started.
use Rattle.std.specs.Prelude.{◌≡◌, ℕ, ◌==◌, ◌&&◌, nat_eq, if◌then◌else◌, List, [], ◌∷◌, Option, Some, None, IfSome}
use Rattle.std.specs.Prelude.{IsSomeAnd, option_map, unwrap_or, Result, MatchResult}
use Rattle.etherparse.specs.IpDefragPool.{same_id}
use Rattle.etherparse.specs.IpFragId.{fragment_in, id_named, same_name}
use Rattle.etherparse.specs.PoolCalls.{Lists, ShowsLists}
use Rattle.etherparse.specs.Fragments.{Fragment}
use Rattle.ep_packet.specs.Class.{Class, FragmentName}
use Rattle.ep_packet.specs.Class.Class.{Cut, Other, Refused as Faulty, Whole}
use Rattle.etherparse.specs.Timestamps.{pool_by, timestamp_at}
use Rattle.packets.specs.declared.dissection.Fragment.{Fragment as FragmentOutcome}
use Rattle.packets.specs.declared.dissection.Fragment.TheVariants.{Waits, Completes, Refused}
use Rattle.packets.specs.declared.datagrams.Finding.{Finding}
use Rattle.packets.specs.declared.datagrams.Datagrams.{Datagrams}
use Rattle.packets.specs.declared.datagrams.Received.{Received}

-- the number of the packet in which the datagram of each name and channel started, where one is not
-- complete
abbrev pub Started : Type 0
Started = FragmentName → ℕ → ℕ

-- where there is none, it is any number
abbrev pub none_started : Started
none_started name channel = 0

-- where a datagram of these accepted fragments started, if there are any
abbrev pub started_if : List Fragment → ℕ → Option ℕ
started_if [] number = None
started_if (f ∷ fs) number = Some number

-- where the datagram of a name and channel started, if fragments of one wait
abbrev pub started_in : Lists → Started → FragmentName → ℕ → Option ℕ
started_in lists started name channel = started_if (lists name channel).fragments (started name channel)

-- the packet of this number comes on a channel with a fragment, if it is one: its datagram starts
-- in it, unless fragments of it wait already. Where the fragment is refused, still none wait
abbrev pub started_with_fragment : Lists → Started → Option (FragmentName × Fragment)
    → (channel number : ℕ) → Started
started_with_fragment lists started None channel number name other = started name other
started_with_fragment lists started (Some reported) channel number name other =
    if same_name reported.0 name && (channel == other)
    then unwrap_or (started_in lists started name other) number else started name other

-- the packet of this number and class comes on a channel
abbrev pub started_with : Lists → Started → Class → (channel number : ℕ) → Started
started_with lists started class channel number name other =
    started_with_fragment lists started (fragment_in class) channel number name other

-- a fragment reports that its datagram started in this packet; one that is refused reports where
-- the datagram of the waiting fragments started, if there are any
abbrev pub BeganIn : (known : Option ℕ) → (started : ℕ) → FragmentOutcome → Type 0
BeganIn known started (Waits reported) = reported ≡ started
BeganIn known started (Completes reported message) = reported ≡ started
BeganIn known started (Refused reported error) = reported ≡ known

-- what the packet of this number and class reports on a channel, if it is a fragment, and only
-- then: where its datagram started, in this packet unless fragments of it wait already
abbrev pub ReportsStarted : Lists → Started → Class → (channel number : ℕ) → Option FragmentOutcome → Type 0
ReportsStarted lists started (Cut name offset more bytes) channel number fragment = IsSomeAnd fragment
    (BeganIn (started_in lists started name channel)
    (unwrap_or (started_in lists started name channel) number))
ReportsStarted lists started (Whole addresses protocol bytes message) channel number fragment = fragment ≡ None
ReportsStarted lists started Other channel number fragment = fragment ≡ None
ReportsStarted lists started Faulty channel number fragment = fragment ≡ None

-- ---- what the pool keeps of it

-- with a fragment in the packet of this number, which came at this time: the first packet stays
abbrev pub received_with : (number time : ℕ) → Option Received → Received
received_with number time before = record {
  first = unwrap_or (option_map (λ (r : Received). r.first) before) number;
  last = time;
}

-- the pool shows the accepted fragments of each datagram, and when the last of them came
abbrev pub ShowsFragments : {S H : Type 0} → Datagrams S H → Lists → Type 0
ShowsFragments datagrams lists = ShowsLists (pool_by (λ (r : Received). r.last) datagrams.pool) lists

-- and of each datagram whose fragments wait, in which packet it started
abbrev pub ShowsStarted : {S H : Type 0} → Datagrams S H → Started → Type 0
ShowsStarted datagrams started = (name : FragmentName) (channel : ℕ)
    → IfSome (timestamp_at (same_id nat_eq) datagrams.pool (id_named name channel))
    (λ r. r.first ≡ started name channel)

-- the packet of this number and class, which came on this channel, reports where its datagram
-- started, and that is kept; or memory ran out, and what was kept stays
abbrev pub AnswersStarted : {E S H : Type 0} → (old new : Datagrams S H) → Class
    → (channel number : ℕ) → Result Finding E → Type 0
AnswersStarted old new class channel number result = (lists : Lists) (started : Started)
    → ShowsFragments old lists → ShowsStarted old started
    → MatchResult result
    (λ finding. ReportsStarted lists started class channel number finding.fragment
    × ShowsStarted new (started_with lists started class channel number))
    (λ e. ShowsStarted new started)
