-- The reassemblies of datagrams, each under its name: which fragments of each were accepted, and
-- when the last of them.
use denote.Ref.{Bor}
use Rattle.std.specs.Prelude.{◌≡◌, ◌≢◌, ◌⊎◌, ℕ, Bool, true, false, Option, Some, None, Result, List, [], IfErr}
use Rattle.std.specs.Prelude.{IsSomeAnd}
use Rattle.std.specs.Map.{lookup}
use Rattle.ep_packet.specs.declared.sliced_fragment.SlicedFragment.{SlicedFragment}
use Rattle.etherparse.specs.declared.defrag.ip_defrag_error.IpDefragError.{IpDefragError}
use Rattle.etherparse.specs.declared.defrag.overlap_rule.OverlapRule.{OverlapRule}
use Rattle.etherparse.specs.declared.defrag.reassembly.Reassembly.{Reassembly}
use Rattle.etherparse.specs.Fragments.{Fragment, fragment}
use Rattle.etherparse.specs.IpDefragBuf.{Shows, rule_of, with_room}
use Rattle.etherparse.specs.IpDefragError.{is_overlap}
use Rattle.etherparse.specs.Outcome.{Outcome, error_of, memory_error, outcome}
use Rattle.etherparse.specs.Outcome.Outcome.{Clash, Completed, Refusal, Waiting}
use Rattle.etherparse.specs.Memory.{Memory}

-- the values of a fragment that was received
abbrev pub fragment_of : SlicedFragment → Fragment
fragment_of received = fragment received.offset received.more_fragments received.bytes.now

-- what a pool holds: reassemblies in no order that means anything, each beside its name; no name is
-- there twice; the names in the order in which their reassemblies started, each with its first
-- accepted fragment, the oldest first; how many buffers of bytes are spare, and how many of
-- sections; and the memory of these, and for more
pub record Pool (K T : Type 0) : Type 0 where
  pub reassemblies : List (K × Reassembly T)
  pub starts : List K
  pub spare : ℕ
  pub spare_sections : ℕ
  pub memory : Memory

-- the reassembly of a name, if there is one
abbrev pub reassembly_at : {K T : Type 0} → (K → K → Bool) → Pool K T → K → Option (Reassembly T)
reassembly_at same pool name = lookup (same name) pool.reassemblies

-- these fragments were accepted since the reassembly started, whose fragments overlap by this rule;
-- of none, there is no reassembly
abbrev pub ShowsReassembly : {T : Type 0} → OverlapRule → Option (Reassembly T) → List Fragment → Type 0
ShowsReassembly rule None fs = fs ≡ []
ShowsReassembly rule (Some s) fs = Shows s.buf fs × (rule_of s.buf ≡ rule) × (fs ≢ [])

-- the reassembly shows these fragments, the last of which came at this time
abbrev pub IsReassemblyOf : {T : Type 0} → OverlapRule → List Fragment → T → Reassembly T → Type 0
IsReassemblyOf rule fs time s = Shows s.buf fs × (rule_of s.buf ≡ rule) × (s.timestamp ≡ time)

-- what is returned after a fragment with this outcome, which came at this time, and its reassembly
-- then: it waits with the others; or its datagram is returned, and the reassembly ends
abbrev pub Becomes : {T X : Type 0} → OverlapRule → (List ℕ → X) → Outcome → T
    → Option (Reassembly T) → Option X → Type 0
Becomes rule whole (Refusal error) time reassembly reported = ⊥
Becomes rule whole (Clash error) time reassembly reported = ⊥
Becomes rule whole (Waiting fs) time reassembly reported =
    (reported ≡ None) × IsSomeAnd reassembly (IsReassemblyOf rule fs time)
Becomes rule whole (Completed text) time reassembly reported =
    (reported ≡ Some (whole text)) × (reassembly ≡ None)

-- the error of a fragment with this outcome is its refusal, or else reports out of memory
abbrev pub IsErrorOf : Fragment → Outcome → IpDefragError → Type 0
IsErrorOf f o error = (error_of o ≡ Some error) ⊎ (memory_error f o ≡ Some error)

-- every other name has the reassembly that it had
abbrev pub OthersStay : {K T : Type 0} → (K → K → Bool) → K → Pool K T → Pool K T → Type 0
OthersStay {K} same name old new = (q : K) → same name q ≡ false
    → reassembly_at same new q ≡ reassembly_at same old q

-- a reassembly with the fragments and the timestamp that it had, whatever its memory
abbrev pub StaysButRoom : {T : Type 0} → Option (Reassembly T) → Option (Reassembly T) → Type 0
StaysButRoom None new = new ≡ None
StaysButRoom (Some s) new =
    IsSomeAnd new (λ t. t ≡ record s { buf = with_room s.buf t.buf.room })

-- what is left of a reassembly, by whether a fragment overlapped it
abbrev pub IsLeft : {T : Type 0} → (overlap : Bool) → Option (Reassembly T) → Option (Reassembly T) → Type 0
IsLeft true old new = new ≡ None
IsLeft false old new = StaysButRoom old new

-- after an error this name has the reassembly that it had, and none after an overlap
abbrev pub Stays : {K T : Type 0} → (K → K → Bool) → K → Pool K T → Pool K T → IpDefragError
    → Type 0
Stays same name old new error =
    IsLeft (is_overlap error) (reassembly_at same old name) (reassembly_at same new name)

-- a fragment of this name is refused by those that its reassembly shows, or else may be out of
-- memory
abbrev pub RefusesBy : {K T X : Type 0} → OverlapRule → (K → K → Bool) → Pool K T → K → Fragment
    → Result X IpDefragError → Type 0
RefusesBy rule same old name f result = (fs : List Fragment)
    → ShowsReassembly rule (reassembly_at same old name) fs
    → IfErr result (IsErrorOf f (outcome rule fs f))

-- what is left of a reassembly by a test of its timestamp: all of it where the test returns `true`,
-- else nothing
abbrev pub Retained : {T : Type 0} → (T → Bool → Type 0) → Option (Reassembly T)
    → Option (Reassembly T) → Type 0
Retained answers None new = new ≡ None
Retained answers (Some s) new = (new ≡ Some s) × answers s.timestamp true
    ⊎ (new ≡ None) × answers s.timestamp false

-- the test may be called on the reassembly's timestamp, if there is one
abbrev pub MayTest : {T : Type 0} → (Bor T → Type 0) → Option (Reassembly T) → Type 0
MayTest {T} pre None = Unit {0}
MayTest {T} pre (Some s) = (p : Bor T) → p.now ≡ s.timestamp → pre p
