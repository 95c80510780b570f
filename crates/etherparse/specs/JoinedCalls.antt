-- Datagrams that are returned where overlaps are refused (RFC 5722; RFC 8200, section 4.5): each is
-- joined from accepted fragments of its list.
use Rattle.std.specs.Prelude.{◌≡◌, ℕ, Some, List, [], ◌∷◌, ◌++◌}
use Rattle.ep_packet.specs.Class.{Class, FragmentName, class_of}
use Rattle.etherparse.specs.declared.defrag.overlap_rule.OverlapRule.TheVariants.{Refuses}
use Rattle.etherparse.specs.Fragments.{Fragment, IsAccepted}
use Rattle.etherparse.specs.Joined.{IsJoined}
use Rattle.etherparse.specs.declared.defrag.pool_calls.PoolCall.{PoolCall}
use Rattle.etherparse.specs.declared.defrag.pool_calls.PoolCall.TheVariants.{Frame, RetainFrom}
use Rattle.etherparse.specs.IpDefragPool.{Payload}
use Rattle.etherparse.specs.IpFragId.{fragment_in, rule_over}
use Rattle.etherparse.specs.PoolCalls.{Answered, Lists, CallResult}
use Rattle.etherparse.specs.PoolCalls.CallResult.{Delivered}

-- the list of each name has accepted fragments alone
abbrev pub AreAccepted : Lists → Type 0
AreAccepted lists = (name : FragmentName) (channel : ℕ)
    → IsAccepted (rule_over name.addresses) (lists name channel).fragments

-- the datagram is joined from these fragments, each of which was accepted after those before it
pub record IsJoinedFrom (fs : List Fragment) (payload : Payload) : Type 0 where
  pub accepted : IsAccepted Refuses fs
  pub joined : IsJoined fs payload.bytes

-- a datagram that is answered to a frame of this class, where overlaps are refused, is joined from
-- the list of its name and the frame's own fragment
abbrev pub JoinsFrame : Lists → Class → (channel : ℕ) → CallResult → Type 0
JoinsFrame lists class channel reported = (name : FragmentName) (f : Fragment) (payload : Payload)
    → fragment_in class ≡ Some (name, f) → rule_over name.addresses ≡ Refuses
    → reported ≡ Delivered payload → IsJoinedFrom ((lists name channel).fragments ++ f ∷ []) payload

abbrev pub JoinsCall : Lists → PoolCall → CallResult → Type 0
JoinsCall lists (Frame frame time channel) reported =
    JoinsFrame lists (class_of frame.now) channel reported
JoinsCall lists (RetainFrom from) reported = (payload : Payload) → reported ≡ Delivered payload → ⊥

-- so is each datagram that is answered to calls in turn, from the lists after the calls before it
abbrev pub JoinAnswers : Lists → List PoolCall → List CallResult → Type 0
JoinAnswers lists [] [] = Unit {0}
JoinAnswers lists [] (reported ∷ tolds) = ⊥
JoinAnswers lists (call ∷ calls) [] = ⊥
JoinAnswers lists (call ∷ calls) (reported ∷ tolds) =
    JoinsCall lists call reported × Answered (λ next. JoinAnswers next calls tolds) lists call reported
