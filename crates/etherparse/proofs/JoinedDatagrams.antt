-- Lists of accepted fragments, and the datagrams that are joined from them.
use Rattle.std.proofs.Common.{arith, ◌≡◌, ◌∙◌, sym, subst, refl, ℕ, Bool, true, false, cond, inl, inr, Option, Some}
use Rattle.std.proofs.Common.{option_map, List, [], ◌∷◌, ◌++◌}
use Rattle.std.specs.Prelude.{◌==◌, ◌&&◌, nat_lt}
use Rattle.ep_packet.specs.Class.{Class, FragmentName, class_of}
use Rattle.ep_packet.specs.Class.Class.{Whole, Cut, Other, Refused as Faulty}
use Rattle.ep_packet.specs.declared.err.packet.slice_error.SliceError.{SliceError}
use Rattle.etherparse.specs.declared.defrag.overlap_rule.OverlapRule.{OverlapRule}
use Rattle.etherparse.specs.declared.defrag.overlap_rule.OverlapRule.TheVariants.{Refuses}
use Rattle.etherparse.specs.Fragments.{Fragment, IsAccepted, fragment}
use Rattle.etherparse.specs.Outcome.{Held, Outcome}
use Rattle.etherparse.specs.Outcome.Outcome.{Completed}
use Rattle.etherparse.proofs.AcceptedOutcomes.{completed_accepted, completed_joined, held_accepted}
use Rattle.etherparse.specs.declared.defrag.ip_frag_id.IpFragId.{IpFragId}
use Rattle.etherparse.specs.declared.defrag.pool_calls.PoolCall.{PoolCall}
use Rattle.etherparse.specs.declared.defrag.pool_calls.PoolCall.TheVariants.{Frame, RetainFrom}
use Rattle.etherparse.specs.IpDefragPool.{Payload}
use Rattle.etherparse.specs.IpFragId.{id_named, rule_over, same_name}
use Rattle.etherparse.specs.JoinedCalls.{AreAccepted, IsJoinedFrom, JoinAnswers, JoinsCall, JoinsFrame}
use Rattle.ep_packet.specs.Sliced.{sliced_ethernet}
use Rattle.etherparse.specs.PoolCalls.{Answered, GoesOn, Lists, CallsAnswered, CallResult, after_frame, fault_in}
use Rattle.etherparse.specs.PoolCalls.{answer_to_frame, lists_after, lists_with, lists_with_frame, outcome_at}
use Rattle.etherparse.specs.PoolCalls.{result_of_outcome, memory_error_at_frame}
use Rattle.etherparse.specs.PoolCalls.CallResult.{Delivered, Refused}

-- ---- lists of accepted fragments

kept_either : (rule : OverlapRule) (b : Bool) (h k : Held) → IsAccepted rule h.fragments
    → IsAccepted rule k.fragments → IsAccepted rule (cond b h k).fragments
kept_either rule true h k all other = all
kept_either rule false h k all other = other

class_accepted : (name : FragmentName) (channel : ℕ) (class : Class) (time other : ℕ) (h : Held)
    → IsAccepted (rule_over name.addresses) h.fragments
    → IsAccepted (rule_over name.addresses) (after_frame name channel class time other h).fragments
class_accepted name channel (Cut own offset more bytes) time other h all =
    kept_either (rule_over name.addresses) (same_name own name && (other == channel)) _ h
    (held_accepted (rule_over name.addresses) h time (fragment offset more bytes) all) all
class_accepted name channel (Whole addresses number bytes message) time other h all = all
class_accepted name channel Other time other h all = all
class_accepted name channel Faulty time other h all = all

pub frame_accepted : (lists : Lists) (class : Class) (time channel : ℕ) → AreAccepted lists
    → AreAccepted (lists_with_frame lists class time channel)
frame_accepted lists class time channel all name other =
    class_accepted name other class time channel (lists name other) (all name other)

pub call_accepted : (lists : Lists) (call : PoolCall) → AreAccepted lists
    → AreAccepted (lists_with lists call)
call_accepted lists (Frame frame time channel) all =
    frame_accepted lists (class_of frame.now) time channel all
call_accepted lists (RetainFrom from) all = λ name channel.
    kept_either (rule_over name.addresses) (nat_lt (lists name channel).time from)
    (record { fragments = []; time = (lists name channel).time }) (lists name channel) refl
    (all name channel)

pub calls_accepted : (lists : Lists) (calls : List PoolCall) → AreAccepted lists
    → AreAccepted (lists_after lists calls)
calls_accepted lists [] all = all
calls_accepted lists (call ∷ calls) all =
    calls_accepted (lists_with lists call) calls (call_accepted lists call all)

-- ---- datagrams that are joined from them

one_part : (a b : FragmentName × Fragment) → Some a ≡ Some b → a ≡ b
one_part a b is = cc

completed_if : (id : IpFragId ℕ) (o : Outcome) (payload : Payload)
    → result_of_outcome id o ≡ Delivered payload
    → (text : List ℕ) × (o ≡ Completed text) × (payload.bytes ≡ text)
completed_if id o payload is = grind arith

module _ (lists : Lists) (accepted : AreAccepted lists) where
  from_list : (name : FragmentName) (channel : ℕ) (f : Fragment) (payload : Payload)
      → rule_over name.addresses ≡ Refuses
      → result_of_outcome (id_named name channel) (outcome_at lists name channel f) ≡ Delivered payload
      → IsJoinedFrom ((lists name channel).fragments ++ f ∷ []) payload
  from_list name channel f payload over is =
      grind (arith, completed_if, completed_accepted, completed_joined)

  answer_joins : (class : Class) (channel : ℕ) (fault : Option SliceError) (reported : CallResult)
      → reported ≡ answer_to_frame lists class channel fault → JoinsFrame lists class channel reported
  answer_joins (Cut own offset more bytes) channel fault reported is name f payload taken over given =
      from_list name channel f payload over
      (subst (λ (p : FragmentName × Fragment). result_of_outcome (id_named p.0 channel)
      (outcome_at lists p.0 channel p.1) ≡ Delivered payload)
      (one_part (own, fragment offset more bytes) (name, f) taken) (sym is ∙ given))
  answer_joins (Whole addresses number bytes message) channel fault reported is name f payload taken over
      given = cc
  answer_joins Other channel fault reported is name f payload taken over given = cc
  answer_joins Faulty channel fault reported is name f payload taken over given = cc

  memory_error_joins : (class : Class) (channel : ℕ) (reported : CallResult)
      → option_map Refused (memory_error_at_frame lists class channel) ≡ Some reported
      → JoinsFrame lists class channel reported
  memory_error_joins class channel reported memory_result name f payload taken over given =
      grind arith

  pub frame_joins : (ends : Lists → Type 0) (next : Lists) (class : Class) (channel : ℕ)
      (fault : Option SliceError) (reported : CallResult)
      → GoesOn ends lists next (answer_to_frame lists class channel fault)
      (memory_error_at_frame lists class channel) reported
      → JoinsFrame lists class channel reported
  frame_joins ends next class channel fault reported (inl h) =
      answer_joins class channel fault reported h.0
  frame_joins ends next class channel fault reported (inr h) = memory_error_joins class channel reported h.0

  call_joins : (ends : Lists → Type 0) (call : PoolCall) (reported : CallResult)
      → Answered ends lists call reported → JoinsCall lists call reported
  call_joins ends (Frame frame time channel) reported h =
      frame_joins ends (lists_with lists (Frame frame time channel)) (class_of frame.now) channel
      (fault_in (sliced_ethernet frame.now)) reported h
  call_joins ends (RetainFrom from) reported (inl h) = λ payload given. let other = h.0 in cc
  call_joins ends (RetainFrom from) reported (inr h) = λ payload given. let none = h.0 in cc

pub answers_join : (ends : Lists → Type 0) (lists : Lists) (calls : List PoolCall)
    (pool_answers : List CallResult) → CallsAnswered ends lists calls pool_answers → AreAccepted lists
    → JoinAnswers lists calls pool_answers
answers_join ends lists [] [] h all = tt
answers_join ends lists [] (reported ∷ pool_answers) h all = h
answers_join ends lists (call ∷ calls) [] h all = h
answers_join ends lists (call ∷ calls) (reported ∷ pool_answers) h all = (
  call_joins lists all (λ next. CallsAnswered ends next calls pool_answers) call reported h,
  elim h [
    | inl goes ↦ inl (
      goes.0,
      answers_join ends (lists_with lists call) calls pool_answers goes.1 (call_accepted lists call all),
    )
    | inr stays ↦ inr (stays.0, answers_join ends lists calls pool_answers stays.1 all)
  ],
)
