-- The answer to a fragment, by what the pool returns.
use Rattle.std.proofs.Common.{refl, arith, inl, inr, ◌≡◌, ◌∙◌, sym, ap, subst, ℕ, Bool, true, Option, None, Result}
use Rattle.std.proofs.Common.{List, []}
use Rattle.std.specs.Prelude.{codes, is_some}
use Rattle.etherparse.specs.Fragments.{fragment, Fragment}
use Rattle.etherparse.specs.declared.defrag.ip_defrag_error.IpDefragError.{IpDefragError}
use Rattle.etherparse.specs.declared.defrag.ip_defrag_payload_vec.IpDefragPayloadVec.{IpDefragPayloadVec}
use Rattle.etherparse.specs.declared.defrag.ip_frag_id.IpFragId.{IpFragId}
use Rattle.etherparse.specs.IpFragId.{id_named, rule_over}
use Rattle.etherparse.specs.Processed.{PacketsAreAnswered, Processed, MemoryErrorsAreReported}
use Rattle.etherparse.specs.ReassemblyTable.{Pool}
use Rattle.etherparse.specs.PoolCalls.{FrameAnswered, HasMemory, Lists, ShowsLists, CallResult, answer_to_frame}
use Rattle.etherparse.specs.PoolCalls.{lists_with_frame, memory_error_at_frame, outcome_at, result_of_outcome}
use Rattle.etherparse.specs.PoolCalls.{as_call_result}
use Rattle.etherparse.specs.PoolCalls.CallResult.{Delivered, Nothing, Refused, NotSliced, Retained, NoMemory}
use Rattle.etherparse.specs.packet.Class.{Class, FragmentName, as_class}
use Rattle.etherparse.specs.packet.Class.Class.{Cut, Refused as Faulty}
use Rattle.netlines.specs.Answers.{class_answer, outcome_answer}
use Rattle.etherparse.specs.packet.declared.addresses.Addresses.{Addresses}
use Rattle.etherparse.specs.packet.declared.class.Class.TheVariants as sliced_class
use Rattle.etherparse.specs.packet.declared.class.IpFragment.{IpFragment}
use Rattle.etherparse.specs.declared.defrag.overlap_rule.OverlapRule.{OverlapRule}
use Rattle.etherparse.specs.Outcome.{outcome}
use Rattle.etherparse.specs.Outcome.Outcome.{Completed, Refusal}

-- the answer where the pool returns this for a message that goes between these addresses
abbrev pub pool_answer : Addresses → CallResult → List ℕ
pool_answer addresses Nothing = codes "wait"
pool_answer addresses (Delivered payload) =
    outcome_answer addresses payload.ip_number.0 (Completed payload.bytes)
pool_answer addresses (Refused error) = outcome_answer addresses 0 (Refusal error)
pool_answer addresses (NotSliced error) = []
pool_answer addresses Retained = []
pool_answer addresses NoMemory = []

outcome_reported : (name : FragmentName) (channel : ℕ) (rule : OverlapRule) (fs : List Fragment)
    (f : Fragment) → pool_answer name.addresses
    (result_of_outcome (id_named name channel) (outcome rule fs f))
    ≡ outcome_answer name.addresses name.number (outcome rule fs f)
outcome_reported name channel rule fs f = grind arith

-- this is a fragment of a message that goes between these addresses
pub record IsFragment (class : Class) (addresses : Addresses) : Type 0 where
  pub name : FragmentName
  pub offset : ℕ
  pub more : Bool
  pub bytes : List ℕ
  pub is : class ≡ Cut name offset more bytes
  pub between : name.addresses ≡ addresses

pub fragment_is : (class : Class) (message : IpFragment) → as_class (sliced_class.Cut message) ≡ class
    → IsFragment class message.addresses
fragment_is class message same = record {
  name = record {
    vlan_ids = message.vlan_ids.items;
    addresses = message.addresses;
    identification = message.identification;
    number = message.ip_number.0;
  };
  offset = message.fragment.offset;
  more = message.fragment.more_fragments;
  bytes = message.fragment.bytes.now;
  is = sym same;
  between = refl;
}

-- what the pool made of a fragment
module _ (answered : PacketsAreAnswered) (memory_reported : MemoryErrorsAreReported) (old new : Pool (IpFragId ℕ) ℕ)
    (class : Class) (addresses : Addresses) (taken : IsFragment class addresses) (time channel : ℕ)
    (result : Result (Option IpDefragPayloadVec) IpDefragError)
    (processed : Processed old class time channel result new) (lists : Lists)
    (shows : ShowsLists old lists) where
  sound : class ≡ Faulty → ⊥
  sound is = let e = sym taken.is ∙ is in cc

  reported_by : FrameAnswered (ShowsLists new) lists class time channel None (as_call_result result)
  reported_by = answered old new class time channel result processed sound None lists shows

  reported_with : HasMemory (as_call_result result)
      → (as_call_result result ≡ answer_to_frame lists class channel None)
      × ShowsLists new (lists_with_frame lists class time channel)
  reported_with has = elim reported_by [
    | inl goes_on ↦ goes_on
    | inr memory_errors ↦
        absurd (memory_reported.memory_errors lists class channel (as_call_result result) memory_errors.0 has)
  ]

  pub pool_answered : (r : Result (Option IpDefragPayloadVec) IpDefragError) → result ≡ r
      → HasMemory (as_call_result r)
      → (pool_answer addresses (as_call_result r) ≡ class_answer lists class channel)
      × ShowsLists new (lists_with_frame lists class time channel)
  pool_answered r is has =
      let reported = reported_with
      (subst (λ (q : Result (Option IpDefragPayloadVec) IpDefragError). HasMemory
      (as_call_result q)) (sym is) has) in (
        ap (λ (q : Result (Option IpDefragPayloadVec) IpDefragError). pool_answer addresses
            (as_call_result q)) (sym is)
            ∙ ap (pool_answer addresses)
            (reported.0 ∙ ap (λ (c : Class). answer_to_frame lists c channel None) taken.is)
            ∙ ap (λ (a : Addresses). pool_answer a
            (result_of_outcome (id_named taken.name channel)
            (outcome_at lists taken.name channel (fragment taken.offset taken.more taken.bytes))))
            (sym taken.between)
            ∙ outcome_reported taken.name channel (rule_over taken.name.addresses)
            (lists taken.name channel).fragments (fragment taken.offset taken.more taken.bytes)
            ∙ ap (λ (c : Class). class_answer lists c channel) (sym taken.is),
        reported.1,
      )

  pub fragment_takes_memory : (r : Result (Option IpDefragPayloadVec) IpDefragError) → result ≡ r
      → (HasMemory (as_call_result r) → ⊥) → is_some (memory_error_at_frame lists class channel) ≡ true
  fragment_takes_memory r is lacks = grind arith
