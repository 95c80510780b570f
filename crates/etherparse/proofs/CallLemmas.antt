-- What a packet makes of the lists that a pool shows, and what is answered to it.
use Rattle.std.proofs.Common.{◌≡◌, ◌≢◌, ◌⊎◌, sym, ap, subst, refl, arith, ℕ, Bool, true, false, cond, ◌&&◌, inl, inr}
use Rattle.std.proofs.Common.{Option, Some, None, Result, Ok, Err, List, [], ◌∷◌, ◌++◌, length, length-append, IsTrue}
use Rattle.std.proofs.Common.{◌↔◌}
use Rattle.std.proofs.lemmas.Bool.{cases_Bool}
use Rattle.std.specs.Option.{IsSomeAnd, option_map}
use Rattle.std.specs.Prelude.{◌==◌, nat_eq, IfErr}
use Rattle.ep_packet.specs.Class.{Class, FragmentName}
use Rattle.ep_packet.specs.Class.Class.{Cut, Refused as Faulty}
use Rattle.ep_packet.specs.declared.addresses.Addresses.{Addresses}
use Rattle.ep_packet.specs.declared.err.packet.slice_error.SliceError.{SliceError}
use Rattle.etherparse.specs.declared.defrag.ip_defrag_error.IpDefragError.{IpDefragError}
use Rattle.etherparse.specs.declared.defrag.ip_defrag_error.IpDefragError.TheVariants.{OverlappingFragment}
use Rattle.etherparse.specs.declared.defrag.ip_defrag_payload_vec.IpDefragPayloadVec.{IpDefragPayloadVec}
use Rattle.etherparse.specs.declared.defrag.ip_frag_id.IpFragId.{IpFragId}
use Rattle.etherparse.specs.declared.defrag.overlap_rule.OverlapRule.{OverlapRule}
use Rattle.etherparse.specs.declared.defrag.reassembly.Reassembly.{Reassembly}
use Rattle.etherparse.specs.Fragments.{Fragment, fragment}
use Rattle.etherparse.specs.IpDefragError.{is_overlap}
use Rattle.etherparse.specs.IpDefragPool.{Accepts, Refuses, payload_of, payload_parsed, same_id as same_by}
use Rattle.etherparse.specs.IpFragId.{id_named, overlap_rule_of, rule_over, same_name, spec_id}
use Rattle.etherparse.specs.Outcome.{Held, Outcome, error_of, held_after, memory_error, outcome}
use Rattle.etherparse.specs.PoolCalls.{FrameAnswered, Lists, ShowsHeld, ShowsLists, CallResult, outcome_at}
use Rattle.etherparse.specs.PoolCalls.{result_of_outcome, as_call_result}
use Rattle.etherparse.specs.PoolCalls.CallResult.{Nothing, Refused}
use Rattle.etherparse.specs.Processed.{Processed}
use Rattle.etherparse.specs.ReassemblyTable.{Becomes, IsErrorOf, IsReassemblyOf, OthersStay, Pool, ShowsReassembly}
use Rattle.etherparse.specs.ReassemblyTable.{IsLeft, Stays, StaysButRoom, reassembly_at}
use Rattle.etherparse.proofs.Rooms.{still_shows}
use Rattle.etherparse.proofs.OutcomeLemmas.{by_outcome}
use Rattle.etherparse.proofs.Retaining.{some_same}

abbrev same_id : IpFragId ℕ → IpFragId ℕ → Bool
same_id = same_by nat_eq

not_empty : (fs : List Fragment) (f : Fragment) → fs ++ f ∷ [] ≢ []
not_empty fs f is = absurd (omega (arith, ap length is, length-append fs (f ∷ [])))

-- what is answered to a fragment where that is no error,
result_is : (rule : OverlapRule) (id : IpFragId ℕ) (o : Outcome) (time : ℕ) (s : Option (Reassembly ℕ))
    (payload : Option IpDefragPayloadVec)
    → Becomes rule (payload_of id) o time s (option_map payload_parsed payload)
    → as_call_result (Ok payload) ≡ result_of_outcome id o
result_is rule id o time s payload h = grind arith

-- and what its reassembly shows then
shows_after : (rule : OverlapRule) (s : Option (Reassembly ℕ)) (h : Held) (f : Fragment) (time : ℕ)
    (id : IpFragId ℕ) (payload : Option IpDefragPayloadVec)
    → Becomes rule (payload_of id) (outcome rule h.fragments f) time s
    (option_map payload_parsed payload)
    → ShowsHeld rule s (held_after h time (outcome rule h.fragments f))
shows_after rule s h f time id payload becomes =
    by_outcome rule h.fragments f
    (λ (o : Outcome). Becomes rule (payload_of id) o time s (option_map payload_parsed payload)
    → ShowsHeld rule s (held_after h time o))
    (λ error refused never. absurd never)
    (λ none clash never. absurd never)
    (λ taken open_end goes. elim s as
    (λ (s : Option (Reassembly ℕ)). IsSomeAnd s (IsReassemblyOf rule (h.fragments ++ f ∷ []) time)
    → ShowsHeld rule s (record { fragments = h.fragments ++ f ∷ []; time = time })) [
      | Some there ↦ λ is. ((is.0, is.1, not_empty h.fragments f), is.2)
      | None ↦ λ is. absurd is
    ] goes.1)
    (λ taken whole goes. subst
    (λ (s : Option (Reassembly ℕ)). ShowsHeld rule s (record { fragments = []; time = time }))
    (sym goes.1) (refl, tt))
    becomes

-- and where its reassembly stays, whatever its memory
still_held : (rule : OverlapRule) (old new : Option (Reassembly ℕ)) (h : Held) → StaysButRoom old new
    → ShowsHeld rule old h → ShowsHeld rule new h
still_held rule None new h is shows =
    subst (λ (s : Option (Reassembly ℕ)). ShowsHeld rule s h) (sym is) shows
still_held rule (Some s) None h is shows = absurd is
still_held rule (Some s) (Some t) h is shows = (
  (
    still_shows s.buf t.buf h.fragments (ap (λ (u : Reassembly ℕ). u.buf) is) shows.0.0,
    grind arith,
    shows.0.2,
  ),
  grind arith,
)

-- and after an error, by the reassembly that is left
left_after : (rule : OverlapRule) (f : Fragment) (h : Held) (old new : Option (Reassembly ℕ)) (time : ℕ)
    (e : IpDefragError) → error_of (outcome rule h.fragments f) ≡ Some e
    → IsLeft (is_overlap e) old new → ShowsHeld rule old h
    → ShowsHeld rule new (held_after h time (outcome rule h.fragments f))
left_after rule f h old new time e is left shows =
    by_outcome rule h.fragments f
    (λ (o : Outcome). error_of o ≡ Some e → ShowsHeld rule new (held_after h time o))
    (λ error refused reported.
    let same : error ≡ e = some_same error e reported in
    let stays : is_overlap e ≡ false =
    grind arith in
    grind (arith, still_held))
    (λ none clash reported.
    let same : OverlappingFragment f.offset (length f.bytes) ≡ e =
    some_same (OverlappingFragment f.offset (length f.bytes)) e reported in
    let gone : new ≡ None =
    grind arith in
    grind arith)
    (λ taken open_end reported. cc)
    (λ taken whole reported. cc)
    is

-- one for which there is no memory leaves the reassembly
memory_error_stays : (f : Fragment) (o : Outcome) (e : IpDefragError) → memory_error f o ≡ Some e
    → is_overlap e ≡ false
memory_error_stays f o e is = grind arith

-- the rule of a name is that of its addresses
pub rule_named : (addresses : Addresses) (identification : ℕ)
    → overlap_rule_of (spec_id addresses identification) ≡ rule_over addresses
rule_named addresses identification = grind arith

-- what is answered to a refused fragment
refused_reported : (id : IpFragId ℕ) (o : Outcome) (e : IpDefragError) → error_of o ≡ Some e
    → as_call_result (Err e) ≡ result_of_outcome id o
refused_reported id o e is = grind arith

by_rule : (name : FragmentName) (channel : ℕ) (P : OverlapRule → Type 0)
    → P (overlap_rule_of (id_named name channel).ip) → P (rule_over name.addresses)
by_rule name channel P h = subst P (rule_named name.addresses name.identification) h

pub either_way : {X : Type 0} (b : Bool) (x : X) → cond b x x ≡ x
either_way true x = refl
either_way false x = refl

module _ (components : (a b : FragmentName) (x y : ℕ)
    → same_id (id_named a x) (id_named b y) ≡ (same_name a b && (x == y)))
    (same : (a b : FragmentName) → IsTrue (same_name a b) ↔ (a ≡ b)) (old new : Pool (IpFragId ℕ) ℕ)
    (lists : Lists) (shows : ShowsLists old lists) where
  -- one name's list is changed, and no other
  one_changes : (name : FragmentName) (channel : ℕ) (made : Lists)
      → OthersStay same_id (id_named name channel) old new
      → ShowsHeld (rule_over name.addresses) (reassembly_at same_id new (id_named name channel))
      (made name channel)
      → ShowsLists new (λ n c. cond (same_name name n && (channel == c)) (made n c) (lists n c))
  one_changes name channel made others one n c =
      elim (cases_Bool (same_name name n && (channel == c))) [
        | inl t ↦
            grind arith
        | inr t ↦
            grind arith
      ]

  -- where one name's reassembly stays and every other one's, all do
  all_same : (name : FragmentName) (channel : ℕ) → OthersStay same_id (id_named name channel) old new
      → StaysButRoom (reassembly_at same_id old (id_named name channel))
      (reassembly_at same_id new (id_named name channel)) → ShowsLists new lists
  all_same name channel others is n c =
      subst (λ (h : Held). ShowsHeld (rule_over n.addresses)
      (reassembly_at same_id new (id_named n c)) h) (either_way _ (lists n c))
      (one_changes name channel lists others
      (still_held (rule_over name.addresses) _ _ (lists name channel) is (shows name channel)) n c)

  module _ (time channel : ℕ) (fault : Option SliceError) where
    abbrev IsAnswered : Class → CallResult → Type 0
    IsAnswered class reported = FrameAnswered (ShowsLists new) lists class time channel fault reported

    -- a fragment of this name
    fragment_answered : (name : FragmentName) (offset : ℕ) (more : Bool) (bytes : List ℕ)
        (result : Result (Option IpDefragPayloadVec) IpDefragError)
        → Accepts same_id old new (id_named name channel) (fragment offset more bytes) time result
        → Refuses same_id old (id_named name channel) (fragment offset more bytes) result
        → OthersStay same_id (id_named name channel) old new
        → IfErr result (Stays same_id (id_named name channel) old new)
        → IsAnswered (Cut name offset more bytes) (as_call_result result)
    fragment_answered name offset more bytes (Ok payload) accepted refused others err =
        let f = fragment offset more bytes in
        let h = lists name channel in
        let rule = rule_over name.addresses in
        let goes = by_rule name channel (λ (r : OverlapRule). ShowsReassembly r
        (reassembly_at same_id old (id_named name channel)) h.fragments
        → Becomes r (payload_of (id_named name channel)) (outcome r h.fragments f) time
        (reassembly_at same_id new (id_named name channel)) (option_map payload_parsed payload))
        (accepted h.fragments) (shows name channel).0 in inl (
          result_is rule (id_named name channel) (outcome rule h.fragments f) time _ payload goes,
          one_changes name channel (λ n c. held_after (lists n c) time (outcome_at lists n c f))
              others (shows_after rule _ h f time (id_named name channel) payload goes),
        )
    fragment_answered name offset more bytes (Err e) accepted refused others err =
        let f = fragment offset more bytes in
        let h = lists name channel in
        let rule = rule_over name.addresses in
        let reported = by_rule name channel (λ (r : OverlapRule). ShowsReassembly r
        (reassembly_at same_id old (id_named name channel)) h.fragments
        → IsErrorOf f (outcome r h.fragments f) e)
        (refused h.fragments) (shows name channel).0 in
        elim reported [
          | inl is ↦ inl (
            refused_reported (id_named name channel) (outcome rule h.fragments f) e is,
            one_changes name channel
                (λ n c. held_after (lists n c) time (outcome_at lists n c f)) others
                (left_after rule f h _ _ time e is err (shows name channel)),
          )
          | inr memory_errors ↦
              inr (
                ap (λ (memory_result : Option IpDefragError). option_map Refused memory_result)
                    memory_errors,
                all_same name channel others
                    (subst (λ (b : Bool). IsLeft b
                    (reassembly_at same_id old (id_named name channel))
                    (reassembly_at same_id new (id_named name channel)))
                    (memory_error_stays f (outcome rule h.fragments f) e memory_errors) err),
              )
        ]

    -- a packet that is no fragment
    passed : (result : Result (Option IpDefragPayloadVec) IpDefragError)
        → (result ≡ Ok None) × (new ≡ old) → (as_call_result result ≡ Nothing) × ShowsLists new lists
        ⊎ (None ≡ Some (as_call_result result)) × ShowsLists new lists
    passed result is = grind arith

    -- whatever class a packet has
    pub packet_answered : (class : Class)
        (result : Result (Option IpDefragPayloadVec) IpDefragError)
        → Processed old class time channel result new → (class ≡ Faulty → ⊥)
        → IsAnswered class (as_call_result result)
    packet_answered class result p sound = grind (arith, fragment_answered, passed)
