-- In which packets the datagrams that are not complete started, with one packet more.
use Rattle.std.proofs.Common.{arith, ◌≡◌, ◌∙◌, sym, ap, subst, ℕ, ◌==◌, ◌&&◌, nat_eq, Bool, List}
use Rattle.std.proofs.Common.{Option, None, Some, Result, Ok, Err, cond, inl, inr}
use Rattle.std.proofs.lemmas.Bool.{and_parts, cases_Bool, eqb-true}
use Rattle.std.specs.Option.{IsSomeAnd, option_map}
use Rattle.std.specs.Prelude.{◌↔◌, IsTrue, IfErr, IfOk, IfSome, MatchResult, unwrap_or}
use Rattle.etherparse.specs.IpDefragPool.{Accepts, same_id}
use Rattle.etherparse.specs.IpFragId.{id_named, overlap_rule_of, rule_over, same_name}
use Rattle.etherparse.specs.PoolCalls.{HasMemory, Lists, ShowsHeld, as_call_result}
use Rattle.etherparse.specs.declared.defrag.ip_defrag_payload_vec.IpDefragPayloadVec.{IpDefragPayloadVec}
use Rattle.etherparse.specs.declared.defrag.ip_frag_id.IpFragId.{IpFragId}
use Rattle.etherparse.specs.Fragments.{Fragment, fragment}
use Rattle.etherparse.specs.IpDefragError.{is_overlap}
use Rattle.etherparse.specs.Outcome.{Held, Outcome}
use Rattle.etherparse.specs.Outcome.Outcome.{Clash, Completed, Refusal, Waiting}
use Rattle.etherparse.specs.declared.defrag.ip_defrag_error.IpDefragError.{IpDefragError}
use Rattle.etherparse.specs.declared.defrag.overlap_rule.OverlapRule.{OverlapRule}
use Rattle.ep_packet.specs.Class.{FragmentName}
use Rattle.ep_packet.specs.Class.Class.{Cut}
use Rattle.etherparse.specs.ReassemblyTable.{Becomes, IsLeft, OthersStay, Pool, Retained, ShowsReassembly, Stays}
use Rattle.etherparse.specs.ReassemblyTable.{reassembly_at}
use Rattle.etherparse.specs.Timestamps.{pool_by, timestamp_at}
use Rattle.etherparse.specs.declared.defrag.reassembly.Reassembly.{Reassembly}
use Rattle.packets.specs.Started.{BeganIn, Started, ShowsStarted, ShowsFragments, ReportsStarted, started_if}
use Rattle.packets.specs.Started.{started_in, started_with, received_with}
use Rattle.packets.specs.Dissected.{IsFound}
use Rattle.packets.specs.declared.datagrams.Finding.{Finding}
use Rattle.packets.specs.declared.datagrams.Datagrams.{Datagrams}
use Rattle.packets.specs.declared.datagrams.Received.{Received}
use Rattle.etherparse.proofs.CallLemmas.{rule_named, either_way}

abbrev pub same : IpFragId ℕ → IpFragId ℕ → Bool
same = same_id nat_eq

abbrev timestamp : {T : Type 0} → Reassembly T → T
timestamp s = s.timestamp

abbrev first : Received → ℕ
first r = r.first

abbrev pub last : Received → ℕ
last r = r.last

-- where a datagram started, by what the pool keeps of it
known_started : (rule : OverlapRule) (s : Option (Reassembly ℕ)) (h : Held) (before : Option Received)
    (number : ℕ) → ShowsHeld rule s h
    → option_map timestamp s ≡ option_map last before
    → IfSome before (λ r. r.first ≡ number) → option_map first before ≡ started_if h.fragments number
known_started rule s h before number shows is kept = grind arith

-- with a fragment that is accepted
pub accepted_now : {X : Type 0} (rule : OverlapRule) (whole : List ℕ → X) (o : Outcome)
    (now : Received) (s : Option (Reassembly Received)) (reported : Option X)
    → Becomes rule whole o now s reported → IfSome (option_map timestamp s) (λ r. r ≡ now)
accepted_now rule whole (Refusal error) now s reported h = absurd h
accepted_now rule whole (Clash error) now s reported h = absurd h
accepted_now rule whole (Waiting fs) now None reported h = absurd h.1
accepted_now rule whole (Waiting fs) now (Some s) reported h = h.1.2
accepted_now rule whole (Completed text) now s reported h = rw h.1 tt

renewed : (s : Option Received) (now : Received) (number : ℕ) → IfSome s (λ r. r ≡ now)
    → now.first ≡ number → IfSome s (λ r. r.first ≡ number)
renewed s now number h is = grind arith

left_started : (overlap : Bool) (s left : Option (Reassembly Received)) (number : ℕ)
    → IsLeft overlap s left → IfSome (option_map timestamp s) (λ r. r.first ≡ number)
    → IfSome (option_map timestamp left) (λ r. r.first ≡ number)
left_started overlap s left number h kept = grind arith

-- what is kept after a test of the timestamp
pub retained_started : (answers : Received → Bool → Type 0) (old new : Option (Reassembly Received))
    (number : ℕ) → Retained answers old new
    → IfSome (option_map timestamp old) (λ r. r.first ≡ number)
    → IfSome (option_map timestamp new) (λ r. r.first ≡ number)
retained_started answers old new number h kept = grind arith

-- what of the reassemblies is kept after a test, whatever it is
pub forgotten_started : {S H : Type 0} (answers : Received → Bool → Type 0)
    (old new : Datagrams S H) (started : Started)
    → ((q : IpFragId ℕ) → Retained answers (reassembly_at same old.pool q) (reassembly_at same new.pool q))
    → ShowsStarted old started → ShowsStarted new started
forgotten_started answers old new started retained kept name channel =
    retained_started answers (reassembly_at same old.pool (id_named name channel))
    (reassembly_at same new.pool (id_named name channel)) (started name channel)
    (retained (id_named name channel)) (kept name channel)

-- a fragment of a name
module _ {S H : Type 0} (parts : (a b : FragmentName) (x y : ℕ)
    → same (id_named a x) (id_named b y) ≡ (same_name a b && (x == y)))
    (alike : (a b : FragmentName) → IsTrue (same_name a b) ↔ (a ≡ b)) (old new : Datagrams S H)
    (lists : Lists) (started : Started) (name : FragmentName) (offset : ℕ) (more : Bool)
    (bytes : List ℕ) (channel number : ℕ)
    (result : Result (Option IpDefragPayloadVec) IpDefragError)
    (others : OthersStay same (id_named name channel) old.pool new.pool)
    (err : IfErr result (Stays same (id_named name channel) old.pool new.pool))
    (kept : ShowsStarted old started) where
  abbrev Keeps : FragmentName → ℕ → ℕ → Type 0
  Keeps n c packet = IfSome (timestamp_at same new.pool (id_named n c)) (λ r. r.first ≡ packet)

  -- one name's reassembly is changed, and no other
  one_changes : (made : Started) → Keeps name channel (made name channel) → (n : FragmentName) (c : ℕ)
      → Keeps n c (cond (same_name name n && (channel == c)) (made n c) (started n c))
  one_changes made here n c = elim (cases_Bool (same_name name n && (channel == c))) [
    | inl t ↦
        let both = and_parts (same_name name n) (channel == c) t in
        rw t
        (subst (λ (m : FragmentName). Keeps m c (made m c)) ((alike name n).0 both.0)
        (subst (λ (k : ℕ). Keeps name k (made name k)) (eqb-true channel c both.1) here))
    | inr t ↦
        rw (t, others (id_named n c) (parts name n channel c ∙ t)) (kept n c)
  ]

  -- after a fragment that is refused, or for which memory runs out
  refused_started : (e : IpDefragError) → Stays same (id_named name channel) old.pool new.pool e
      → ShowsStarted new started
  refused_started e stays n c = subst (Keeps n c)
      (either_way (same_name name n && (channel == c)) (started n c))
      (one_changes started (left_started (is_overlap e) (reassembly_at same old.pool (id_named name channel))
      (reassembly_at same new.pool (id_named name channel)) (started name channel) stays
      (kept name channel)) n c)

  module _ (now : Received)
      (known : option_map first (timestamp_at same old.pool (id_named name channel))
      ≡ started_in lists started name channel)
      (is : now.first ≡ unwrap_or (option_map first
      (timestamp_at same old.pool (id_named name channel))) number)
      (accepted : IfOk result (λ payload. IfSome
      (timestamp_at same new.pool (id_named name channel)) (λ r. r ≡ now))) where
    here : (r : Result (Option IpDefragPayloadVec) IpDefragError)
        → IfOk r (λ payload. IfSome (timestamp_at same new.pool (id_named name channel)) (λ r. r ≡ now))
        → IfErr r (Stays same (id_named name channel) old.pool new.pool)
        → Keeps name channel (unwrap_or (started_in lists started name channel) number)
    here r at stays = grind arith

    fragment_started : ShowsStarted new (started_with lists started (Cut name offset more bytes) channel number)
    fragment_started = one_changes (λ n c. unwrap_or (started_in lists started n c) number)
        (here result accepted err)

    -- and what is reported of it
    answered : {E : Type 0} → (r : Result Finding E) → IsFound (as_call_result result) r
        → IfOk r (λ finding. IsSomeAnd finding.fragment (BeganIn
        (option_map first (timestamp_at same old.pool (id_named name channel)))
        (unwrap_or (option_map first (timestamp_at same old.pool (id_named name channel))) number)))
        → MatchResult r
        (λ finding. ReportsStarted lists started (Cut name offset more bytes) channel number finding.fragment
        × ShowsStarted new (started_with lists started (Cut name offset more bytes) channel number))
        (λ e. ShowsStarted new started)
    answered (Ok finding) found begins = (
      subst (λ (o : Option ℕ). IsSomeAnd finding.fragment (BeganIn o (unwrap_or o number))) known
          begins,
      fragment_started,
    )
    answered (Err e) lacks begins = if_refused result lacks err
      where
        if_refused : (o : Result (Option IpDefragPayloadVec) IpDefragError)
            → (HasMemory (as_call_result o) → ⊥)
            → IfErr o (Stays same (id_named name channel) old.pool new.pool) → ShowsStarted new started
        if_refused (Ok None) lacks stays = absurd (lacks tt)
        if_refused (Ok (Some payload)) lacks stays = absurd (lacks tt)
        if_refused (Err e) lacks stays = refused_started e stays

-- the same by the clauses of the pool
module _ {S H : Type 0} (parts : (a b : FragmentName) (x y : ℕ)
    → same (id_named a x) (id_named b y) ≡ (same_name a b && (x == y)))
    (alike : (a b : FragmentName) → IsTrue (same_name a b) ↔ (a ≡ b))
    (times : (read : Received → ℕ) (pool : Pool (IpFragId ℕ) Received) (id : IpFragId ℕ)
    → timestamp_at same (pool_by read pool) id ≡ option_map read (timestamp_at same pool id))
    (shown : (read : Received → ℕ) (rule : OverlapRule) (pool : Pool (IpFragId ℕ) Received)
    (id : IpFragId ℕ) (fs : List Fragment)
    → ShowsReassembly rule (reassembly_at same (pool_by read pool) id) fs
    ↔ ShowsReassembly rule (reassembly_at same pool id) fs) (old new : Datagrams S H)
    (lists : Lists) (started : Started) (name : FragmentName) (offset : ℕ) (more : Bool)
    (bytes : List ℕ) (channel number time : ℕ)
    (result : Result (Option IpDefragPayloadVec) IpDefragError) (before : Option Received)
    (now : Received) (was : before ≡ timestamp_at same old.pool (id_named name channel))
    (is : now ≡ received_with number time before)
    (accepted : Accepts same old.pool new.pool (id_named name channel) (fragment offset more bytes)
    now result)
    (others : OthersStay same (id_named name channel) old.pool new.pool)
    (err : IfErr result (Stays same (id_named name channel) old.pool new.pool))
    (shows : ShowsFragments old lists) (kept : ShowsStarted old started) where
  abbrev id : IpFragId ℕ
  id = id_named name channel

  here_shown : ShowsReassembly (overlap_rule_of id.ip) (reassembly_at same old.pool id)
      (lists name channel).fragments
  here_shown = subst (λ (rule : OverlapRule). ShowsReassembly rule (reassembly_at same old.pool id)
      (lists name channel).fragments) (sym (rule_named name.addresses name.identification))
      ((shown last (rule_over name.addresses) old.pool id (lists name channel).fragments).0
      (shows name channel).0)

  kept_now : (r : Result (Option IpDefragPayloadVec) IpDefragError)
      → Accepts same old.pool new.pool id (fragment offset more bytes) now r
      → IfOk r (λ payload. IfSome (timestamp_at same new.pool id) (λ (at : Received). at ≡ now))
  kept_now r goes = grind (arith, accepted_now, here_shown)

  pub pool_answered : {E : Type 0} → (r : Result Finding E) → IsFound (as_call_result result) r
      → IfOk r (λ finding. IsSomeAnd finding.fragment (BeganIn (option_map first before)
      (unwrap_or (option_map first before) number)))
      → MatchResult r
      (λ finding. ReportsStarted lists started (Cut name offset more bytes) channel number finding.fragment
      × ShowsStarted new (started_with lists started (Cut name offset more bytes) channel number))
      (λ e. ShowsStarted new started)
  pool_answered r found begins =
      answered parts alike old new lists started name offset more bytes channel number result others
      err kept now
      (known_started (rule_over name.addresses) (reassembly_at same (pool_by last old.pool) id)
      (lists name channel) (timestamp_at same old.pool id) (started name channel) (shows name channel)
      (times last old.pool id) (kept name channel))
      (subst (λ (o : Option Received). now.first ≡ unwrap_or (option_map first o) number) was
      (ap first is))
      (kept_now result accepted) r found
      (subst (λ (o : Option Received). IfOk r (λ finding. IsSomeAnd finding.fragment
      (BeganIn (option_map first o) (unwrap_or (option_map first o) number)))) was begins)
