-- The order of starts that a pool keeps, after a fragment and after datagrams are dropped.
use Rattle.std.proofs.Common.{arith, ◌≡◌, ◌∙◌, refl, sym, ap, subst, ℕ, ◌+◌, ◌==◌, ◌&&◌, Bool, true, false, not}
use Rattle.std.proofs.Common.{List, [], ◌∷◌, map, Option, None, Some, Result, Ok, Err, inl, inr}
use Rattle.std.proofs.lemmas.Bool.{and_parts, cases_Bool, eqb-true}
use Rattle.std.specs.Option.{option_map}
use Rattle.std.specs.Prelude.{◌↔◌, IsTrue, IfErr, IfOk, IfSome, MatchResult, is_some}
use Rattle.etherparse.specs.IpDefragPool.{Accepts, payload_of, payload_parsed}
use Rattle.etherparse.specs.IpFragId.{id_named, overlap_rule_of, rule_over, same_name}
use Rattle.etherparse.specs.Fragments.{Fragment, fragment}
use Rattle.etherparse.specs.Outcome.{outcome}
use Rattle.etherparse.specs.PoolCalls.{Lists, lists_with_frame}
use Rattle.etherparse.specs.ReassemblyTable.{OthersStay, Pool, ShowsReassembly, Stays, reassembly_at}
use Rattle.etherparse.specs.Timestamps.{pool_by, timestamp_at}
use Rattle.etherparse.specs.declared.defrag.ip_defrag_error.IpDefragError.{IpDefragError}
use Rattle.etherparse.specs.declared.defrag.ip_defrag_payload_vec.IpDefragPayloadVec.{IpDefragPayloadVec}
use Rattle.etherparse.specs.declared.defrag.ip_frag_id.IpFragId.{IpFragId}
use Rattle.etherparse.specs.declared.defrag.overlap_rule.OverlapRule.{OverlapRule}
use Rattle.etherparse.specs.declared.defrag.reassembly.Reassembly.{Reassembly}
use Rattle.ep_packet.specs.Class.{FragmentName}
use Rattle.ep_packet.specs.Class.Class.{Cut}
use Rattle.packets.specs.Dissected.{Answers, found_reported}
use Rattle.packets.specs.ReassemblyMemory.{DatagramName, DropsOldest, KeepsStarted, Order, ShowsOrder, id_of, is_same}
use Rattle.packets.specs.ReassemblyMemory.{starts_of}
use Rattle.packets.specs.ReassemblyMemory.{lists_without, order_by, order_with, taken_by, waits}
use Rattle.packets.specs.Started.{ShowsFragments}
use Rattle.packets.specs.declared.datagrams.Datagrams.{Datagrams}
use Rattle.packets.specs.declared.datagrams.Finding.{Finding}
use Rattle.packets.specs.declared.datagrams.Received.{Received}
use Rattle.etherparse.specs.StartedBytes.{bytes_held_if}
use Rattle.etherparse.specs.Starts.{ForgetsOldest, change_of, names_after}
use Rattle.packets.proofs.OrderLemmas.{accepted_there, by_fragment, shown_bytes, shown_waits}
use Rattle.packets.proofs.StartedLemmas.{last, same}
use Rattle.etherparse.proofs.CallLemmas.{rule_named}

some_mapped : {X Y : Type 0} (f : X → Y) (o : Option X) → is_some (option_map f o) ≡ is_some o
some_mapped f None = refl
some_mapped f (Some x) = refl

same_order : (b : Bool) (d : DatagramName) (order : Order) → order_by b b d order ≡ order
same_order true d order = refl
same_order false d order = refl

apart_by : ((a b : FragmentName) (x y : ℕ)
    → same (id_named a x) (id_named b y) ≡ (same_name a b && (x == y))) → (d e : DatagramName)
    → same (id_of d) (id_of e) ≡ is_same d e
apart_by parts d e = parts d.0 e.0 d.1 e.1

-- a timestamp that is read, of a reassembly or of none
timed : (s t : Option (Reassembly ℕ)) (r : Option Received) (time : ℕ)
    → option_map (λ (s : Reassembly ℕ). s.timestamp) s ≡ option_map last r
    → option_map (λ (s : Reassembly ℕ). s.timestamp) t ≡ option_map last r
    → IfSome s (λ s. s.timestamp ≡ time) → IfSome t (λ s. s.timestamp ≡ time)
timed s t r time one other h = grind arith

untimed : (t : Option (Reassembly ℕ)) (time : ℕ) → option_map (λ (s : Reassembly ℕ). s.timestamp) t ≡ None
    → IfSome t (λ s. s.timestamp ≡ time)
untimed t time h = grind arith

module _ {S H : Type 0}
    (shown : (read : Received → ℕ) (rule : OverlapRule) (pool : Pool (IpFragId ℕ) Received)
    (id : IpFragId ℕ) (fs : List Fragment)
    → ShowsReassembly rule (reassembly_at same (pool_by read pool) id) fs
    ↔ ShowsReassembly rule (reassembly_at same pool id) fs) where
  held_at : (datagrams : Datagrams S H) (lists : Lists) → ShowsFragments datagrams lists → (d : DatagramName)
      → ShowsReassembly (rule_over d.0.addresses) (reassembly_at same datagrams.pool (id_of d))
      (lists d.0 d.1).fragments
  held_at datagrams lists shows d =
      (shown last (rule_over d.0.addresses) datagrams.pool (id_of d) (lists d.0 d.1).fragments).0
      (shows d.0 d.1).0

  -- fragments of a datagram wait where its reassembly is there
  pub waits_at : (datagrams : Datagrams S H) (lists : Lists) → ShowsFragments datagrams lists → (d : DatagramName)
      → waits lists d ≡ is_some (reassembly_at same datagrams.pool (id_of d))
  waits_at datagrams lists shows d =
      shown_waits (rule_over d.0.addresses) (reassembly_at same datagrams.pool (id_of d))
      (lists d.0 d.1).fragments (held_at datagrams lists shows d)

  pub bytes_at : (datagrams : Datagrams S H) (lists : Lists) → ShowsFragments datagrams lists → (d : DatagramName)
      → bytes_held_if (reassembly_at same datagrams.pool (id_of d)) + 640 ≡ taken_by (lists d.0 d.1).fragments
  bytes_at datagrams lists shows d =
      ap (λ (n : ℕ). n + 640) (shown_bytes (rule_over d.0.addresses)
      (reassembly_at same datagrams.pool (id_of d)) (lists d.0 d.1).fragments (held_at datagrams lists shows d))

  module _ (parts : (a b : FragmentName) (x y : ℕ)
      → same (id_named a x) (id_named b y) ≡ (same_name a b && (x == y))) where
    -- a fragment changes the order
    module _ (old new : Datagrams S H) (lists : Lists) (order : Order) (name : FragmentName)
        (offset : ℕ) (more : Bool) (bytes : List ℕ) (channel time : ℕ)
        (result : Result (Option IpDefragPayloadVec) IpDefragError) (now : Received)
        (starts : starts_of new ≡ names_after same (id_named name channel)
        (change_of result (reassembly_at same old.pool (id_named name channel))) (starts_of old))
        (accepted : Accepts same old.pool new.pool (id_named name channel) (fragment offset more bytes)
        now result)
        (err : IfErr result (Stays same (id_named name channel) old.pool new.pool))
        (shows : ShowsFragments old lists) (has : ShowsOrder old order) where
      abbrev d : DatagramName
      d = (name, channel)

      abbrev before : Option (Reassembly Received)
      before = reassembly_at same old.pool (id_of d)

      abbrev after : Option (Reassembly Received)
      after = reassembly_at same new.pool (id_of d)

      abbrev rule : OverlapRule
      rule = overlap_rule_of (id_of d).ip

      held : ShowsReassembly rule before (lists name channel).fragments
      held = subst (λ (r : OverlapRule). ShowsReassembly r before (lists name channel).fragments)
          (sym (rule_named name.addresses name.identification)) (held_at old lists shows d)

      goes : (r : Result (Option IpDefragPayloadVec) IpDefragError)
          → Accepts same old.pool new.pool (id_of d) (fragment offset more bytes) now r
          → IfOk r (λ reported. is_some after ≡ not (is_some reported))
      goes (Ok reported) accepts =
          accepted_there rule (payload_of (id_of d))
          (outcome rule (lists name channel).fragments (fragment offset more bytes)) now after
          (option_map payload_parsed reported) (accepts (lists name channel).fragments held)
          ∙ ap not (some_mapped payload_parsed reported)
      goes (Err e) accepts = tt

      names : starts_of new ≡ map id_of (order_by (is_some before) (is_some after) d order)
      names = starts
          ∙ ap (names_after same (id_of d) (change_of result before)) has
          ∙ by_fragment same (apart_by parts) d order result before after (goes result accepted) err

      pub order_answered : {E : Type 0} → (r : Result Finding E)
          → Answers old new (Cut name offset more bytes) time channel None (found_reported r)
          → MatchResult r
          (λ finding. ShowsOrder new (order_with lists
          (lists_with_frame lists (Cut name offset more bytes) time channel) (Cut name offset more bytes)
          channel order))
          (λ e. ShowsOrder new order)
      order_answered (Ok finding) answers =
          let next = lists_with_frame lists (Cut name offset more bytes) time channel in
          rw (waits_at old lists shows d, waits_at new next (answers lists shows).1 d) names
      order_answered (Err e) answers =
          let stays = sym (waits_at new lists (answers lists shows).0 d) ∙ waits_at old lists shows d in
          names ∙ ap (λ (b : Bool). map id_of (order_by (is_some before) b d order)) stays
          ∙ ap (map id_of) (same_order (is_some before) d order)

    -- the datagram that started first is dropped
    module _ (alike : (a b : FragmentName) → IsTrue (same_name a b) ↔ (a ≡ b))
        (times : (read : Received → ℕ) (pool : Pool (IpFragId ℕ) Received) (id : IpFragId ℕ)
        → timestamp_at same (pool_by read pool) id ≡ option_map read (timestamp_at same pool id))
        (old new : Datagrams S H) (lists : Lists) (d : DatagramName)
        (gone : reassembly_at same new.pool (id_of d) ≡ None)
        (others : OthersStay same (id_of d) old.pool new.pool) (shows : ShowsFragments old lists) where
      here : (name : FragmentName) (channel : ℕ) → is_same d (name, channel) ≡ true
          → (d.0 ≡ name) × (d.1 ≡ channel)
      here name channel t =
          let both = and_parts (same_name d.0 name) (d.1 == channel) t in
          ((alike d.0 name).0 both.0, eqb-true d.1 channel both.1)

      gone_at : (name : FragmentName) (channel : ℕ) → is_same d (name, channel) ≡ true
          → reassembly_at same new.pool (id_named name channel) ≡ None
      gone_at name channel t =
          let same_as = here name channel t in
          rw (same_as.0, same_as.1) at gone

      stays_at : (name : FragmentName) (channel : ℕ) → is_same d (name, channel) ≡ false
          → reassembly_at same new.pool (id_named name channel)
          ≡ reassembly_at same old.pool (id_named name channel)
      stays_at name channel t = others (id_named name channel) (apart_by parts d (name, channel) ∙ t)

      pub dropped_lists : ShowsFragments new (lists_without d lists)
      dropped_lists name channel = elim (cases_Bool (is_same d (name, channel))) [
        | inl t ↦
            let none = gone_at name channel t in
            let id = id_named name channel in
            rw t (
              (shown last (rule_over name.addresses) new.pool id []).1 (rw none refl),
              untimed (reassembly_at same (pool_by last new.pool) id) (lists name channel).time
                  (times last new.pool id ∙ rw none refl),
            )
        | inr t ↦
            let stays = stays_at name channel t in
            let id = id_named name channel in
            rw t (
              (shown last (rule_over name.addresses) new.pool id (lists name channel).fragments).1
                  (rw stays ((shown last (rule_over name.addresses) old.pool id
                  (lists name channel).fragments).0 (shows name channel).0)),
              timed (reassembly_at same (pool_by last old.pool) id)
                  (reassembly_at same (pool_by last new.pool) id) (timestamp_at same old.pool id)
                  (lists name channel).time (times last old.pool id)
                  (times last new.pool id ∙ rw stays refl) (shows name channel).1,
            )
      ]

      pub dropped_started : KeepsStarted old new
      dropped_started started kept name channel = elim (cases_Bool (is_same d (name, channel))) [
        | inl t ↦ rw (gone_at name channel t) tt
        | inr t ↦ rw (stays_at name channel t) (kept name channel)
      ]

    -- what a pool reports of the datagram that started first: there is none; or it is dropped
    abbrev Reports : (old new : Datagrams S H) → Option (IpFragId ℕ × Received) → Type 0
    Reports old new None = (starts_of old ≡ []) × (starts_of new ≡ []) × (new.pool.reassemblies ≡ old.pool.reassemblies)
    Reports old new (Some x) = (starts_of old ≡ x.0 ∷ starts_of new) × (reassembly_at same new.pool x.0 ≡ None)
        × OthersStay same x.0 old.pool new.pool

    pub drops_oldest : (alike : (a b : FragmentName) → IsTrue (same_name a b) ↔ (a ≡ b))
        (times : (read : Received → ℕ) (pool : Pool (IpFragId ℕ) Received) (id : IpFragId ℕ)
        → timestamp_at same (pool_by read pool) id ≡ option_map read (timestamp_at same pool id))
        (old new : Datagrams S H) (found : Option (IpFragId ℕ × Received)) → Reports old new found
        → (lists : Lists) (order : Order) → ShowsFragments old lists → ShowsOrder old order
        → DropsOldest old new lists order (is_some found)
    drops_oldest alike times old new None reports lists [] shows has = (
      refl,
      λ name channel. rw reports.2 (shows name channel),
      reports.1,
      λ started kept name channel. rw reports.2 (kept name channel),
    )
    drops_oldest alike times old new None reports lists (d ∷ ds) shows has = absurd (cc (reports.0, has))
    drops_oldest alike times old new (Some x) reports lists [] shows has = absurd (cc (reports.0, has))
    drops_oldest alike times old new (Some x) reports lists (d ∷ ds) shows has =
        let first : x.0 ≡ id_of d = cc (reports.0, has) in
        let rest : starts_of new ≡ map id_of ds = cc (reports.0, has) in
        let gone = rw first at reports.1 in
        let others = subst (λ (q : IpFragId ℕ). OthersStay same q old.pool new.pool) first reports.2 in (
          refl,
          dropped_lists alike times old new lists d gone others shows,
          rest,
          dropped_started alike times old new lists d gone others shows,
        )

    pub reported : (old new : Datagrams S H) (mid : Pool (IpFragId ℕ) Received) (x : IpFragId ℕ × Received)
        → ForgetsOldest same old.pool mid x.0 x.1 → new.pool.reassemblies ≡ mid.reassemblies
        → new.pool.starts ≡ mid.starts → Reports old new (Some x)
    reported old new mid x f reassemblies starts = (
      f.oldest ∙ ap (λ (names : List (IpFragId ℕ)). x.0 ∷ names) (sym starts),
      rw reassemblies f.gone,
      λ q apart. rw reassemblies (f.others q apart),
    )

    pub none_reported : (old new : Datagrams S H) → (old.pool.starts ≡ []) × (new.pool ≡ old.pool)
        → Reports old new None
    none_reported old new h = (
      h.0,
      ap (λ (pool : Pool (IpFragId ℕ) Received). pool.starts) h.1 ∙ h.0,
      ap (λ (pool : Pool (IpFragId ℕ) Received). pool.reassemblies) h.1,
    )
