-- Pools with what is read of their timestamps.
use Rattle.std.proofs.Common.{◌≡◌, ◌↔◌, ◌∙◌, refl, sym, ap, ℕ, Bool, true, false, nat_eq, nat_lt, nat_le, Option, Some}
use Rattle.std.proofs.Common.{None, Result, Ok, Err, List, [], ◌∷◌, map, inl, inr, arith}
use Rattle.std.proofs.lemmas.Bool.Decides.{nat_tests}
use Rattle.std.proofs.lemmas.List.{length-map}
use Rattle.std.specs.List.{IsDistinct}
use Rattle.std.specs.Map.{keys_of, lookup}
use Rattle.std.specs.Option.{option_map}
use Rattle.std.specs.Prelude.{IfErr, IfSome}
use Rattle.etherparse.specs.Fragments.{Fragment}
use Rattle.etherparse.specs.IpDefragError.{is_overlap}
use Rattle.etherparse.specs.Outcome.{Held, Outcome}
use Rattle.etherparse.specs.Outcome.Outcome.{Clash, Completed, Refusal, Waiting}
use Rattle.etherparse.specs.declared.defrag.ip_defrag_error.IpDefragError.{IpDefragError}
use Rattle.etherparse.specs.declared.defrag.overlap_rule.OverlapRule.{OverlapRule}
use Rattle.ep_packet.specs.Class.{Class}
use Rattle.etherparse.specs.Counts.{open_in}
use Rattle.etherparse.specs.ReassemblyTable.{Becomes, IsLeft, OthersStay, Pool, Retained, ShowsReassembly, Stays}
use Rattle.etherparse.specs.ReassemblyTable.{reassembly_at}
use Rattle.etherparse.specs.Timestamps.{pool_by, reassembly_by, timestamp_at}
use Rattle.etherparse.specs.declared.defrag.reassembly.Reassembly.{Reassembly}
use Rattle.etherparse.specs.IpDefragPool.{Accepts, Refuses, same_id}
use Rattle.etherparse.specs.IpFragId.{fragment_in, id_named, rule_over}
use Rattle.etherparse.specs.PoolCalls.{Lists, ShowsHeld, ShowsLists, retained_from}
use Rattle.etherparse.specs.Processed.{Processed}
use Rattle.etherparse.specs.declared.defrag.ip_defrag_payload_vec.IpDefragPayloadVec.{IpDefragPayloadVec}
use Rattle.etherparse.specs.declared.defrag.ip_frag_id.IpFragId.{IpFragId}

if_some : {X : Type 0} (P Q : X → Type 0) (o : Option X) → ((x : X) → P x → Q x) → IfSome o P
    → IfSome o Q
if_some P Q None each h = tt
if_some P Q (Some x) each h = each x h

module _ {T U : Type 0} (read : T → U) where
  shows_read : (rule : OverlapRule) (s : Option (Reassembly T)) (fs : List Fragment)
      → ShowsReassembly rule (option_map (reassembly_by read) s) fs → ShowsReassembly rule s fs
  shows_read rule None fs h = h
  shows_read rule (Some s) fs h = h

  shows_by : (rule : OverlapRule) (s : Option (Reassembly T)) (fs : List Fragment)
      → ShowsReassembly rule s fs → ShowsReassembly rule (option_map (reassembly_by read) s) fs
  shows_by rule None fs h = h
  shows_by rule (Some s) fs h = h

  becomes_by : {X : Type 0} (rule : OverlapRule) (whole : List ℕ → X) (o : Outcome) (time : T)
      (s : Option (Reassembly T)) (reported : Option X) → Becomes rule whole o time s reported
      → Becomes rule whole o (read time) (option_map (reassembly_by read) s) reported
  becomes_by rule whole (Refusal error) time s reported h = h
  becomes_by rule whole (Clash error) time s reported h = h
  becomes_by rule whole (Waiting fs) time None reported h = absurd h.1
  becomes_by rule whole (Waiting fs) time (Some s) reported h =
      (h.0, (h.1.0, h.1.1, ap read h.1.2))
  becomes_by rule whole (Completed text) time s reported h =
      (h.0, ap (option_map (reassembly_by read)) h.1)

  left_by : (overlap : Bool) (s t : Option (Reassembly T)) → IsLeft overlap s t
      → IsLeft overlap (option_map (reassembly_by read) s) (option_map (reassembly_by read) t)
  left_by true s t h = ap (option_map (reassembly_by read)) h
  left_by false None t h = ap (option_map (reassembly_by read)) h
  left_by false (Some s) None h = absurd h
  left_by false (Some s) (Some t) h = ap (reassembly_by read) h

  timestamp_read : (s : Option (Reassembly T))
      → option_map (λ (s : Reassembly U). s.timestamp) (option_map (reassembly_by read) s)
      ≡ option_map read (option_map (λ (s : Reassembly T). s.timestamp) s)
  timestamp_read s = grind arith

module _ {K T U : Type 0} (read : T → U) where
  abbrev same_by : K × Reassembly T → K × Reassembly U
  same_by e = (e.0, reassembly_by read e.1)

  lookup_by : (test : K → Bool) (es : List (K × Reassembly T))
      → lookup test (map same_by es) ≡ option_map (reassembly_by read) (lookup test es)
  lookup_by test [] = refl
  lookup_by test (e ∷ es) = grind (arith, lookup_by test es)

  pub open_by : (pool : Pool K T) → open_in (pool_by read pool) ≡ open_in pool
  open_by pool = length-map pool.reassemblies same_by

  keys_by : (es : List (K × Reassembly T)) → keys_of (map same_by es) ≡ keys_of es
  keys_by [] = refl
  keys_by (e ∷ es) = ap (λ (ks : List K). e.0 ∷ ks) (keys_by es)

  pub distinct_by : (eq : K → K → Bool) (pool : Pool K T) → IsDistinct eq (keys_of pool.reassemblies)
      → IsDistinct eq (keys_of (pool_by read pool).reassemblies)
  distinct_by eq pool h = rw (keys_by pool.reassemblies) h

  module _ (same : K → K → Bool) where
    reassembly_read : (pool : Pool K T) (name : K) → reassembly_at same (pool_by read pool) name
        ≡ option_map (reassembly_by read) (reassembly_at same pool name)
    reassembly_read pool name = lookup_by (same name) pool.reassemblies

    pub at_by : (pool : Pool K T) (name : K) → timestamp_at same (pool_by read pool) name
        ≡ option_map read (timestamp_at same pool name)
    at_by pool name = grind (arith, reassembly_read, timestamp_read)

    pub reassembly_shows_by : (rule : OverlapRule) (pool : Pool K T) (name : K) (fs : List Fragment)
        → ShowsReassembly rule (reassembly_at same (pool_by read pool) name) fs
        ↔ ShowsReassembly rule (reassembly_at same pool name) fs
    reassembly_shows_by rule pool name fs = grind (arith, shows_read, reassembly_read, shows_by)

    others_by : (name : K) (old new : Pool K T) → OthersStay same name old new
        → OthersStay same name (pool_by read old) (pool_by read new)
    others_by name old new stay q other = reassembly_read new q
        ∙ ap (option_map (reassembly_by read)) (stay q other) ∙ sym (reassembly_read old q)

    stays_by : (name : K) (old new : Pool K T) (e : IpDefragError) → Stays same name old new e
        → Stays same name (pool_by read old) (pool_by read new) e
    stays_by name old new e stays = rw (reassembly_read old name, reassembly_read new name)
        (left_by read (is_overlap e) (reassembly_at same old name) (reassembly_at same new name) stays)

module _ {T : Type 0} (read : T → ℕ) where
  abbrev same : IpFragId ℕ → IpFragId ℕ → Bool
  same = same_id nat_eq

  accepts_by : (old new : Pool (IpFragId ℕ) T) (id : IpFragId ℕ) (f : Fragment) (time : T)
      (result : Result (Option IpDefragPayloadVec) IpDefragError)
      → Accepts same old new id f time result
      → Accepts same (pool_by read old) (pool_by read new) id f (read time) result
  accepts_by old new id f time (Ok payload) accepted fs shows =
      rw (reassembly_read read same new id) (becomes_by read _ _ _ time (reassembly_at same new id) _
      (accepted fs (shows_read read _ (reassembly_at same old id) fs
      (rw (reassembly_read read same old id) at shows))))
  accepts_by old new id f time (Err e) accepted fs shows = tt

  refuses_by : (old : Pool (IpFragId ℕ) T) (id : IpFragId ℕ) (f : Fragment)
      (result : Result (Option IpDefragPayloadVec) IpDefragError)
      → Refuses same old id f result → Refuses same (pool_by read old) id f result
  refuses_by old id f result refused fs shows = refused fs
      (shows_read read _ (reassembly_at same old id) fs (rw (reassembly_read read same old id) at shows))

  if_err : (id : IpFragId ℕ) (old new : Pool (IpFragId ℕ) T)
      (result : Result (Option IpDefragPayloadVec) IpDefragError)
      → IfErr result (Stays same id old new)
      → IfErr result (Stays same id (pool_by read old) (pool_by read new))
  if_err id old new (Ok payload) h = tt
  if_err id old new (Err e) h = stays_by read same id old new e h

  pub processed_by : (old new : Pool (IpFragId ℕ) T) (class : Class) (time : T) (channel : ℕ)
      (result : Result (Option IpDefragPayloadVec) IpDefragError)
      → Processed old class time channel result new
      → Processed (pool_by read old) class (read time) channel result (pool_by read new)
  processed_by old new class time channel result p = record {
    passed = λ none. ((p.passed none).0, ap (pool_by read) (p.passed none).1);
    accepted = grind (arith, if_some, accepts_by);
    refused = if_some _ _ (fragment_in class)
        (λ reported h. refuses_by old (id_named reported.0 channel) reported.1 result h) p.refused;
    others = if_some _ _ (fragment_in class)
        (λ reported h. others_by read same (id_named reported.0 channel) old new h) p.others;
    err = grind (arith, if_some, if_err);
  }

  -- a list of which what came before a time is dropped
  none_held : (rule : OverlapRule) (from : ℕ) (h : Held) → h.fragments ≡ []
      → ShowsHeld rule None (retained_from from h)
  none_held rule from h none = grind arith

  late : (from time : ℕ) → true ≡ nat_le from time → nat_lt time from ≡ false
  late from time is = grind (arith, nat_tests)

  early : (from time : ℕ) → false ≡ nat_le from time → nat_lt time from ≡ true
  early from time is = grind (arith, nat_tests)

  abbrev StaysFrom : ℕ → T → Bool → Type 0
  StaysFrom from timestamp stays = stays ≡ nat_le from (read timestamp)

  held_from : (rule : OverlapRule) (from : ℕ) (h : Held) (old new : Option (Reassembly T))
      → Retained (StaysFrom from) old new → ShowsHeld rule (option_map (reassembly_by read) old) h
      → ShowsHeld rule (option_map (reassembly_by read) new) (retained_from from h)
  held_from rule from h None new gone shows = rw gone (none_held rule from h shows.0)
  held_from rule from h (Some s) new (inl stays) shows =
      rw (stays.0, late from h.time (stays.1 ∙ ap (nat_le from) shows.1)) shows
  held_from rule from h (Some s) new (inr goes) shows =
      rw (goes.0, early from h.time (goes.1 ∙ ap (nat_le from) shows.1)) (refl, tt)

  pub lists_from : (from : ℕ) (old new : Pool (IpFragId ℕ) T) (lists : Lists)
      → ((q : IpFragId ℕ) → Retained (StaysFrom from) (reassembly_at same old q) (reassembly_at same new q))
      → ShowsLists (pool_by read old) lists
      → ShowsLists (pool_by read new) (λ name channel. retained_from from (lists name channel))
  lists_from from old new lists retained shows name channel =
      rw (reassembly_read read same new (id_named name channel))
      (held_from (rule_over name.addresses) from (lists name channel) _ _
      (retained (id_named name channel))
      (rw (reassembly_read read same old (id_named name channel)) at (shows name channel)))
