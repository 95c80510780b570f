-- The order in which the datagrams started that are not complete, and how many bytes they take.
use Rattle.std.proofs.Common.{arith, ◌≡◌, refl, sym, ℕ, Bool, true, false, not}
use Rattle.std.proofs.Common.{List, [], ◌∷◌, length, map, min, Option, None, Some, Result, Ok, Err, cond}
use Rattle.std.proofs.lemmas.List.{map-append}
use Rattle.std.specs.Prelude.{filter, is_some, IfErr, IfOk}
use Rattle.etherparse.specs.FragmentBytes.{kept_bytes}
use Rattle.etherparse.specs.Fragments.{Fragment}
use Rattle.etherparse.specs.IpDefragError.{is_overlap}
use Rattle.etherparse.specs.Outcome.{Outcome}
use Rattle.etherparse.specs.Outcome.Outcome.{Clash, Completed, Refusal, Waiting}
use Rattle.etherparse.specs.ReassemblyTable.{Becomes, IsLeft, ShowsReassembly}
use Rattle.etherparse.specs.declared.defrag.ip_defrag_error.IpDefragError.{IpDefragError}
use Rattle.etherparse.specs.declared.defrag.ip_frag_id.IpFragId.{IpFragId}
use Rattle.etherparse.specs.declared.defrag.overlap_rule.OverlapRule.{OverlapRule}
use Rattle.etherparse.specs.declared.defrag.reassembly.Reassembly.{Reassembly}
use Rattle.packets.specs.ReassemblyMemory.{DatagramName, Order, id_of, is_same, is_some_fragment, order_by}
use Rattle.etherparse.specs.StartedBytes.{bytes_held_if}
use Rattle.etherparse.specs.Starts.{Change, change_of, names_after, names_without}
use Rattle.etherparse.specs.Starts.Change.{Ends, Stays}

-- a reassembly is there where a fragment waits
pub shown_waits : {T : Type 0} (rule : OverlapRule) (s : Option (Reassembly T)) (fs : List Fragment)
    → ShowsReassembly rule s fs → is_some_fragment fs ≡ is_some s
shown_waits rule None fs h = rw h refl
shown_waits rule (Some s) [] h = absurd (h.2 refl)
shown_waits rule (Some s) (f ∷ fs) h = refl

-- and as many bytes are there
pub shown_bytes : {T : Type 0} (rule : OverlapRule) (s : Option (Reassembly T)) (fs : List Fragment)
    → ShowsReassembly rule s fs → bytes_held_if s ≡ min 65535 (length (kept_bytes fs))
shown_bytes rule None fs h = rw h refl
shown_bytes rule (Some s) fs h = rw h.0.kept refl

-- of a fragment that is accepted
pub accepted_there : {T X : Type 0} (rule : OverlapRule) (whole : List ℕ → X) (o : Outcome) (time : T)
    (s : Option (Reassembly T)) (reported : Option X) → Becomes rule whole o time s reported
    → is_some s ≡ not (is_some reported)
accepted_there rule whole (Refusal error) time s reported h = absurd h
accepted_there rule whole (Clash error) time s reported h = absurd h
accepted_there rule whole (Waiting fs) time None reported h = absurd h.1
accepted_there rule whole (Waiting fs) time (Some s) reported h = rw h.0 refl
accepted_there rule whole (Completed text) time s reported h = rw (h.0, h.1) refl

module _ (same : IpFragId ℕ → IpFragId ℕ → Bool) (parts : (d e : DatagramName) → same (id_of d) (id_of e) ≡ is_same d e) where
  pub names_others : (d : DatagramName) (order : Order)
      → names_without same (id_of d) (map id_of order) ≡ map id_of (filter (λ e. not (is_same d e)) order)
  names_others d [] = refl
  names_others d (e ∷ order) = grind (arith, parts d e, names_others d order)

  -- the names after a fragment are those of the order after it
  module _ {T : Type 0} (d : DatagramName) (order : Order) where
    abbrev Follows : Change → (before after : Option (Reassembly T)) → Type 0
    Follows change before after = names_after same (id_of d) change (map id_of order)
        ≡ map id_of (order_by (is_some before) (is_some after) d order)

    by_error : (overlap : Bool) (s : Reassembly T) (after : Option (Reassembly T))
        → IsLeft overlap (Some s) after → Follows (cond overlap Ends Stays) (Some s) after
    by_error true s after left = rw left (names_others d order)
    by_error false s None left = absurd left
    by_error false s (Some t) left = refl

    none_stays : (overlap : Bool) (after : Option (Reassembly T)) → IsLeft overlap None after
        → Follows Stays None after
    none_stays true after left = rw left refl
    none_stays false after left = rw left refl

    pub by_fragment : {X : Type 0} (r : Result (Option X) IpDefragError) (before after : Option (Reassembly T))
        → IfOk r (λ reported. is_some after ≡ not (is_some reported))
        → IfErr r (λ e. IsLeft (is_overlap e) before after)
        → Follows (change_of r before) before after
    by_fragment (Ok None) None None ok err = absurd (grind (arith, ok))
    by_fragment (Ok None) None (Some t) ok err = sym (map-append id_of order (d ∷ []))
    by_fragment (Ok None) (Some s) None ok err = absurd (grind (arith, ok))
    by_fragment (Ok None) (Some s) (Some t) ok err = refl
    by_fragment (Ok (Some whole)) None None ok err = refl
    by_fragment (Ok (Some whole)) None (Some t) ok err = absurd (grind (arith, ok))
    by_fragment (Ok (Some whole)) (Some s) None ok err = names_others d order
    by_fragment (Ok (Some whole)) (Some s) (Some t) ok err = absurd (grind (arith, ok))
    by_fragment (Err e) None after ok err = none_stays (is_overlap e) after err
    by_fragment (Err e) (Some s) after ok err = by_error (is_overlap e) s after err
