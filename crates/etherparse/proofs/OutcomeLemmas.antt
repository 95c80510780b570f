-- The outcome of a fragment, by whether it is refused and whether its datagram is complete with it.
use Rattle.std.proofs.Common.{arith, ◌≡◌, refl, cond, Bool, true, false, Option, Some, None, List, [], ◌∷◌, ◌++◌}
use Rattle.std.proofs.Common.{length}
use Rattle.std.specs.Option.{option_or}
use Rattle.etherparse.specs.declared.defrag.ip_defrag_error.IpDefragError.{IpDefragError}
use Rattle.etherparse.specs.declared.defrag.ip_defrag_error.IpDefragError.TheVariants.{OverlappingFragment}
use Rattle.etherparse.specs.declared.defrag.overlap_rule.OverlapRule.{OverlapRule}
use Rattle.etherparse.specs.Fragments.{Fragment, is_complete, named_end, overlaps, refusal_at, refusal_of}
use Rattle.etherparse.specs.Outcome.{Outcome, outcome}
use Rattle.etherparse.specs.Outcome.Outcome.{Clash, Completed, Refusal, Waiting}
use Rattle.etherparse.specs.FragmentBytes.{text_of}

none_or : {X : Type 0} (o n : Option X) → option_or o n ≡ None → (o ≡ None) × (n ≡ None)
none_or (Some x) n h = cc
none_or None n h = (refl, h)

no_overlap : {X : Type 0} (b : Bool) (x : X) → cond b (Some x) None ≡ None → b ≡ false
no_overlap true x h = cc
no_overlap false x h = refl

module _ (rule : OverlapRule) (fs : List Fragment) (f : Fragment) where
  abbrev all : List Fragment
  all = fs ++ f ∷ []

  -- it is refused by neither the end of the datagram nor an overlap
  pub unrefused : refusal_of rule fs f ≡ None → (refusal_at (named_end fs) f ≡ None)
      × (overlaps rule fs f ≡ false)
  unrefused taken = grind arith

  pub is_taken : refusal_at (named_end fs) f ≡ None → overlaps rule fs f ≡ false
      → refusal_of rule fs f ≡ None
  is_taken none alone = grind arith

  pub is_waiting : refusal_of rule fs f ≡ None → is_complete all ≡ false
      → outcome rule fs f ≡ Waiting all
  is_waiting taken open_end = grind arith

  pub is_completed : refusal_of rule fs f ≡ None → is_complete all ≡ true
      → outcome rule fs f ≡ Completed (text_of all)
  is_completed taken whole = grind arith

  -- each case of the outcome
  pub by_outcome : (P : Outcome → Type 0)
      → ((error : IpDefragError) → refusal_at (named_end fs) f ≡ Some error → P (Refusal error))
      → (refusal_at (named_end fs) f ≡ None → overlaps rule fs f ≡ true
      → P (Clash (OverlappingFragment f.offset (length f.bytes))))
      → (refusal_of rule fs f ≡ None → is_complete all ≡ false → P (Waiting all))
      → (refusal_of rule fs f ≡ None → is_complete all ≡ true → P (Completed (text_of all)))
      → P (outcome rule fs f)
  by_outcome P refused clashes waits completes = grind arith
