-- Lists of accepted fragments, followed through the outcome of one more fragment.
use Rattle.std.proofs.Common.{arith, ◌≡◌, refl, ℕ, None, List, [], ◌∷◌, ◌++◌}
use Rattle.etherparse.specs.declared.defrag.overlap_rule.OverlapRule.{OverlapRule}
use Rattle.etherparse.specs.declared.defrag.overlap_rule.OverlapRule.TheVariants.{Refuses}
use Rattle.etherparse.specs.Fragments.{Fragment, IsAccepted, refusal_of}
use Rattle.etherparse.specs.Joined.{IsJoined}
use Rattle.etherparse.specs.Outcome.{Held, Outcome, held_after, outcome}
use Rattle.etherparse.specs.Outcome.Outcome.{Completed}
use Rattle.etherparse.proofs.Accepted.{with_all_accepted-push}
use Rattle.etherparse.proofs.Complete.{complete_Decides}
use Rattle.etherparse.proofs.Found.{accepted_is}
use Rattle.etherparse.proofs.Joining.{no_overlap}
use Rattle.etherparse.proofs.OutcomeLemmas.{by_outcome}

one_text : (a b : List ℕ) → Completed a ≡ Completed b → a ≡ b
one_text a b is = cc

one_more : (rule : OverlapRule) (fs : List Fragment) (f : Fragment) → IsAccepted rule fs
    → refusal_of rule fs f ≡ None → IsAccepted rule (fs ++ f ∷ [])
one_more rule fs f accepted taken = grind (arith, with_all_accepted-push, accepted_is)

pub held_accepted : (rule : OverlapRule) (h : Held) (time : ℕ) (f : Fragment)
    → IsAccepted rule h.fragments
    → IsAccepted rule (held_after h time (outcome rule h.fragments f)).fragments
held_accepted rule h time f accepted =
    by_outcome rule h.fragments f
    (λ (o : Outcome). IsAccepted rule (held_after h time o).fragments)
    (λ error refused. accepted)
    (λ none clash. refl)
    (λ taken open_end. one_more rule h.fragments f accepted taken)
    (λ taken whole. refl)

module _ (fs : List Fragment) (f : Fragment) (text : List ℕ) where
  pub completed_accepted : (rule : OverlapRule) → IsAccepted rule fs
      → outcome rule fs f ≡ Completed text → IsAccepted rule (fs ++ f ∷ [])
  completed_accepted rule accepted is = grind (arith, by_outcome, one_more)

  pub completed_joined : IsAccepted Refuses fs → outcome Refuses fs f ≡ Completed text
      → IsJoined (fs ++ f ∷ []) text
  completed_joined accepted is =
      grind (arith, by_outcome, one_text, no_overlap, one_more, complete_Decides)
