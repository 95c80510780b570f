-- Fragments that wait one after another are accepted, and so is one that completes their message.
use Rattle.std.proofs.Common.{arith, ◌≡◌, refl, sym, List, ◌∷◌, ◌++◌, append-nil, append_assoc, None, []}
use Rattle.etherparse.specs.declared.defrag.overlap_rule.OverlapRule.{OverlapRule}
use Rattle.etherparse.specs.Fragments.{Fragment, IsAccepted, refusal_of, with_accepted, with_all_accepted}
use Rattle.etherparse.proofs.Found.{accepted_is}
use Rattle.netlines.proofs.ShapeLemmas.{waits_if}
use Rattle.netlines.proofs.WaitingLemmas.{AllWait}

module _ (rule : OverlapRule) where
  accepted_waiting : (before fs : List Fragment) → AllWait rule before fs
      → with_all_accepted rule before fs ≡ before ++ fs
  accepted_waiting before [] wait = sym (append-nil before)
  accepted_waiting before (f ∷ fs) wait =
      grind (
        arith,
        accepted_waiting (before ++ f ∷ []) fs wait.1,
        waits_if,
        accepted_is,
        append_assoc,
      )

  accepted-append : (before fs gs : List Fragment) → with_all_accepted rule before (fs ++ gs)
      ≡ with_all_accepted rule (with_all_accepted rule before fs) gs
  accepted-append before [] gs = refl
  accepted-append before (f ∷ fs) gs = accepted-append (with_accepted rule before f) fs gs

  pub all_accepted : (fs : List Fragment) (h : Fragment) → AllWait rule [] fs
      → refusal_of rule fs h ≡ None → IsAccepted rule (fs ++ h ∷ [])
  all_accepted fs h wait taken = grind (arith, accepted-append, accepted_waiting, accepted_is)
