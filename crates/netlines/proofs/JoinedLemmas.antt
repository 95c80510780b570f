-- A message over IPv6, by the fragments that it is joined from.
use Rattle.std.proofs.Common.{arith, ◌≡◌, subst, ◌↔◌, ℕ, List, [], ◌∷◌, ◌++◌}
use Rattle.std.specs.Prelude.{IsTrue}
use Rattle.etherparse.specs.declared.defrag.overlap_rule.OverlapRule.TheVariants.{Refuses}
use Rattle.etherparse.specs.Fragments.{Fragment}
use Rattle.etherparse.specs.IpFragId.{rule_over, same_name}
use Rattle.etherparse.specs.Joined.{NoOverlap}
use Rattle.etherparse.specs.Outcome.{outcome}
use Rattle.etherparse.specs.Outcome.Outcome.{Completed}
use Rattle.etherparse.specs.PoolCalls.{outcome_at}
use Rattle.etherparse.specs.packet.Class.{FragmentName}
use Rattle.etherparse.proofs.Complete.{complete_Decides}
use Rattle.netlines.specs.Answers.{answer_after}
use Rattle.netlines.specs.Arrivals.{HasFragment, lists_after_lines}
use Rattle.netlines.specs.Waiting.{ReturnsMessage, ReturnsJoined}
use Rattle.netlines.proofs.AcceptedWaiting.{all_accepted}
use Rattle.netlines.proofs.ArrivalLemmas.{fragment_answered}
use Rattle.netlines.proofs.ReplayLemmas.{returned_text}
use Rattle.netlines.proofs.ShapeLemmas.{completes_if}
use Rattle.netlines.proofs.WaitingLemmas.{AllWait, are_waiting}

pub joined : (law : NoOverlap) (same : (a b : FragmentName) → IsTrue (same_name a b) ↔ (a ≡ b))
    (earlier : List (List ℕ)) (line : List ℕ) (name : FragmentName) (channel : ℕ) (f : Fragment)
    → rule_over name.addresses ≡ Refuses → HasFragment line name channel f
    → ReturnsMessage (answer_after earlier line)
    → ReturnsJoined name ((lists_after_lines earlier name channel).fragments ++ f ∷ [])
    (answer_after earlier line)
joined law same earlier line name channel f over has out =
    let fs = (lists_after_lines earlier name channel).fragments in
    let answer = fragment_answered line name channel f has earlier in
    let reported = returned_text name (outcome_at (lists_after_lines earlier) name channel f)
    (subst ReturnsMessage answer out) in
    let completed : outcome Refuses fs f ≡ Completed reported.0 =
    grind arith in
    let was = completes_if Refuses fs f reported.0 completed in
    let wait : AllWait Refuses [] fs =
    grind (arith, over, (are_waiting same name channel earlier).1) in
    grind (arith, all_accepted, complete_Decides)
