-- The lines that wait have the fragments that are held, each of which waited after those before it.
use Rattle.std.proofs.Common.{arith, ◌≡◌, refl, subst, inl, inr, ◌↔◌, ℕ, ◌+◌, ◌&&◌, ◌==◌, [], List, ◌∷◌, ◌++◌}
use Rattle.std.proofs.Common.{append_assoc, append-nil}
use Rattle.std.specs.Prelude.{IsTrue}
use Rattle.std.specs.List.{AllZip}
use Rattle.std.proofs.lemmas.Bool.{and_parts, cases_Bool, eqb-true}
use Rattle.etherparse.specs.Fragments.{Fragment, fragment}
use Rattle.etherparse.specs.IpFragId.{fragment_in, same_name, rule_over}
use Rattle.etherparse.specs.Outcome.{Held, Outcome, held_after, outcome}
use Rattle.etherparse.specs.Outcome.Outcome.{Waiting}
use Rattle.etherparse.specs.PoolCalls.{after_frame, no_lists}
use Rattle.etherparse.specs.packet.Class.{Class, FragmentName, class_of}
use Rattle.etherparse.specs.packet.Class.Class.{Whole, Cut, Other, Refused}
use Rattle.etherparse.proofs.OutcomeLemmas.{by_outcome, is_waiting}
use Rattle.line_grammar.specs.Commands.{Command, command_of}
use Rattle.line_grammar.specs.Commands.Command.{Frame, Forget, Bad}
use Rattle.netlines.specs.Arrivals.{HasFragment, held_after_more, held_with_line, lists_after_lines}
use Rattle.netlines.specs.Waiting.{waiting_after, waiting_lines, waiting_with, waiting_with_line, waiting_with_fragment}
use Rattle.etherparse.specs.declared.defrag.overlap_rule.OverlapRule.{OverlapRule}

-- each is accepted after those before it, and none completes the message
abbrev pub AllWait : OverlapRule → (before fs : List Fragment) → Type 0
AllWait rule before [] = Unit {0}
AllWait rule before (f ∷ fs) =
    (outcome rule before f ≡ Waiting (before ++ f ∷ [])) × AllWait rule (before ++ f ∷ []) fs

pub AllWait-push : (rule : OverlapRule) (before fs : List Fragment) (f : Fragment)
    → AllWait rule before fs
    → outcome rule (before ++ fs) f ≡ Waiting ((before ++ fs) ++ f ∷ [])
    → AllWait rule before (fs ++ f ∷ [])
AllWait-push rule before [] f all is = grind (arith, append-nil)
AllWait-push rule before (g ∷ fs) f all is =
    grind (arith, AllWait-push rule (before ++ g ∷ []) fs f all.1, append_assoc)

module _ (same : (a b : FragmentName) → IsTrue (same_name a b) ↔ (a ≡ b)) (name : FragmentName)
    (channel : ℕ) where
  -- these lines have these fragments in turn
  abbrev pub HaveFragments : List (List ℕ) → List Fragment → Type 0
  HaveFragments lines fs = AllZip (λ line f. HasFragment line name channel f) lines fs

  pub HaveFragments-push : (lines : List (List ℕ)) (fs : List Fragment) (line : List ℕ) (f : Fragment)
      → HaveFragments lines fs → HasFragment line name channel f
      → HaveFragments (lines ++ line ∷ []) (fs ++ f ∷ [])
  HaveFragments-push [] [] line f all has = (has, tt)
  HaveFragments-push [] (g ∷ fs) line f all has = absurd all
  HaveFragments-push (l ∷ lines) [] line f all has = absurd all
  HaveFragments-push (l ∷ lines) (g ∷ fs) line f all has =
      (all.0, HaveFragments-push lines fs line f all.1 has)

  abbrev pub AreWaiting : List (List ℕ) → Held → Type 0
  AreWaiting waiting h =
      HaveFragments waiting h.fragments × AllWait (rule_over name.addresses) [] h.fragments

  -- one line more
  module _ (line : List ℕ) (number : ℕ) (h : Held) (waiting : List (List ℕ))
      (are : AreWaiting waiting h) where
    with_fragment : (f : Fragment) → HasFragment line name channel f
        → AreWaiting (waiting_with waiting line (outcome (rule_over name.addresses) h.fragments f))
        (held_after h number (outcome (rule_over name.addresses) h.fragments f))
    with_fragment f has =
        by_outcome (rule_over name.addresses) h.fragments f
        (λ (o : Outcome). AreWaiting (waiting_with waiting line o) (held_after h number o))
        (λ error refused. are)
        (λ none clash. (tt, tt))
        (λ taken open_end. (
          HaveFragments-push waiting h.fragments line f are.0 has,
          AllWait-push (rule_over name.addresses) [] h.fragments f are.1
              (is_waiting (rule_over name.addresses) h.fragments f taken open_end),
        ))
        (λ taken whole. (tt, tt))

    with_class : (other : ℕ) (bytes : List ℕ) → command_of line ≡ Frame other bytes
        → (class : Class) → class_of bytes ≡ class
        → AreWaiting (waiting_with_fragment name channel (fragment_in class) other h line waiting)
        (after_frame name channel class number other h)
    with_class other bytes frame (Cut own offset more text) as_fragment =
        let f = fragment offset more text in
        let o = outcome (rule_over name.addresses) h.fragments f in
        elim (cases_Bool (same_name own name && (other == channel))) [
          | inl t ↦
              let both = and_parts (same_name own name) (other == channel) t in
              let has : HasFragment line name channel f = grind (arith, eqb-true) in
              grind (arith, t, with_fragment f has)
          | inr t ↦
              grind arith
        ]
    with_class other bytes frame (Whole addresses protocol text message) as_fragment = are
    with_class other bytes frame Other as_fragment = are
    with_class other bytes frame Refused as_fragment = are

    with_line : AreWaiting (waiting_with_line name channel h line waiting (command_of line))
        (held_with_line name channel number (command_of line) h)
    with_line =
        elim (command_of line) as (λ (k : Command). command_of line ≡ k
        → AreWaiting (waiting_with_line name channel h line waiting k)
        (held_with_line name channel number k h)) [
          | Frame other bytes ↦ λ frame. with_class other bytes frame (class_of bytes) refl
          | Forget from ↦ grind arith
          | Bad ↦ λ _. are
        ] refl

  waiting_all : (count : ℕ) (h : Held) (waiting lines : List (List ℕ)) → AreWaiting waiting h
      → AreWaiting (waiting_after name channel count h waiting lines)
      (held_after_more name channel count h lines)
  waiting_all count h waiting [] are = are
  waiting_all count h waiting (line ∷ lines) are =
      waiting_all (count + 1) (held_with_line name channel (count + 1) (command_of line) h)
      (waiting_with_line name channel h line waiting (command_of line)) lines
      (with_line line (count + 1) h waiting are)

  pub are_waiting : (lines : List (List ℕ))
      → AreWaiting (waiting_lines name channel lines) (lists_after_lines lines name channel)
  unfolding lists_after_lines
  are_waiting lines = waiting_all 0 (no_lists name channel) [] lines (tt, tt)

  -- where none waits, none is held
  no_fragment : (fs : List Fragment) → HaveFragments [] fs → fs ≡ []
  no_fragment fs all = grind arith

  pub none_held : (lines : List (List ℕ)) → waiting_lines name channel lines ≡ []
      → (lists_after_lines lines name channel).fragments ≡ []
  none_held lines none =
      no_fragment (lists_after_lines lines name channel).fragments
      (subst (λ (waiting : List (List ℕ)). HaveFragments waiting
      (lists_after_lines lines name channel).fragments) none (are_waiting lines).0)
