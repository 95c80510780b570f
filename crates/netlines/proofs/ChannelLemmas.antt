-- The lines with frames on one channel are answered by themselves.
use Rattle.std.proofs.Common.{arith, ◌≡◌, ◌∙◌, ap, refl, sym, inl, inr, ℕ, ◌&&◌, Bool, [], true, false, cond, List, ◌∷◌}
use Rattle.std.proofs.Common.{◌++◌}
use Rattle.std.proofs.lemmas.Bool.Decides.{nat_tests}
use Rattle.std.specs.Prelude.{◌==◌}
use Rattle.std.proofs.lemmas.Bool.{cases_Bool}
use Rattle.etherparse.specs.Fragments.{Fragment, fragment}
use Rattle.etherparse.specs.IpFragId.{same_name, rule_over}
use Rattle.etherparse.specs.Outcome.{Held, Outcome, held_after, outcome}
use Rattle.etherparse.specs.Outcome.Outcome.{Clash, Completed, Refusal, Waiting}
use Rattle.etherparse.specs.PoolCalls.{Lists, after_frame}
use Rattle.etherparse.specs.packet.Class.{Class, FragmentName, class_of}
use Rattle.etherparse.specs.packet.Class.Class.{Whole, Cut, Other, Refused}
use Rattle.netlines.specs.Alone.{HasNoForget, answers_after, answers_to, command_on, on_channel}
use Rattle.netlines.specs.Answers.{answer_after, class_answer, command_answer}
use Rattle.netlines.specs.Arrivals.{held_with_line, lists_after_lines}
use Rattle.line_grammar.specs.Commands.{Command, command_of}
use Rattle.line_grammar.specs.Commands.Command.{Frame, Forget, Bad}
use Rattle.netlines.proofs.AloneLemmas.{answer_is}
use Rattle.netlines.proofs.AnswerLemmas.{held_after_lines-push}
use Rattle.etherparse.specs.declared.defrag.overlap_rule.OverlapRule.{OverlapRule}

abbrev SameFragments : Held → Held → Type 0
SameFragments h g = h.fragments ≡ g.fragments

-- when the fragments came matters to `forget` lines alone
outcome_alike : (o : Outcome) (h g : Held) (n m : ℕ) → SameFragments h g
    → SameFragments (held_after h n o) (held_after g m o)
outcome_alike (Refusal error) h g n m is = is
outcome_alike (Clash error) h g n m is = refl
outcome_alike (Waiting fs) h g n m is = refl
outcome_alike (Completed text) h g n m is = refl

choice_alike : (rule : OverlapRule) (b : Bool) (f : Fragment) (h g : Held) (n m : ℕ)
    → SameFragments h g
    → SameFragments (cond b (held_after h n (outcome rule h.fragments f)) h)
    (cond b (held_after g m (outcome rule g.fragments f)) g)
choice_alike rule true f h g n m is =
    outcome_alike (outcome rule h.fragments f) h g n m is
    ∙ ap (λ (fs : List Fragment). (held_after g m (outcome rule fs f)).fragments) is
choice_alike rule false f h g n m is = is

class_alike : (name : FragmentName) (channel : ℕ) (class : Class) (other : ℕ) (h g : Held)
    (n m : ℕ) → SameFragments h g
    → SameFragments (after_frame name channel class n other h)
    (after_frame name channel class m other g)
class_alike name channel (Cut own offset more bytes) other h g n m is =
    choice_alike (rule_over name.addresses) (same_name own name && (other == channel))
    (fragment offset more bytes) h g n m is
class_alike name channel (Whole addresses number bytes message) other h g n m is = is
class_alike name channel Other other h g n m is = is
class_alike name channel Refused other h g n m is = is

command_alike : (name : FragmentName) (channel : ℕ) (command : Command) (h g : Held) (n m : ℕ)
    → command_on channel command ≡ true → SameFragments h g
    → SameFragments (held_with_line name channel n command h)
    (held_with_line name channel m command g)
command_alike name channel (Frame other bytes) h g n m on is =
    class_alike name channel (class_of bytes) other h g n m is
command_alike name channel (Forget number) h g n m on is = cc
command_alike name channel Bad h g n m on is = is

class_stays : (name : FragmentName) (channel : ℕ) (class : Class) (other : ℕ) (h : Held) (n : ℕ)
    → (other == channel) ≡ false → after_frame name channel class n other h ≡ h
class_stays name channel class other h n off = grind arith

command_stays : (name : FragmentName) (channel : ℕ) (command : Command) (h : Held) (n : ℕ)
    → ((number : ℕ) → command ≡ Forget number → ⊥) → command_on channel command ≡ false
    → held_with_line name channel n command h ≡ h
command_stays name channel (Frame other bytes) h n none off =
    class_stays name channel (class_of bytes) other h n off
command_stays name channel (Forget number) h n none off = absurd (none number refl)
command_stays name channel Bad h n none off = refl

-- the answer to a frame on the channel
class_reported : (channel : ℕ) (lists others : Lists) (class : Class)
    → ((name : FragmentName) → SameFragments (lists name channel) (others name channel))
    → class_answer lists class channel ≡ class_answer others class channel
class_reported channel lists others class same = grind arith

command_is_one_line : (channel : ℕ) (lists others : Lists) (command : Command)
    → command_on channel command ≡ true
    → ((name : FragmentName) → SameFragments (lists name channel) (others name channel))
    → command_answer lists command ≡ command_answer others command
command_is_one_line channel lists others command on same = grind (arith, nat_tests)

module _ (channel : ℕ) where
  abbrev Alike : (earlier own : List (List ℕ)) → Type 0
  Alike earlier own = (name : FragmentName)
      → SameFragments (lists_after_lines own name channel) (lists_after_lines earlier name channel)

  answered_alike : (earlier own lines : List (List ℕ)) → Alike earlier own → HasNoForget lines
      → answers_after own (on_channel channel lines lines)
      ≡ on_channel channel lines (answers_after earlier lines)
  answered_alike earlier own [] same none = refl
  answered_alike earlier own (line ∷ lines) same none =
      let command = command_of line in
      let rest = on_channel channel lines lines in
      let later = on_channel channel lines (answers_after (earlier ++ line ∷ []) lines) in
      elim (cases_Bool (command_on channel command)) [
        | inl on ↦
            let answer : answer_after own line ≡ answer_after earlier line =
            grind (arith, answer_is, command_is_one_line) in
            let next : Alike (earlier ++ line ∷ []) (own ++ line ∷ []) =
            grind (arith, held_after_lines-push, command_alike) in
            ap (λ (b : Bool). answers_after own (cond b (line ∷ rest) rest)) on
            ∙ ap (λ (a : List ℕ). a ∷ answers_after (own ++ line ∷ []) rest) answer
            ∙ ap (λ (reported : List (List ℕ)). answer_after earlier line ∷ reported)
            (answered_alike (earlier ++ line ∷ []) (own ++ line ∷ []) lines next none.1)
            ∙ sym (ap (λ (b : Bool). cond b (answer_after earlier line ∷ later) later) on)
        | inr off ↦
            let next : Alike (earlier ++ line ∷ []) own =
            grind (arith, held_after_lines-push, command_stays) in
            cc (off, answered_alike (earlier ++ line ∷ []) own lines next none.1)
      ]

  pub apart_by_channel : (lines : List (List ℕ)) → HasNoForget lines
      → answers_to (on_channel channel lines lines)
      ≡ on_channel channel lines (answers_to lines)
  apart_by_channel lines none = answered_alike [] [] lines (λ name. refl) none
