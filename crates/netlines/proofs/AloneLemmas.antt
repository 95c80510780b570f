-- The answers to the lines of one message depend on the lines that matter to it alone.
use Rattle.std.proofs.lemmas.Bool.{and_parts, eqb-true}
use Rattle.std.proofs.lemmas.Bool.Decides.{nat_tests}
use Rattle.std.proofs.Common.{◌≡◌, ◌∙◌, ap, refl, sym, ◌↔◌, ℕ, ◌+◌, [], Bool, true, false, not, cond, List, ◌∷◌, ◌++◌}
use Rattle.std.proofs.Common.{length, arith, length-append}
use Rattle.std.specs.Prelude.{◌==◌, IsTrue}
use Rattle.etherparse.specs.Fragments.{fragment}
use Rattle.etherparse.specs.IpFragId.{rule_over, same_name}
use Rattle.etherparse.specs.Outcome.{Held, outcome}
use Rattle.etherparse.specs.PoolCalls.{Lists, after_frame}
use Rattle.etherparse.specs.packet.Class.{Class, FragmentName, class_of}
use Rattle.etherparse.specs.packet.Class.Class.{Whole, Cut, Other, Refused}
use Rattle.netlines.specs.Alone.{alone, answers_after, answers_to, command_matters, command_of_another, is_fragment}
use Rattle.netlines.specs.Alone.{is_fragment_of_another, lines_that_matter, matter_after, texts_that_matter}
use Rattle.netlines.specs.Answers.{answer_after, class_answer, command_answer, outcome_answer}
use Rattle.netlines.specs.Arrivals.{held_with_line, lists_after_lines}
use Rattle.line_grammar.specs.Commands.{Command, command_of}
use Rattle.line_grammar.specs.Commands.Command.{Frame, Forget, Bad}
use Rattle.netlines.proofs.AnswerLemmas.{held_after_lines-push}

pub not_true : (b : Bool) → not b ≡ true → b ≡ false
not_true b t = grind arith

pub answer_is : (earlier : List (List ℕ)) (line : List ℕ)
    → answer_after earlier line ≡ command_answer (lists_after_lines earlier) (command_of line)
unfolding answer_after
answer_is earlier line = refl

module _ (same : (a b : FragmentName) → IsTrue (same_name a b) ↔ (a ≡ b)) (name : FragmentName)
    (channel : ℕ) where
  -- every list is this one
  abbrev pub all_hold : Held → Lists
  all_hold h other_name other = h

  class_by_own : (lists : Lists) (class : Class) (other : ℕ)
      → is_fragment name channel class other ≡ true
      → class_answer lists class other ≡ class_answer (all_hold (lists name channel)) class other
  class_by_own lists (Cut own offset more bytes) other t =
      let both = and_parts (same_name own name) (other == channel) t in
      let own_list : lists own other ≡ lists name channel =
      rw ((same own name).0 both.0, eqb-true other channel both.1) refl in
      ap (λ (h : Held). outcome_answer own.addresses own.number
      (outcome (rule_over own.addresses) h.fragments (fragment offset more bytes))) own_list
  class_by_own lists (Whole addresses number bytes message) other t = cc
  class_by_own lists Other other t = cc
  class_by_own lists Refused other t = cc

  command_by_own : (lists : Lists) (command : Command)
      → command_matters name channel command ≡ true
      → command_answer lists command ≡ command_answer (all_hold (lists name channel)) command
  command_by_own lists (Frame other bytes) t = class_by_own lists (class_of bytes) other t
  command_by_own lists (Forget number) t = refl
  command_by_own lists Bad t = refl

  -- any other line leaves that list
  class_stays : (class : Class) (other number : ℕ) (h : Held)
      → is_fragment name channel class other ≡ false
      → after_frame name channel class number other h ≡ h
  class_stays class other number h t = grind arith

  command_stays : (command : Command) (number : ℕ) (h : Held)
      → command_matters name channel command ≡ false
      → held_with_line name channel number command h ≡ h
  command_stays command number h t = grind (arith, nat_tests)

  -- the answers to the lines that matter, by these lines alone
  abbrev pub answers_by : Held → List (ℕ × List ℕ) → List (ℕ × List ℕ)
  answers_by h [] = []
  answers_by h (pair ∷ pairs) =
      (pair.0, command_answer (all_hold h) (command_of pair.1))
      ∷ answers_by (held_with_line name channel pair.0 (command_of pair.1) h) pairs

  pub answered_by : (earlier lines : List (List ℕ)) (count : ℕ) → count ≡ length earlier
      → matter_after name channel count lines (answers_after earlier lines)
      ≡ answers_by (lists_after_lines earlier name channel)
      (matter_after name channel count lines lines)
  answered_by earlier [] count counted = refl
  answered_by earlier (line ∷ lines) count counted =
      let h = lists_after_lines earlier name channel in
      let rest = matter_after name channel (count + 1) lines lines in
      let answers = answers_after (earlier ++ line ∷ []) lines in
      let reported = matter_after name channel (count + 1) lines answers in
      let longer : count + 1 ≡ length (earlier ++ line ∷ []) =
      omega (arith, counted, length-append earlier (line ∷ [])) in
      let later = answered_by (earlier ++ line ∷ []) lines (count + 1) longer in
      let held = held_after_lines-push earlier line name channel
      ∙ ap (λ k. held_with_line name channel (k + 1) (command_of line) h) (sym counted) in
      grind (arith, answer_is, command_by_own, command_stays)

  pub isolated : (lines others : List (List ℕ))
      → lines_that_matter name channel lines ≡ lines_that_matter name channel others
      → texts_that_matter name channel lines (answers_to lines)
      ≡ texts_that_matter name channel others (answers_to others)
  isolated lines others is = grind (arith, answered_by)

  -- ---- the other messages' fragments left out

  not_a_fragment : (class : Class) (other : ℕ) → is_fragment_of_another name channel class other ≡ true
      → is_fragment name channel class other ≡ false
  not_a_fragment class other t = grind arith

  module _ (bad : List ℕ) (is_bad : command_of bad ≡ Bad) where
    abbrev kept : List ℕ → List ℕ
    kept line = cond (command_of_another name channel (command_of line)) bad line

    -- the same texts matter
    same_texts : (lines texts : List (List ℕ)) (count : ℕ)
        → matter_after name channel count (alone bad name channel lines) texts
        ≡ matter_after name channel count lines texts
    same_texts [] texts count = refl
    same_texts (line ∷ lines) [] count = refl
    same_texts (line ∷ lines) (text ∷ texts) count =
        grind (arith, same_texts lines texts (count + 1))

    same_lines : (lines : List (List ℕ)) (count : ℕ)
        → matter_after name channel count lines lines
        ≡ matter_after name channel count lines (alone bad name channel lines)
    same_lines [] count = refl
    same_lines (line ∷ lines) count = grind (arith, same_lines lines (count + 1))

    pub isolated_alone : (lines : List (List ℕ))
        → texts_that_matter name channel lines (answers_to lines)
        ≡ texts_that_matter name channel lines (answers_to (alone bad name channel lines))
    isolated_alone lines = grind (arith, isolated, same_lines, same_texts)
