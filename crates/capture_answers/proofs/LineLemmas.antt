-- What is answered to one more line of a text, and the lists after it.
use Rattle.std.proofs.Common.{◌≡◌, ◌∙◌, ap, refl, ℕ, ◌+◌, List, [], ◌∷◌, ◌++◌, append_assoc}
use Rattle.line_grammar.specs.Commands.{Command, command_of}
use Rattle.netlines.specs.Answers.{answer_after, command_answer, frame_meaning}
use Rattle.netlines.specs.Arrivals.{lists_after_lines, lists_with_line}
use Rattle.netlines.proofs.AnswerLemmas.{lists_after_lines-push}
use Rattle.lines.specs.Lines.{HasNoNewline, Split, last_line, lines_of}
use Rattle.lines.specs.LineAnswers.{number_after, answers_to_later}
use Rattle.lines.proofs.SplitLemmas.{split-line}

first_line : (text rest : List ℕ) → HasNoNewline text
    → lines_of (text ++ 10 ∷ rest) ≡ text ∷ lines_of rest
first_line text rest one = ap (λ (s : Split). s.ended ++ last_line s.rest) (split-line text rest one)

answer_line_is : (earlier : List (List ℕ)) (line : List ℕ)
    → answer_after earlier line ++ 10 ∷ []
    ≡ command_answer (lists_after_lines earlier) (command_of line) ++ 10 ∷ []
unfolding answer_after
answer_line_is earlier line = refl

-- a line that requests this
module _ (earlier : List (List ℕ)) (text rest : List ℕ) (command : Command)
    (one : HasNoNewline text) (requests : command_of text ≡ command) where
  pub line_answered : answers_to_later frame_meaning.answer earlier (lines_of (text ++ 10 ∷ rest))
      ≡ command_answer (lists_after_lines earlier) command
      ++ 10 ∷ answers_to_later frame_meaning.answer (earlier ++ text ∷ []) (lines_of rest)
  line_answered =
      let later = answers_to_later frame_meaning.answer (earlier ++ text ∷ []) (lines_of rest) in
      ap (answers_to_later frame_meaning.answer earlier) (first_line text rest one)
      ∙ ap (λ (t : List ℕ). t ++ later) (answer_line_is earlier text)
      ∙ ap (λ (c : Command). (command_answer (lists_after_lines earlier) c ++ 10 ∷ []) ++ later) requests
      ∙ append_assoc (command_answer (lists_after_lines earlier) command) (10 ∷ []) later

  pub line_listed : lists_after_lines (earlier ++ text ∷ [])
      ≡ lists_with_line (lists_after_lines earlier) (number_after earlier) command
  line_listed = lists_after_lines-push earlier text
      ∙ ap (lists_with_line (lists_after_lines earlier) (number_after earlier)) requests
