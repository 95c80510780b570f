-- Answers to lines after lines.
use Rattle.std.proofs.Common.{arith, ◌≡◌, sym, ap, ℕ, Bool, List, ◌∷◌, ◌++◌, append_assoc, append-nil, []}
use Rattle.lines.specs.Lines.{Split, split, last_line, ended_lines_of}
use Rattle.lines.specs.LineAnswers.{Meaning, EndsBefore, answers_to_later, answers_to_text, answers_to_ended}
use Rattle.lines.specs.LineAnswers.{whole_lines_of}
use Rattle.lines.proofs.SplitLemmas.{split-append, split-nil}

pub answers_to_later-append : (m : Meaning) (earlier a b : List (List ℕ))
    → answers_to_later m.answer earlier (a ++ b) ≡ answers_to_later m.answer earlier a
    ++ answers_to_later m.answer (earlier ++ a) b
answers_to_later-append m earlier [] b = ap (λ e. answers_to_later m.answer e b) (sym (append-nil earlier))
answers_to_later-append m earlier (x ∷ a) b =
    grind (arith, answers_to_later-append m (earlier ++ x ∷ []) a b, append_assoc)

-- more lines that follow
pub EndsBefore-more : (m : Meaning) (earlier lines more : List (List ℕ)) (answers : List ℕ)
    → EndsBefore m earlier lines answers → EndsBefore m earlier (lines ++ more) answers
EndsBefore-more m earlier lines more answers e = record {
  before = e.before;
  line = e.line;
  later = e.later ++ more;
  parts = grind (arith, append_assoc);
  takes = e.takes;
  same = e.same;
}

-- lines that are answered before
pub EndsBefore-after : (m : Meaning) (earlier lines more : List (List ℕ)) (answers : List ℕ)
    → EndsBefore m (earlier ++ lines) more answers
    → EndsBefore m earlier (lines ++ more) (answers_to_later m.answer earlier lines ++ answers)
EndsBefore-after m earlier lines more answers e = record {
  before = lines ++ e.before;
  line = e.line;
  later = e.later;
  parts = grind (arith, append_assoc);
  takes = grind (arith, append_assoc);
  same = grind (arith, answers_to_later-append);
}

-- more bytes, after what came
pub ended-append : (a b : List ℕ) → ended_lines_of (a ++ b) ≡ ended_lines_of a
    ++ ended_lines_of ((split a).rest ++ b)
ended-append a b = ap (λ (c : Split). c.ended) (split-append a b)

pub answers_to_ended-append : (m : Meaning) (a b : List ℕ)
    → answers_to_ended m (a ++ b) ≡ answers_to_ended m a
    ++ answers_to_later m.answer (ended_lines_of a) (ended_lines_of ((split a).rest ++ b))
answers_to_ended-append m a b = grind (arith, ended-append, answers_to_later-append)

pub answers_to_ended-nil : (m : Meaning) → answers_to_ended m [] ≡ []
answers_to_ended-nil m = ap (λ (c : Split). answers_to_later m.answer [] c.ended) split-nil

pub answers_to_text-parts : (m : Meaning) (a : List ℕ)
    → answers_to_text m a ≡ answers_to_ended m a
    ++ answers_to_later m.answer (ended_lines_of a) (last_line (split a).rest)
answers_to_text-parts m a = answers_to_later-append m [] (ended_lines_of a) (last_line (split a).rest)

-- no line is whole where nothing came
pub whole_lines_of-nil : (end_reported : Bool) → whole_lines_of end_reported [] ≡ []
whole_lines_of-nil end_reported = grind (arith, split-nil)
