-- The answers to lines, one after another, where an answer may depend on the lines before it.
use Rattle.std.specs.Prelude.{◌≡◌, ℕ, ◌+◌, ◌==◌, not, Bool, true, false, List, [], ◌∷◌, ◌++◌, length}
use Rattle.lines.specs.Lines.{HasNoNewline, lines_of, ended_lines_of}

-- what lines mean: the answer to a line after those before it, and whether memory may run out for
-- it there
pub record Meaning : Type 0 where
  pub answer : List (List ℕ) → List ℕ → List ℕ
  pub takes_memory : List (List ℕ) → List ℕ → Bool

-- the answers to lines, in order, after these earlier ones, where this answers a line after others
abbrev pub answers_to_later : (List (List ℕ) → List ℕ → List ℕ) → List (List ℕ) → List (List ℕ)
    → List ℕ
answers_to_later answer earlier [] = []
answers_to_later answer earlier (line ∷ lines) =
    answer earlier line ++ answers_to_later answer (earlier ++ line ∷ []) lines

-- the answers to all lines of these bytes
abbrev pub answers_to_text : Meaning → List ℕ → List ℕ
answers_to_text meaning bytes = answers_to_later meaning.answer [] (lines_of bytes)

-- the answers to the lines that 0a ends
abbrev pub answers_to_ended : Meaning → List ℕ → List ℕ
answers_to_ended meaning bytes = answers_to_later meaning.answer [] (ended_lines_of bytes)

-- the lines that are whole: all where the end is reported, and otherwise those that 0a ends
abbrev pub whole_lines_of : Bool → List ℕ → List (List ℕ)
whole_lines_of true bytes = lines_of bytes
whole_lines_of false bytes = ended_lines_of bytes

-- these are the answers to the lines before one for which memory may run out
pub record EndsBefore (meaning : Meaning) (earlier lines : List (List ℕ))
    (answers : List ℕ) : Type 0 where
  pub before : List (List ℕ)
  pub line : List ℕ
  pub later : List (List ℕ)
  pub parts : lines ≡ before ++ line ∷ later
  pub takes : meaning.takes_memory (earlier ++ before) line ≡ true
  pub same : answers ≡ answers_to_later meaning.answer earlier before

-- the number of the line after these, from 1 on
abbrev pub number_after : List (List ℕ) → ℕ
number_after earlier = length earlier + 1

-- the earlier lines are answered and counted, and this prefix of the next one is read. The flag
-- says whether it has a byte.
pub record Started (shown : List (List ℕ) → List ℕ → Type 0) (count : ℕ) (has_started : Bool)
    (earlier : List (List ℕ)) (prefix : List ℕ) : Type 0 where
  pub shows : shown earlier prefix
  pub counted : count ≡ length earlier
  pub begins : has_started ≡ not (length prefix == 0)
  pub unended : HasNoNewline prefix
