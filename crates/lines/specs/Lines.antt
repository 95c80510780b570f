-- The lines of a list of bytes. Byte 0a ends a line, and is no part of it.
use Rattle.std.specs.Prelude.{◌≡◌, ℕ, ◌==◌, false, if◌then◌else◌, List, [], ◌∷◌, ◌++◌}
use Rattle.std.specs.List.{AllByRecursion, join_with_byte}

-- bytes as the lines that 0a ends, each without it, and what comes after the last 0a
pub record Split : Type 0 where
  pub ended : List (List ℕ)
  pub rest : List ℕ

-- one more byte, which is not 0a, before the first line
abbrev pub with_byte : ℕ → List (List ℕ) → List ℕ → Split
with_byte b [] rest = record { ended = []; rest = b ∷ rest }
with_byte b (line ∷ lines) rest = record { ended = (b ∷ line) ∷ lines; rest = rest }

unfoldable pub split : List ℕ → Split
split [] = record { ended = []; rest = [] }
split (b ∷ bytes) =
    let later = split bytes in
    if b == 10 then record { ended = [] ∷ later.ended; rest = later.rest }
    else with_byte b later.ended later.rest

-- a last part that no 0a ends is a line if it is not empty
abbrev pub last_line : List ℕ → List (List ℕ)
last_line [] = []
last_line (b ∷ rest) = (b ∷ rest) ∷ []

-- the lines that 0a ends
abbrev pub ended_lines_of : List ℕ → List (List ℕ)
ended_lines_of bytes = (split bytes).ended

-- all lines
abbrev pub lines_of : List ℕ → List (List ℕ)
lines_of bytes = (split bytes).ended ++ last_line (split bytes).rest

-- bytes with no 0a among them
abbrev pub HasNoNewline : List ℕ → Type 0
HasNoNewline [] = Unit {0}
HasNoNewline (b ∷ bytes) = (b == 10 ≡ false) × HasNoNewline bytes

-- the parts between the 0a bytes, the last one too
abbrev pub separated_parts : List ℕ → List (List ℕ)
separated_parts bytes = (split bytes).ended ++ (split bytes).rest ∷ []

-- joined by 0a the parts are the bytes again, and none of them holds a 0a
abbrev pub PartsAreTheText : Type 0
PartsAreTheText = (bytes : List ℕ) → (join_with_byte 10 (separated_parts bytes) ≡ bytes)
    × AllByRecursion HasNoNewline (separated_parts bytes)
