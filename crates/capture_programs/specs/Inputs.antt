-- An input whose first bytes are looked at: what it has left, and what it looks like.
use Rattle.std.specs.Prelude.{ℕ, List, [], Option, Some}
use Rattle.std.specs.Io.Buffered.{reader_buffer, reader_remaining}
use Rattle.capture_programs.specs.Looks.{look_of}
use Rattle.capture_programs.specs.declared.input.FirstRead.{FirstRead}
use Rattle.capture_programs.specs.declared.input.FirstRead.TheVariants.{Open, AtEnd, OfDirectory, Failed}
use Rattle.capture_programs.specs.declared.input.Input.{Input}
use Rattle.capture_programs.specs.declared.looks.Look.{Look}
use Rattle.capture_programs.specs.declared.looks.Look.TheVariants.{Directory, Empty, Other}

-- the bytes that reads will give, where these are those of the reader: none once the end was
-- reported
abbrev pub left_after : FirstRead → Option (List ℕ) → Option (List ℕ)
left_after Open remaining = remaining
left_after AtEnd remaining = Some []
left_after OfDirectory remaining = remaining
left_after Failed remaining = remaining

abbrev pub remaining_of : {R : Type 0} → (R → Option (List ℕ)) → Input R → Option (List ℕ)
remaining_of remaining input = left_after input.first (reader_remaining remaining input.reader)

-- what an input looks like whose first read gave these bytes, reported the end or failed
abbrev pub look_after : FirstRead → List ℕ → Look
look_after Open prefix = look_of prefix
look_after AtEnd prefix = Empty
look_after OfDirectory prefix = Directory
look_after Failed prefix = Other

abbrev pub looks_like : {R : Type 0} → Input R → Look
looks_like input = look_after input.first (reader_buffer input.reader)
