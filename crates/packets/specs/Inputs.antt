-- The inputs of a program, one after the other.
use Rattle.std.specs.Prelude.{ℕ, ◌+◌, Bool, true, false}
use Rattle.captures.specs.Numbers.{capped}
use Rattle.captures.specs.declared.skipped.Skipped.{Skipped}
use Rattle.captures.specs.declared.translation.run_error.RunError.{RunError}
use Rattle.captures.specs.declared.translation.run_error.RunError.TheVariants.{Capture, BadLine, Read, Write, WriteZero}
use Rattle.captures.specs.declared.translation.run_error.RunError.TheVariants.{Memory, TooManyReads}

-- whether an error is one of an input, so that others can still be read
abbrev pub is_of_input : RunError → Bool
is_of_input (Capture error position) = true
is_of_input (BadLine number) = true
is_of_input Read = true
is_of_input Write = false
is_of_input WriteZero = false
is_of_input Memory = false
is_of_input TooManyReads = true

-- the packets that two runs passed over
abbrev pub skipped_with : Skipped → Skipped → Skipped
skipped_with these those = record {
  of_other_links = capped (these.of_other_links + those.of_other_links);
  too_long = capped (these.too_long + those.too_long);
  without_frame = capped (these.without_frame + those.without_frame);
}
