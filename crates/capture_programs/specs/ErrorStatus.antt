-- The exit status of the program by how a run ends. Words that are no command give 2.
use Rattle.std.specs.Prelude.{ℕ, Bool, true, Result, Ok, Err}
use Rattle.captures.specs.declared.translation.run_error.RunError.{RunError}
use Rattle.captures.specs.declared.translation.run_error.RunError.TheVariants.{Read, Write, WriteZero, Memory}
use Rattle.captures.specs.declared.translation.run_error.RunError.TheVariants.{TooManyReads, Capture, BadLine}

abbrev pub status_of : RunError → ℕ
status_of Read = 4
status_of Write = 4
status_of WriteZero = 4
status_of Memory = 5
status_of TooManyReads = 5
status_of (Capture error position) = 3
status_of (BadLine line) = 3

-- where the output's pipe was found closed, or not: whoever closed it has read enough
abbrev pub run_status : Bool → Result Unit RunError → ℕ
run_status closed (Ok done) = 0
run_status true (Err Write) = 0
run_status closed (Err error) = status_of error
