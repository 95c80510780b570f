-- How a run ends, by its result.
use Rattle.std.specs.Prelude.{ℕ, Result}
use Rattle.device_runs.specs.declared.fault.Fault.TheVariants.{ReadFailed, WriteFailed, NothingTaken}
use Rattle.device_runs.specs.Endings.{Ending, Stopped, OutOfMemory, OutOfReads, ending_by}
use Rattle.lines.specs.declared.run_error.RunError.{RunError}
use Rattle.lines.specs.declared.run_error.RunError.TheVariants.{Read, Write, WriteZero, Memory, TooManyReads}

-- no input is refused
abbrev pub cause : RunError → Ending ⊥
cause Read = Stopped ReadFailed
cause Write = Stopped WriteFailed
cause WriteZero = Stopped NothingTaken
cause Memory = OutOfMemory
cause TooManyReads = OutOfReads

-- the index of an error among the five, as they are declared
abbrev pub error_index : RunError → ℕ
error_index Read = 0
error_index Write = 1
error_index WriteZero = 2
error_index Memory = 3
error_index TooManyReads = 4

abbrev pub ending_of : Result Unit RunError → Ending ⊥
ending_of result = ending_by cause result
