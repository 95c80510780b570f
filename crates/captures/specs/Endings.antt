-- How a run ends, by its result.
use Rattle.std.specs.Prelude.{Result}
use Rattle.device_runs.specs.declared.fault.Fault.TheVariants.{ReadFailed, WriteFailed, NothingTaken}
use Rattle.device_runs.specs.Endings.{Ending, Stopped, OutOfMemory, OutOfReads, Refused, ending_by}
use Rattle.captures.specs.declared.reading.read_error.ReadError.{ReadError}
use Rattle.captures.specs.declared.reading.read_error.ReadError.TheVariants as read
use Rattle.captures.specs.declared.translation.refusal.Refusal.{Refusal}
use Rattle.captures.specs.declared.translation.refusal.Refusal.TheVariants.{InCapture, InLine}
use Rattle.captures.specs.declared.translation.run_error.RunError.{RunError}
use Rattle.captures.specs.declared.translation.run_error.RunError.TheVariants.{Read, Write, WriteZero, Memory}
use Rattle.captures.specs.declared.translation.run_error.RunError.TheVariants.{TooManyReads, Capture, BadLine}

abbrev pub cause : RunError → Ending Refusal
cause Read = Stopped ReadFailed
cause Write = Stopped WriteFailed
cause WriteZero = Stopped NothingTaken
cause Memory = OutOfMemory
cause TooManyReads = OutOfReads
cause (Capture error position) = Refused (InCapture error position)
cause (BadLine line) = Refused (InLine line)

-- why a reader gives no further packet
abbrev pub read_cause : ReadError → Ending Refusal
read_cause read.Read = Stopped ReadFailed
read_cause (read.Capture error position) = Refused (InCapture error position)
read_cause read.TooManyReads = OutOfReads

abbrev pub ending_of : Result Unit RunError → Ending Refusal
ending_of result = ending_by cause result
