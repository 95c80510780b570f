use Rattle.std.proofs.Common.{arith}
use Rattle.captures.proofs.laws.examples.pcap.greatest_written_frames.Goals as goal

pub returns-clause-greatest : goal.returns-clause-greatest
returns-clause-greatest c frame size =
    record { short = omega arith; seconds = omega arith; nanoseconds = omega arith; wire_len = omega arith; whole = omega arith }

pub returns-clause-longer : goal.returns-clause-longer
returns-clause-longer c given size is = let short = is.short in absurd (omega arith)

pub returns-clause-later : goal.returns-clause-later
returns-clause-later c given later is = let before = is.seconds in absurd (omega arith)

pub returns-clause-nanoseconds : goal.returns-clause-nanoseconds
returns-clause-nanoseconds c given whole is = let part = is.nanoseconds in absurd (omega arith)

pub returns-clause-on_wire : goal.returns-clause-on_wire
returns-clause-on_wire c given large is = let before = is.wire_len in absurd (omega arith)

pub returns-clause-fewer : goal.returns-clause-fewer
returns-clause-fewer c given stated has is = let whole = is.whole in absurd (omega arith)
