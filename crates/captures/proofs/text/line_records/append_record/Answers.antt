use Rattle.std.proofs.Common.{None}
use Rattle.captures.specs.CapturedFrames.{captured_with}
use Rattle.captures.proofs.RecordLemmas.{as_timed, by_length}
use Rattle.captures.proofs.text.line_records.append_record.Goals as goal

pub returns-in-Some-clause-record : goal.returns-in-Some-clause-record
returns-in-Some-clause-record c =
    let found = c.in-Some.ensures.record in
    (captured_with None found.0, as_timed c.args.line.now found.0 found.1, found.2)

pub returns-in-None-clause-record : goal.returns-in-None-clause-record
returns-in-None-clause-record c =
    let none = c.in-None.ensures.record in
    rw (by_length c.args.line.now none, ← c.append_timed.ensures.same)
    c.append_with_length.ensures.record
