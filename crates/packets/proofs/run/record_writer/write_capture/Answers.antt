use Rattle.packets.proofs.RecordLemmas.{no_header, writes_capture}
use Rattle.packets.proofs.run.record_writer.write_capture.Goals as goal

pub returns-in-Err : goal.returns-in-Err
returns-in-Err g c =
    no_header c.args.rules.now _ _ _ c.in-Err.error (rw c.file_header.ensures at c.in-Err.ensures)

pub returns : goal.returns
returns g c =
    writes_capture c.args.rules.now _ _ _ _ _ c.write_records.result
    (rw c.file_header.ensures at c.in_default.ensures) c.write_records.ensures
