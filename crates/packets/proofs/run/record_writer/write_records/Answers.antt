use Rattle.packets.proofs.RecordLemmas.{writes_records}
use Rattle.packets.proofs.run.record_writer.write_records.Goals as goal

pub returns : goal.returns
returns g c = writes_records c.args.rules.now _ _ _ _ _ c.write_packets.ensures
