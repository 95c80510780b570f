use Rattle.captures.proofs.AdvanceLemmas.{same_refused}
use Rattle.captures.proofs.reading.packet_reader.PacketReader.end.Goals as goal

pub returns-in-Err-clause-same : goal.returns-in-Err-clause-same
returns-in-Err-clause-same g c =
    same_refused c.args.self.now c.refuse.new.self c.in-Err.error c.refuse.result c.refuse.ensures
