use Rattle.captures.proofs.AdvanceLemmas.{comes_refused, has_read_without, held_next, held_refused}
use Rattle.captures.proofs.reading.packet_reader.PacketReader.advance_held.Goals as goal

pub returns-in-Ok-clause-comes : goal.returns-in-Ok-clause-comes
returns-in-Ok-clause-comes g c unfit read given h =
    let prefix = c.take_next.new.self in
    held_next unfit prefix read given (g.R.Read.remaining prefix.reader) c.in-Ok.found
    (c.in-Ok.ensures.finds unfit read given (has_read_without unfit c.args.self.now read given h))

pub returns-in-Err-clause-comes : goal.returns-in-Err-clause-comes
returns-in-Err-clause-comes g c unfit read given h =
    let prefix = c.take_next.new.self in
    let left = g.R.Read.remaining c.refuse.new.self.reader in
    let finds = c.in-Err.ensures.finds unfit read given
    (has_read_without unfit c.args.self.now read given h) in
    held_refused unfit prefix c.refuse.new.self read given left c.refuse.result c.in-Err.error
    c.refuse.ensures
    (comes_refused unfit prefix c.refuse.new.self read given left c.refuse.result c.in-Err.error finds
    c.refuse.ensures)
