use Rattle.std.proofs.Common.{Some, None, arith}
use Rattle.packets.specs.declared.datagrams.Datagrams.{Datagrams}
use Rattle.packets.proofs.HeldLemmas.{drops_oldest, none_reported, reported}
use Rattle.packets.proofs.datagrams.Datagrams.drop_oldest.Goals as goal

pub returns-in_default-clause-dropped : goal.returns-in_default-clause-dropped
returns-in_default-clause-dropped g c lists order shows has =
    let shown = c.timestamps_are_read.ensures.fragments in
    let parts = c.equal_names.ensures.components in
    let new : Datagrams g.row.S.Denot g.row.S-Hasher.Denot = record { pool = c.forget_oldest.new.self } in
    drops_oldest shown parts c.equal_names.ensures.same c.timestamps_are_read.ensures.timestamp
    c.args.self.now new None
    (none_reported shown parts c.args.self.now new (rw c.in_default.is at c.forget_oldest.ensures.none))
    lists order shows has

pub returns-clause-dropped : goal.returns-clause-dropped
returns-clause-dropped g c lists order shows has =
    let shown = c.timestamps_are_read.ensures.fragments in
    let parts = c.equal_names.ensures.components in
    let new : Datagrams g.row.S.Denot g.row.S-Hasher.Denot = record { pool = c.free_spare.new.self } in
    drops_oldest shown parts c.equal_names.ensures.same c.timestamps_are_read.ensures.timestamp
    c.args.self.now new (Some c.in-Some.field-0)
    (reported shown parts c.args.self.now new c.forget_oldest.new.self c.in-Some.field-0
    (rw c.in-Some.is at c.forget_oldest.ensures.some) c.free_spare.ensures.reassemblies
    c.free_spare.ensures.starts) lists order shows has

pub returns-clause-fewer : goal.returns-clause-fewer
returns-clause-fewer g c t =
    let f = rw c.in-Some.is at c.forget_oldest.ensures.some in
    rw (c.free_spare.ensures.starts, f.oldest) (omega arith)
