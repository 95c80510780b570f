use Rattle.etherparse_structs.proofs.build.build_packet.Goals as goal

pub returns-clause-refused : goal.returns-clause-refused
returns-clause-refused c = rw c.none.ensures at c.build_extended_packet.ensures.refused

pub returns-clause-codes : goal.returns-clause-codes
returns-clause-codes c = rw c.none.ensures at c.build_extended_packet.ensures.codes

pub returns-clause-built : goal.returns-clause-built
returns-clause-built c = rw c.none.ensures at c.build_extended_packet.ensures.built

pub returns-clause-no_room : goal.returns-clause-no_room
returns-clause-no_room c = rw c.none.ensures at c.build_extended_packet.ensures.no_room
