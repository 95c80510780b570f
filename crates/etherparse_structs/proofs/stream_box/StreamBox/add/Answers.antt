use Rattle.etherparse_structs.proofs.StreamLemmas.{answers}
use Rattle.etherparse_structs.proofs.stream_box.StreamBox.add.Goals as goal

pub returns : goal.returns
returns c s h =
    let e = c.add.ensures in
    rw c.of.ensures (answers _ _ s _ _ h e.accepted e.refused e.position e.conflicts e.start e.joined_late e.err
    e.taken e.window e.succeeds)
