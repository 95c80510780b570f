use Rattle.etherparse_structs.proofs.StreamLemmas.{answered_then, put_has, taken_holds}
use Rattle.etherparse_structs.proofs.stream.EpStream.add.Goals as goal

pub returns-clause-answered : goal.returns-clause-answered
returns-clause-answered c s has =
    answered_then _ _ s _ _ (λ t e. put_has _ _ t c.put.ensures.held c.put.ensures.opened e)
    (c.add-added.ensures s (taken_holds _ _ _ s has c.taken-opened.ensures.opened c.deref_mut.ensures.value))
