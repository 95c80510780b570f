use Rattle.etherparse_structs.proofs.StreamLemmas.{put_has, read_then, taken_holds}
use Rattle.etherparse_structs.proofs.stream.EpStream.read.Goals as goal

pub returns-clause-read : goal.returns-clause-read
returns-clause-read c s has =
    read_then _ _ s _ _ _ (λ t e. put_has _ _ t c.put.ensures.held c.put.ensures.opened e)
    (c.read-count.ensures s (taken_holds _ _ _ s has c.taken-opened.ensures.opened c.deref_mut.ensures.value))
