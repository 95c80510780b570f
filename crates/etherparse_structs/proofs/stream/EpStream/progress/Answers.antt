use Rattle.std.proofs.Common.{refl}
use Rattle.etherparse_structs.proofs.StreamLemmas.{put_has, taken_holds}
use Rattle.etherparse_structs.proofs.stream.EpStream.progress.Goals as goal

pub returns-clause-progress : goal.returns-clause-progress
returns-clause-progress c s has =
    let held = c.taken-opened.ensures.opened in (
      put_has _ _ s c.put.ensures.held c.put.ensures.opened (taken_holds _ _ _ s has held refl),
      c.of-progress.ensures s (taken_holds _ _ _ s has held c.deref.ensures),
    )
