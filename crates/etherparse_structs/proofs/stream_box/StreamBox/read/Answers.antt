use Rattle.etherparse_structs.proofs.StreamLemmas.{reads}
use Rattle.etherparse_structs.proofs.stream_box.StreamBox.read.Goals as goal

pub returns : goal.returns
returns c s h =
    let e = c.consume.ensures in
    reads _ _ s _ _ _ _ h c.available.ensures.bytes c.available.ensures.text c.copy_prefix-count.ensures.count
    c.copy_prefix-count.ensures.output e.shows e.taken e.start e.joined_late e.window
