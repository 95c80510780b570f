use Rattle.etherparse.proofs.Push.{sound_none, emptied_twice}
use Rattle.std.proofs.Common.{refl}
use Rattle.etherparse.proofs.defrag.ip_defrag_buf.IpDefragBuf.clear.Goals as goal

pub invariant_of-self : goal.invariant_of-self
invariant_of-self g c =
    sound_none _ c.clear.ensures.items c.clear-2.ensures.items refl
    (emptied_twice _ _ c.clear_stored.ensures.stored_fragments)
