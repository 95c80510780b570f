use Rattle.std.proofs.Common.{refl}
use Rattle.etherparse.proofs.Push.{sound_same}
use Rattle.etherparse.proofs.defrag.ip_defrag_buf.IpDefragBuf.try_clone.Goals as goal

pub invariant_of-result : goal.invariant_of-result
invariant_of-result c = sound_same _ _ refl
    (rw (c.in_ok-extend_from_slice.ensures.items, c.in_ok-data.ensures.items) c.deref.ensures.value)
    (rw (c.in_ok-extend_from_slice-2.ensures.items, c.in_ok-sections.ensures.items)
    c.deref-2.ensures.value) refl c.in_ok-stored_fragments.ensures.copy c.self.invariant
