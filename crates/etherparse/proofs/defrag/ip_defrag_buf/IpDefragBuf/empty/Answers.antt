use Rattle.std.proofs.Common.{refl}
use Rattle.etherparse.proofs.Push.{sound_none, none_listed}
use Rattle.etherparse.proofs.defrag.ip_defrag_buf.IpDefragBuf.empty.Goals as goal

pub invariant_of-result : goal.invariant_of-result
invariant_of-result g c =
    sound_none _ c.clear.ensures.items c.clear-2.ensures.items refl (none_listed _ c.requires)
