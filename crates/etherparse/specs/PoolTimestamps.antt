-- Fragments that renew the timestamp of their reassembly.
use Rattle.std.specs.Prelude.{Bool, Option, Result}
use Rattle.etherparse.specs.Fragments.{Fragment}
use Rattle.etherparse.specs.declared.defrag.ip_defrag_error.IpDefragError.{IpDefragError}
use Rattle.etherparse.specs.ReassemblyTable.{Pool}
use Rattle.etherparse.specs.Timestamps.{timestamp_at}
use Rattle.etherparse.specs.IpDefragPool.{Accepts}
use Rattle.etherparse.specs.declared.defrag.ip_defrag_payload_vec.IpDefragPayloadVec.{IpDefragPayloadVec}
use Rattle.etherparse.specs.declared.defrag.ip_frag_id.IpFragId.{IpFragId}

-- a fragment of this name is added, where it is accepted, to those that its reassembly shows, with
-- a timestamp that is made of the one that the reassembly had, or of none where the fragment starts
-- it
abbrev pub AcceptsRenewed : {C T : Type 0} → (renews : Option T → T → Type 0)
    → (IpFragId C → IpFragId C → Bool) → (old new : Pool (IpFragId C) T) → IpFragId C → Fragment
    → Result (Option IpDefragPayloadVec) IpDefragError → Type 0
AcceptsRenewed {C} {T} renews same old new id f result = (timestamp : T)
    × renews (timestamp_at same old id) timestamp × Accepts same old new id f timestamp result
