-- Fragments that come again, where overlaps are refused (RFC 8200, section 4.5).
use Rattle.std.specs.Prelude.{◌≡◌, Option, Some, None, Result, List, IsOk}
use Rattle.etherparse.specs.declared.defrag.ip_defrag_error.IpDefragError.{IpDefragError}
use Rattle.etherparse.specs.declared.defrag.overlap_rule.OverlapRule.TheVariants.{Refuses}
use Rattle.etherparse.specs.declared.defrag.reassembly.Reassembly.{Reassembly}
use Rattle.etherparse.specs.Fragments.{Fragment, IsRepeat, named_end, refusal_at}
use Rattle.etherparse.specs.ReassemblyTable.{ShowsReassembly}

-- a reassembly that goes on has the buffer that it had
abbrev pub KeepsBuffer : {T : Type 0} → (old new : Option (Reassembly T)) → Type 0
KeepsBuffer None new = Unit {0}
KeepsBuffer (Some s) None = Unit {0}
KeepsBuffer (Some s) (Some t) = t.buf ≡ s.buf

-- a fragment that the reassembly has already, and that doesn't end after its datagram, takes no
-- memory: it is accepted, and the reassembly has the buffer that it had
abbrev pub TakesRepeat : {T X : Type 0} → (old new : Option (Reassembly T)) → Fragment
    → Result X IpDefragError → Type 0
TakesRepeat old new f result = (fs : List Fragment) → ShowsReassembly Refuses old fs → IsRepeat fs f
    → refusal_at (named_end fs) f ≡ None → IsOk result × KeepsBuffer old new
