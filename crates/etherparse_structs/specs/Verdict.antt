-- The verdict on a packet's message, as a number.
use Rattle.std.specs.Prelude.{ℕ}
use Rattle.etherparse.specs.packet.Class.{Class}
use Rattle.etherparse.specs.packet.Class.Class.{Whole, Cut, Other, Refused}
use Rattle.checksum_verdicts.specs.Verdict.{verdict_of}
use Rattle.checksum_verdicts.specs.declared.verdict.Verdict.{Verdict}
use Rattle.checksum_verdicts.specs.declared.verdict.Verdict.TheVariants as verdict

abbrev pub verdict_number : Verdict → ℕ
verdict_number verdict.None = 0
verdict_number verdict.Good = 1
verdict_number verdict.Bad = 2

-- of a whole message; 3 where there is none
abbrev pub verdict_in : Class → ℕ
verdict_in (Whole addresses number bytes message) = verdict_number (verdict_of addresses message)
verdict_in (Cut name offset more bytes) = 3
verdict_in Other = 3
verdict_in Refused = 3
