use Rattle.std.proofs.Common.{is_some}
use Rattle.packets.specs.declared.outline.Outline.{Outline}
use Rattle.packets.proofs.TallyLemmas.{bytes-parted, packets-parted}
use Rattle.packets.proofs.laws.refused_and_others_are_all.Goals as goal

pub returns-clause-packets : goal.returns-clause-packets
returns-clause-packets c = packets-parted (λ (p : Outline). is_some p.refusal)

pub returns-clause-bytes : goal.returns-clause-bytes
returns-clause-bytes c = bytes-parted (λ (p : Outline). is_some p.refusal)
