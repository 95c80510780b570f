use Rattle.std.proofs.Common.{refl}
use Rattle.captures.proofs.laws.examples.pcapng.links_of_interfaces.Goals as goal

pub returns-clause-first : goal.returns-clause-first
returns-clause-first c section number = (rw number refl, rw number refl)

pub returns-clause-later : goal.returns-clause-later
returns-clause-later c section number = (rw number refl, rw number refl)
