use Rattle.std.proofs.Common.{arith, refl}
use Rattle.captures.proofs.laws.examples.pcapng.interface_descriptions.Goals as goal

pub returns : goal.returns
returns c section none = (refl, omega arith, refl, refl, refl, omega arith)
