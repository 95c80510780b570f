use Rattle.std.proofs.Common.{refl}
use Rattle.captures.proofs.laws.examples.links.packets_are_not_reported.Goals as goal

pub returns-clause-longest : goal.returns-clause-longest
returns-clause-longest c packet size = rw size refl

pub returns-clause-too_long : goal.returns-clause-too_long
returns-clause-too_long c packet size = rw size refl

pub returns-clause-cooked_too_long : goal.returns-clause-cooked_too_long
returns-clause-cooked_too_long c packet size = rw size refl
