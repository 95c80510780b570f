use Rattle.std.proofs.Common.{refl}
use Rattle.hex.proofs.OnLiterals.{hex_on_literals}
use Rattle.digits.proofs.laws.worked_digits.Goals as goal

pub returns-clause-encoded : goal.returns-clause-encoded
unfolding hex_on_literals
returns-clause-encoded c = refl

pub returns-clause-lower : goal.returns-clause-lower
unfolding hex_on_literals
returns-clause-lower c = refl

pub returns-clause-upper : goal.returns-clause-upper
unfolding hex_on_literals
returns-clause-upper c = refl

pub returns-clause-no_digit : goal.returns-clause-no_digit
unfolding hex_on_literals
returns-clause-no_digit c = refl
