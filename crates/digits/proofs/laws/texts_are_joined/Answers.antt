use Rattle.digits.proofs.Joined.{texts_are_joined}
use Rattle.digits.proofs.laws.texts_are_joined.Goals as goal

pub returns : goal.returns
returns c = texts_are_joined
