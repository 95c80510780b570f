use Rattle.std.proofs.Common.{[], ◌∷◌}
use Rattle.packets.specs.Expressions.Formula.{And, Not, Test}
use Rattle.packets.specs.Expressions.IsWritten.{OfAnd, OfJoint, OfNot, OfOr, OfSingle, OfTest}
use Rattle.packets.specs.declared.condition.Condition.TheVariants as condition
use Rattle.packets.specs.declared.expression.Word.TheVariants as word
use Rattle.packets.proofs.laws.examples.conditions.precedence.Goals as goal

pub returns : goal.returns
returns c = OfOr (word.Test condition.Bad ∷ [])
    (word.Not ∷ word.Test condition.Cut ∷ word.And ∷ word.Test condition.Refused ∷ []) (Test condition.Bad)
    (And (Not (Test condition.Cut)) (Test condition.Refused))
    (OfSingle (word.Test condition.Bad ∷ []) (Test condition.Bad) (OfTest condition.Bad))
    (OfJoint (word.Not ∷ word.Test condition.Cut ∷ word.And ∷ word.Test condition.Refused ∷ [])
    (And (Not (Test condition.Cut)) (Test condition.Refused))
    (OfAnd (word.Not ∷ word.Test condition.Cut ∷ []) (word.Test condition.Refused ∷ []) (Not (Test condition.Cut))
    (Test condition.Refused) (OfNot (word.Test condition.Cut ∷ []) (Test condition.Cut) (OfTest condition.Cut))
    (OfSingle (word.Test condition.Refused ∷ []) (Test condition.Refused) (OfTest condition.Refused))))
