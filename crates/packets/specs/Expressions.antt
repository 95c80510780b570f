-- Conditions joined by "and", "or" and "not": how they are written, and which packets meet them.
use Rattle.std.specs.Prelude.{◌≡◌, ◌&&◌, ◌||◌, not, Bool, List, [], ◌∷◌, ◌++◌}
use Rattle.std.specs.List.{list_all}
use Rattle.packets.specs.Conditions.{holds}
use Rattle.packets.specs.declared.condition.Condition.{Condition}
use Rattle.packets.specs.declared.dissection.Dissection.{Dissection}
use Rattle.packets.specs.declared.expression.Expression.{Expression}
use Rattle.packets.specs.declared.expression.Expression.TheVariants as expression
use Rattle.packets.specs.declared.expression.Word.{Word}
use Rattle.packets.specs.declared.expression.Word.TheVariants as word
use Rattle.packets.specs.declared.filter.Filter.{Filter}

-- what an expression says
pub data Formula : Type 0 where
  Test : Condition → Formula
  Not : Formula → Formula
  And : Formula → Formula → Formula
  Or : Formula → Formula → Formula

-- whether a packet meets it
abbrev pub meets : Formula → Dissection → Bool
meets (Test condition) packet = holds condition packet
meets (Not f) packet = not (meets f packet)
meets (And f g) packet = meets f packet && meets g packet
meets (Or f g) packet = meets f packet || meets g packet

abbrev pub formula_of : Expression → Formula
formula_of (expression.Test condition) = Test condition
formula_of (expression.Not' p inner) = Not (formula_of inner)
formula_of (expression.And' p first q second) = And (formula_of first) (formula_of second)
formula_of (expression.Or' p first q second) = Or (formula_of first) (formula_of second)

-- The parts of an expression: what "or" joins in a row, what "and" joins in a row, and a single one.
pub data Part : Type 0 where
  Alternatives : Part
  Joint : Part
  Single : Part

-- The grammar: which words write a formula, as which part. "not" binds tighter than "and", and "and"
-- tighter than "or".
pub data IsWritten : Part → List Word → Formula → Type 0 where
  OfTest : (condition : Condition) → IsWritten Single (word.Test condition ∷ []) (Test condition)
  OfNot : (words : List Word) (f : Formula) → IsWritten Single words f
      → IsWritten Single (word.Not ∷ words) (Not f)
  OfParentheses : (words : List Word) (f : Formula) → IsWritten Alternatives words f
      → IsWritten Single (word.Open ∷ (words ++ word.Close ∷ [])) f
  OfSingle : (words : List Word) (f : Formula) → IsWritten Single words f → IsWritten Joint words f
  OfAnd : (words others : List Word) (f g : Formula) → IsWritten Single words f → IsWritten Joint others g
      → IsWritten Joint (words ++ word.And ∷ others) (And f g)
  OfJoint : (words : List Word) (f : Formula) → IsWritten Joint words f → IsWritten Alternatives words f
  OfOr : (words others : List Word) (f g : Formula) → IsWritten Joint words f
      → IsWritten Alternatives others g → IsWritten Alternatives (words ++ word.Or ∷ others) (Or f g)

-- the words before the rest write a formula
abbrev pub Reads : Part → List Word → List Word → Formula → Type 0
Reads part words rest f = (read : List Word) × (words ≡ read ++ rest) × IsWritten part read f

-- the expressions of a filter, all of which a packet has to meet
abbrev pub expressions_of : Filter → List Expression
expressions_of filter = filter.expressions.items

abbrev pub lets_through : Filter → Dissection → Bool
lets_through filter packet = list_all (λ e. meets (formula_of e) packet) (expressions_of filter)
