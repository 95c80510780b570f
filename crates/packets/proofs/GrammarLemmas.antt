-- Words that are read by the grammar of expressions, one rule after the other.
use Rattle.std.proofs.Common.{◌≡◌, ◌∙◌, sym, ap, subst, List, [], ◌∷◌, ◌++◌, append_assoc, append-nil}
use Rattle.packets.specs.Expressions.{Formula, IsWritten, Reads}
use Rattle.packets.specs.Expressions.Formula.{And, Not, Or, Test}
use Rattle.packets.specs.Expressions.IsWritten.{OfAnd, OfJoint, OfNot, OfOr, OfParentheses, OfSingle, OfTest}
use Rattle.packets.specs.Expressions.Part.{Alternatives, Joint, Single}
use Rattle.packets.specs.declared.condition.Condition.{Condition}
use Rattle.packets.specs.declared.expression.Word.{Word}
use Rattle.packets.specs.declared.expression.Word.TheVariants as word

pub reads_test : (words later : List Word) (condition : Condition) → words ≡ word.Test condition ∷ later
    → Reads Single words later (Test condition)
reads_test words later condition same = (word.Test condition ∷ [], same, OfTest condition)

pub reads_not : (words later rest : List Word) (f : Formula) → words ≡ word.Not ∷ later
    → Reads Single later rest f → Reads Single words rest (Not f)
reads_not words later rest f same r =
    (word.Not ∷ r.0, same ∙ ap (λ (ws : List Word). word.Not ∷ ws) r.1, OfNot r.0 f r.2)

pub reads_parentheses : (words later after rest : List Word) (f : Formula) → words ≡ word.Open ∷ later
    → Reads Alternatives later after f → after ≡ word.Close ∷ rest → Reads Single words rest f
reads_parentheses words later after rest f same r closed = (
  word.Open ∷ (r.0 ++ word.Close ∷ []),
  same ∙ ap (λ (ws : List Word). word.Open ∷ ws) (r.1 ∙ ap (λ (ws : List Word). r.0 ++ ws) closed
      ∙ sym (append_assoc r.0 (word.Close ∷ []) rest)),
  OfParentheses r.0 f r.2,
)

pub reads_single : (words after : List Word) (f : Formula) → Reads Single words after f → Reads Joint words after f
reads_single words after f r = (r.0, r.1, OfSingle r.0 f r.2)

pub reads_and : (words after later rest : List Word) (f g : Formula) → Reads Single words after f
    → after ≡ word.And ∷ later → Reads Joint later rest g → Reads Joint words rest (And f g)
reads_and words after later rest f g r same s = (
  r.0 ++ word.And ∷ s.0,
  r.1 ∙ ap (λ (ws : List Word). r.0 ++ ws) (same ∙ ap (λ (ws : List Word). word.And ∷ ws) s.1)
      ∙ sym (append_assoc r.0 (word.And ∷ s.0) rest),
  OfAnd r.0 s.0 f g r.2 s.2,
)

pub reads_joint : (words after : List Word) (f : Formula) → Reads Joint words after f
    → Reads Alternatives words after f
reads_joint words after f r = (r.0, r.1, OfJoint r.0 f r.2)

pub reads_or : (words after later rest : List Word) (f g : Formula) → Reads Joint words after f
    → after ≡ word.Or ∷ later → Reads Alternatives later rest g → Reads Alternatives words rest (Or f g)
reads_or words after later rest f g r same s = (
  r.0 ++ word.Or ∷ s.0,
  r.1 ∙ ap (λ (ws : List Word). r.0 ++ ws) (same ∙ ap (λ (ws : List Word). word.Or ∷ ws) s.1)
      ∙ sym (append_assoc r.0 (word.Or ∷ s.0) rest),
  OfOr r.0 s.0 f g r.2 s.2,
)

pub all_written : (words rest : List Word) (f : Formula) → Reads Alternatives words rest f → rest ≡ []
    → IsWritten Alternatives words f
all_written words rest f r none = subst (λ (ws : List Word). IsWritten Alternatives ws f)
    (sym (r.1 ∙ ap (λ (ws : List Word). r.0 ++ ws) none ∙ append-nil r.0)) r.2
