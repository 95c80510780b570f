use Rattle.std.proofs.Common.{◌≡◌, ◌∙◌, sym, ap, List, ℕ, ◌==◌, true, false, [], ◌∷◌, ◌++◌, length}
use Rattle.std.proofs.Common.{append-nil}
use Rattle.std.proofs.Math.Dec.{eqb-suc-zero}
use Rattle.lines_tests.proofs.earlier_lines.MarkerAnswerer.take.Goals as goal

longer : (prefix bytes : List ℕ) → (length bytes == 0) ≡ false
    → false ≡ (length (prefix ++ bytes) == 0)
longer [] bytes some = sym some
longer (b ∷ prefix) bytes some = sym (eqb-suc-zero (length (prefix ++ bytes)))

same : (prefix bytes : List ℕ) → (length bytes == 0) ≡ true
    → (length prefix == 0) ≡ (length (prefix ++ bytes) == 0)
same prefix [] none = ap (λ l. length l == 0) (sym (append-nil prefix))
same prefix (b ∷ bytes) none = let no_byte = sym none ∙ eqb-suc-zero (length bytes) in cc

pub returns-then-is_empty : goal.returns-then-is_empty
returns-then-is_empty c earlier prefix shows = (
  shows.0,
  shows.1 ∙ same prefix c.args.bytes.now (sym c.is_empty.ensures ∙ c.if-is_empty.true),
)

pub returns : goal.returns
returns c earlier prefix shows =
    (shows.0, longer prefix c.args.bytes.now (sym c.is_empty.ensures ∙ c.if-is_empty.false))
