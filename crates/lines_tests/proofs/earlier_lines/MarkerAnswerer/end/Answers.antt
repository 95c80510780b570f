use Rattle.std.proofs.Common.{◌≡◌, ◌∙◌, sym, ap, ℕ, ◌%◌, ◌==◌, Bool, true, false, List, [], ◌∷◌, ◌++◌}
use Rattle.std.proofs.Common.{length, not, refl}
use Rattle.std.specs.Prelude.{codes, if◌then◌else◌, ◌||◌}
use Rattle.std.specs.List.{list_any}
use Rattle.std.proofs.Math.Bool.{or-false, or-true}
use Rattle.std.proofs.lemmas.List.Folds.{list_any-append}
use Rattle.lines.specs.LineAnswers.{number_after}
use Rattle.lines_tests.proofs.earlier_lines.MarkerAnswerer.end.Goals as goal

abbrev is_empty : List ℕ → Bool
is_empty line = length line == 0

any_more : (earlier : List (List ℕ)) (line : List ℕ) (b : Bool) → is_empty line ≡ b
    → list_any is_empty (earlier ++ line ∷ []) ≡ (list_any is_empty earlier || b)
any_more earlier line b is = list_any-append is_empty earlier (line ∷ [])
    ∙ ap (λ c. list_any is_empty earlier || c) (or-false (is_empty line) ∙ is)

pub returns-then-self-clause-answers : goal.returns-then-self-clause-answers
returns-then-self-clause-answers c earlier line shows numbered =
    let none : is_empty line ≡ false = sym shows.1 ∙ ap not c.if-self.true in (
      c.put.ensures.text ∙ c.parity_text.ensures.text
          ∙ ap (λ n. if n % 2 == 0 then codes "even\n" else codes "odd\n") numbered
          ∙ sym (ap (λ b. if b then (if list_any is_empty earlier then codes "again\n"
          else codes "first\n")
          else (if number_after earlier % 2 == 0 then codes "even\n" else codes "odd\n")) none),
      (
        shows.0 ∙ sym (any_more earlier line false none ∙ or-false (list_any is_empty earlier)),
        refl,
      ),
    )

pub returns-in_default-clause-answers : goal.returns-in_default-clause-answers
returns-in_default-clause-answers c earlier line shows numbered =
    sym shows.1 ∙ ap not c.if-self.false

pub returns-clause-answers : goal.returns-clause-answers
returns-clause-answers c earlier line shows numbered =
    let empty : is_empty line ≡ true = sym shows.1 ∙ ap not c.if-self.false in (
      c.put-2.ensures.text ∙ c.mark_text-text.ensures.text
          ∙ ap (λ b. if b then codes "again\n" else codes "first\n") shows.0
          ∙ sym (ap (λ b. if b then (if list_any is_empty earlier then codes "again\n"
          else codes "first\n")
          else (if number_after earlier % 2 == 0 then codes "even\n" else codes "odd\n"))
          empty),
      (
        sym (any_more earlier line true empty ∙ or-true (list_any is_empty earlier)),
        ap not c.if-self.false,
      ),
    )
