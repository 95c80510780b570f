use Rattle.std.proofs.Common.{◌∙◌, ap}
use Rattle.captures.specs.declared.text.ledger.Ledger.{Ledger}
use Rattle.captures.proofs.Reporting.{reports_start, due_as, goes_as, passes_over}
use Rattle.captures.proofs.translation.run_captures.run_by.Goals as goal

pub run_translator-result-requires-clause-begins :
    goal.run_translator-result-requires-clause-begins
run_translator-result-requires-clause-begins g c =
    rw (c.by.ensures, c.blank.ensures) (reports_start c.args.extra _)

pub run_translator-result-requires-clause-due : goal.run_translator-result-requires-clause-due
run_translator-result-requires-clause-due g c t t' same = due_as same

pub returns-clause-runs : goal.returns-clause-runs
returns-clause-runs g c =
    rw c.skipped.ensures
    (goes_as (c.run_translator-result.ensures.kept
    ∙ ap (λ (l : Ledger). l.extra) c.blank.ensures) c.run_translator-result.ensures.ends.goes)

pub returns-clause-passed : goal.returns-clause-passed
returns-clause-passed g c =
    rw c.skipped.ensures (passes_over c.run_translator-result.ensures.ends.fills)
