use Rattle.std.proofs.Common.{rules}
use Rattle.device_runs.proofs.KnownLemmas.{Goes-reader_writer, goes_memory, goes_end, goes_transfer, goes_too_many}
use Rattle.device_runs.specs.declared.limits.TheConstants.{READ_COUNT_LIMIT}
use Rattle.captures.specs.Endings.{cause, ending_of}
use Rattle.captures.specs.CaptureRuns.{capture_to_lines}
use Rattle.captures.proofs.KnownLemmas.{passed_known, runs_ok}
use Rattle.captures.proofs.translation.run_captures.run.Goals as goal

pub returns-clause-ok : goal.returns-clause-ok
returns-clause-ok g c =
    let result = c.run_over-result.result in
    let task = capture_to_lines c.args.extra c.args.unfit c.run_over-result.new.skipped in
    let seen = Goes-reader_writer task g.R.Read.remaining g.W.Write.contents
    READ_COUNT_LIMIT _ _ _ c.run_over-result.ensures.runs in
    let reader = seen.0 in
    let writer = seen.1 in
    let known = runs_ok c.args.extra c.args.unfit c.run_over-result.new.skipped READ_COUNT_LIMIT _ _ result
    seen.2 in
    search rules

pub returns-clause-end : goal.returns-clause-end
returns-clause-end g c =
    let result = c.run_over-result.result in
    let task = capture_to_lines c.args.extra c.args.unfit c.run_over-result.new.skipped in
    let seen = Goes-reader_writer task g.R.Read.remaining g.W.Write.contents
    READ_COUNT_LIMIT _ _ _ c.run_over-result.ensures.runs in
    let reader = seen.0 in
    let writer = seen.1 in
    let known = goes_end task cause READ_COUNT_LIMIT _ _ result seen.2 in
    search rules

pub returns-clause-bytes : goal.returns-clause-bytes
returns-clause-bytes g c =
    let result = c.run_over-result.result in
    let task = capture_to_lines c.args.extra c.args.unfit c.run_over-result.new.skipped in
    let seen = Goes-reader_writer task g.R.Read.remaining g.W.Write.contents
    READ_COUNT_LIMIT _ _ _ c.run_over-result.ensures.runs in
    let reader = seen.0 in
    let writer = seen.1 in
    let known = goes_transfer task READ_COUNT_LIMIT _ _ (ending_of result) seen.2 in
    search rules

pub returns-clause-calls : goal.returns-clause-calls
returns-clause-calls g c =
    let task = capture_to_lines c.args.extra c.args.unfit c.run_over-result.new.skipped in
    let seen = Goes-reader_writer task g.R.Read.remaining g.W.Write.contents
    READ_COUNT_LIMIT _ _ _ c.run_over-result.ensures.runs in
    let reader = seen.0 in
    let writer = seen.1 in
    let runs = seen.2 in
    search rules

pub returns-clause-memory : goal.returns-clause-memory
returns-clause-memory g c is =
    let task = capture_to_lines c.args.extra c.args.unfit c.run_over-result.new.skipped in
    let seen = Goes-reader_writer task g.R.Read.remaining g.W.Write.contents
    READ_COUNT_LIMIT _ _ _ c.run_over-result.ensures.runs in
    let reader = seen.0 in
    let writer = seen.1 in
    let same = goes_memory task _ READ_COUNT_LIMIT _ _
    (λ reported read written out_of_memory. out_of_memory.0) (rw is at c.run_over-result.ensures.runs) in
    let none = (rw is at c.run_over-result.ensures.runs).output.2 in
    search rules

pub returns-clause-too_many : goal.returns-clause-too_many
returns-clause-too_many g c is =
    let task = capture_to_lines c.args.extra c.args.unfit c.run_over-result.new.skipped in
    let seen = Goes-reader_writer task g.R.Read.remaining g.W.Write.contents
    READ_COUNT_LIMIT _ _ _ c.run_over-result.ensures.runs in
    let reader = seen.0 in
    let writer = seen.1 in
    let known = goes_too_many task READ_COUNT_LIMIT _ _ (rw is at seen.2) in
    search rules

pub returns-clause-passed : goal.returns-clause-passed
returns-clause-passed g c =
    let task = capture_to_lines c.args.extra c.args.unfit c.run_over-result.new.skipped in
    let seen = Goes-reader_writer task g.R.Read.remaining g.W.Write.contents
    READ_COUNT_LIMIT _ _ _ c.run_over-result.ensures.runs in
    let reader = seen.0 in
    let writer = seen.1 in
    let known = passed_known g.R.Read.remaining g.W.Write.contents _ _ _ _
    c.run_over-result.ensures.passed in
    search rules
