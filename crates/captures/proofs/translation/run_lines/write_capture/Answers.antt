use Rattle.std.proofs.Common.{rules}
use Rattle.device_runs.proofs.KnownLemmas.{Goes-reader_writer, goes_memory, goes_end, goes_transfer, goes_too_many}
use Rattle.device_runs.specs.declared.limits.TheConstants.{READ_COUNT_LIMIT}
use Rattle.captures.specs.Endings.{cause, ending_of}
use Rattle.captures.specs.Texts.{lines_to_capture}
use Rattle.captures.proofs.KnownLemmas.{writes_ok}
use Rattle.captures.proofs.translation.run_lines.write_capture.Goals as goal

pub returns-clause-ok : goal.returns-clause-ok
returns-clause-ok g c =
    let result = c.write_capture_over-result.result in
    let seen = Goes-reader_writer (lines_to_capture c.args.time_unit) g.R.Read.remaining g.W.Write.contents
    READ_COUNT_LIMIT _ _ _ c.write_capture_over-result.ensures in
    let reader = seen.0 in
    let writer = seen.1 in
    let known = writes_ok c.args.time_unit READ_COUNT_LIMIT _ _ result seen.2 in
    search rules

pub returns-clause-end : goal.returns-clause-end
returns-clause-end g c =
    let result = c.write_capture_over-result.result in
    let seen = Goes-reader_writer (lines_to_capture c.args.time_unit) g.R.Read.remaining g.W.Write.contents
    READ_COUNT_LIMIT _ _ _ c.write_capture_over-result.ensures in
    let reader = seen.0 in
    let writer = seen.1 in
    let known = goes_end (lines_to_capture c.args.time_unit) cause READ_COUNT_LIMIT _ _ result seen.2 in
    search rules

pub returns-clause-bytes : goal.returns-clause-bytes
returns-clause-bytes g c =
    let result = c.write_capture_over-result.result in
    let seen = Goes-reader_writer (lines_to_capture c.args.time_unit) g.R.Read.remaining g.W.Write.contents
    READ_COUNT_LIMIT _ _ _ c.write_capture_over-result.ensures in
    let reader = seen.0 in
    let writer = seen.1 in
    let known = goes_transfer (lines_to_capture c.args.time_unit) READ_COUNT_LIMIT _ _ (ending_of result) seen.2 in
    search rules

pub returns-clause-calls : goal.returns-clause-calls
returns-clause-calls g c =
    let seen = Goes-reader_writer (lines_to_capture c.args.time_unit) g.R.Read.remaining g.W.Write.contents
    READ_COUNT_LIMIT _ _ _ c.write_capture_over-result.ensures in
    let reader = seen.0 in
    let writer = seen.1 in
    let runs = seen.2 in
    search rules

pub returns-clause-memory : goal.returns-clause-memory
returns-clause-memory g c is =
    let seen = Goes-reader_writer (lines_to_capture c.args.time_unit) g.R.Read.remaining g.W.Write.contents
    READ_COUNT_LIMIT _ _ _ c.write_capture_over-result.ensures in
    let reader = seen.0 in
    let writer = seen.1 in
    let same = goes_memory (lines_to_capture c.args.time_unit) _ READ_COUNT_LIMIT _ _
    (λ reported read written out_of_memory. out_of_memory.0) (rw is at c.write_capture_over-result.ensures) in
    search rules

pub returns-clause-too_many : goal.returns-clause-too_many
returns-clause-too_many g c is =
    let seen = Goes-reader_writer (lines_to_capture c.args.time_unit) g.R.Read.remaining g.W.Write.contents
    READ_COUNT_LIMIT _ _ _ c.write_capture_over-result.ensures in
    let reader = seen.0 in
    let writer = seen.1 in
    let known = goes_too_many (lines_to_capture c.args.time_unit) READ_COUNT_LIMIT _ _ (rw is at seen.2) in
    search rules
