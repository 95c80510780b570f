use Rattle.std.proofs.Common.{ℕ, List, Option, Result, rules}
use Rattle.device_runs.specs.Known.{KnownCall, known_of}
use Rattle.device_runs.proofs.KnownLemmas.{Goes-reader_writer, goes_end, goes_transfer, goes_too_many}
use Rattle.netlines.specs.Answers.{frame_meaning}
use Rattle.netlines.specs.FrameRuns.{Runs, RunsWithin}
use Rattle.lines.specs.Endings.{cause, ending_of}
use Rattle.lines.specs.AnswerRuns.{answer_task}
use Rattle.lines.specs.declared.run_error.RunError.{RunError}
use Rattle.lines.proofs.Going.{runs_ok}
use Rattle.netlines.proofs.frames.run_frames.run_with_hasher.Goals as goal

-- all of it follows from the calls
runs_within : (limit : ℕ) (input input' output output' : Option (List ℕ)) (result : Result Unit RunError)
    → Runs KnownCall limit (known_of input output) (known_of input' output') result
    → RunsWithin limit input input' output output' result
runs_within limit input input' output output' result runs = record {
  ok = runs_ok frame_meaning limit _ _ result runs;
  end = goes_end (answer_task frame_meaning) cause limit _ _ result runs;
  bytes = goes_transfer (answer_task frame_meaning) limit _ _ (ending_of result) runs;
  calls = runs;
  too_many = λ is. goes_too_many (answer_task frame_meaning) limit _ _ (rw is at runs);
}

pub returns : goal.returns
returns g c =
    let seen = Goes-reader_writer (answer_task frame_meaning) g.R.Read.remaining
    g.W.Write.contents c.args.reads _ _ _ c.run_over_with_hasher-result.ensures in
    let reader = seen.0 in
    let writer = seen.1 in
    let within = runs_within c.args.reads _ _ _ _ _ seen.2 in
    search rules
