use Rattle.std.proofs.Common.{List, ℕ}
use Rattle.std.specs.Io.KnownBytes.{Appends}
use Rattle.netlines.specs.Answers.{answers_of}
use Rattle.netlines.specs.TwoRuns.{AreIsolated}
use Rattle.netlines.proofs.WrittenLines.{on_both, runs_isolated}
use Rattle.netlines.proofs.pairs.two_runs.Goals as goal

pub returns : goal.returns
returns g c =
    let old = g.W.Write.contents c.args.writer.now in
    let new = g.W.Write.contents c.run-first.new.writer in
    let other_old = g.V.Write.contents c.args.other_writer.now in
    let other_new = g.V.Write.contents c.run-second.new.writer in
    on_both (λ (bytes : List ℕ). Appends old new (answers_of bytes))
    (λ (bytes : List ℕ). Appends other_old other_new (answers_of bytes))
    (λ (a b : List ℕ). AreIsolated a b old new other_old other_new) c.run-first.result
    c.run-second.result (g.R.Read.remaining c.args.reader.now)
    (g.Q.Read.remaining c.args.other_reader.now)
    (runs_isolated c.isolation.ensures.inputs old new other_old other_new) c.run-first.ensures.ok
    c.run-second.ensures.ok
