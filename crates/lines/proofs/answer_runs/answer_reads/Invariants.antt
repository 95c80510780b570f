use Rattle.lines.specs.LineAnswers.{Started}
use Rattle.lines.proofs.Going.{Answered}
use Rattle.lines.proofs.answer_runs.answer_reads.Given as goal

abbrev pub invariant-reads : goal.invariant-reads
invariant-reads g l = Answered g.D.Device.transition g.A.Answerer.meaning l.counter
    l.initial.device l.device
    (Started (g.A.Answerer.shows l.lines.answerer) l.lines.count l.lines.has_started) l.lines.answers
