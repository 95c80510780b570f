use Rattle.lines.proofs.Going.{numbers_fit}
use Rattle.lines.proofs.answer_runs.run_with.Goals as goal

pub run_where_numbers_fit-requires-clause-numbers : goal.run_where_numbers_fit-requires-clause-numbers
run_where_numbers_fit-requires-clause-numbers g c =
    numbers_fit g.D.Device.transition g.A.Answerer.meaning c.args.reads c.args.device.now
    c.requires.reads
