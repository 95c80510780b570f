use Rattle.line_grammar.proofs.WrittenTimes.{written_frame-timed, written_timed_frame-one_line}
use Rattle.line_grammar.proofs.WrittenTimes.{written_timed_frame-timed}
use Rattle.line_grammar.proofs.laws.written_times_are_read.Goals as goal

pub returns-clause-timed : goal.returns-clause-timed
returns-clause-timed c = written_timed_frame-timed

pub returns-clause-untimed : goal.returns-clause-untimed
returns-clause-untimed c = written_frame-timed

pub returns-clause-one_line : goal.returns-clause-one_line
returns-clause-one_line c = written_timed_frame-one_line
