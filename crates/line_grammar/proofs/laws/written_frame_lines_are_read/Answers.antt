use Rattle.line_grammar.proofs.WrittenLemmas.{written_frame-requests, written_frame-one_line}
use Rattle.line_grammar.proofs.laws.written_frame_lines_are_read.Goals as goal

pub returns-clause-requests : goal.returns-clause-requests
returns-clause-requests c = written_frame-requests

pub returns-clause-one_line : goal.returns-clause-one_line
returns-clause-one_line c = written_frame-one_line
