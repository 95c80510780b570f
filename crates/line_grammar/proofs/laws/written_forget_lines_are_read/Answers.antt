use Rattle.std.proofs.Common.{refl}
use Rattle.line_grammar.specs.Commands.{command_of}
use Rattle.line_grammar.proofs.WrittenLemmas.{written_forget-requests, written_forget-one_line}
use Rattle.line_grammar.proofs.laws.written_forget_lines_are_read.Goals as goal

pub returns-clause-requests : goal.returns-clause-requests
returns-clause-requests c = written_forget-requests

pub returns-clause-one_line : goal.returns-clause-one_line
returns-clause-one_line c = written_forget-one_line

pub returns-clause-worked : goal.returns-clause-worked
unfolding command_of
returns-clause-worked c = refl
