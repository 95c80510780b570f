use Rattle.line_grammar.proofs.CommandLaws.{frame_lines_are_the_grammar}
use Rattle.line_grammar.proofs.laws.frame_lines_are_the_grammar.Goals as goal

pub returns : goal.returns
returns c = frame_lines_are_the_grammar
