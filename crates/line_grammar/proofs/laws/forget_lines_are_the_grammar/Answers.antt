use Rattle.line_grammar.proofs.CommandLaws.{forget_lines_are_the_grammar}
use Rattle.line_grammar.proofs.laws.forget_lines_are_the_grammar.Goals as goal

pub returns : goal.returns
returns c = forget_lines_are_the_grammar
