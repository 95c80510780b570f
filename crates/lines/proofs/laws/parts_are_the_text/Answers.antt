use Rattle.lines.proofs.SplitLaws.{parts_are_the_text}
use Rattle.lines.proofs.laws.parts_are_the_text.Goals as goal

pub returns : goal.returns
returns c = parts_are_the_text
