use Rattle.captures.proofs.ComeBackLemmas.{lines_come_back}
use Rattle.captures.proofs.laws.lines_come_back.Goals as goal

pub returns : goal.returns
returns c = lines_come_back
