use Rattle.captures.proofs.ComeBackLemmas.{timed_lines_come_back}
use Rattle.captures.proofs.laws.timed_lines_come_back.Goals as goal

pub returns : goal.returns
returns c = timed_lines_come_back
