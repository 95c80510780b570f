use Rattle.captures.proofs.UnfitLemmas.{reported_whole_by_both}
use Rattle.captures.proofs.laws.reported_whole_by_both.Goals as goal

pub returns : goal.returns
returns c = reported_whole_by_both
