use Rattle.captures.proofs.TextAloneLemmas.{text_alone}
use Rattle.captures.proofs.laws.text_is_alone.Goals as goal

pub returns : goal.returns
returns c = text_alone
