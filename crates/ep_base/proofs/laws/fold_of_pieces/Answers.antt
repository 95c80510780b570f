use Rattle.ep_base.proofs.Chunks.{fold_of_pieces}
use Rattle.ep_base.proofs.laws.fold_of_pieces.Goals as goal

pub returns : goal.returns
returns c = fold_of_pieces
