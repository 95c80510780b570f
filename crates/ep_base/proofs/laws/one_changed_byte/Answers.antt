use Rattle.ep_base.proofs.Changes.{one_changed_byte}
use Rattle.ep_base.proofs.laws.one_changed_byte.Goals as goal

pub returns : goal.returns
returns c = one_changed_byte
