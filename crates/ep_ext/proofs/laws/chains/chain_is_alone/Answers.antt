use Rattle.ep_ext.proofs.Rows.{chain_alone}
use Rattle.ep_ext.proofs.laws.chains.chain_is_alone.Goals as goal

pub returns : goal.returns
returns c = chain_alone
