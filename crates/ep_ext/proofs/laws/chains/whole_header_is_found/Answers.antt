use Rattle.ep_ext.proofs.Prefixes.{prefix_again, eight}
use Rattle.ep_ext.proofs.laws.chains.whole_header_is_found.Goals as goal

pub returns-clause-found : goal.returns-clause-found
returns-clause-found c = prefix_again

pub returns-clause-least : goal.returns-clause-least
returns-clause-least c = eight
