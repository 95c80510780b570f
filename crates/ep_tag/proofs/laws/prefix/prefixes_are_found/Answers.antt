use Rattle.ep_tag.proofs.Prefix.{takes_prefix}
use Rattle.ep_tag.proofs.laws.prefix.prefixes_are_found.Goals as goal

pub returns : goal.returns
returns c = takes_prefix
