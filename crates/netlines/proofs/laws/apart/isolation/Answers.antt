use Rattle.netlines.proofs.AloneLemmas.{isolated, isolated_alone}
use Rattle.netlines.proofs.ChannelLemmas.{apart_by_channel}
use Rattle.netlines.proofs.laws.apart.isolation.Goals as goal

pub returns-clause-inputs : goal.returns-clause-inputs
returns-clause-inputs c name channel lines others is =
    isolated c.equal_names.ensures.same name channel lines others is

pub returns-clause-alone : goal.returns-clause-alone
returns-clause-alone c name channel lines bad is_bad =
    isolated_alone c.equal_names.ensures.same name channel bad is_bad lines

pub returns-clause-channels : goal.returns-clause-channels
returns-clause-channels c channel lines none = apart_by_channel channel lines none
