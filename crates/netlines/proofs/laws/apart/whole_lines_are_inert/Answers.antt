use Rattle.netlines.proofs.InertLemmas.{whole_inert}
use Rattle.netlines.proofs.laws.apart.whole_lines_are_inert.Goals as goal

pub returns : goal.returns
returns c earlier line channel frame addresses number bytes message requested read =
    whole_inert earlier line channel frame addresses number bytes message requested read
