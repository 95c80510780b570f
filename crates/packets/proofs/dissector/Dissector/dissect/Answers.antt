use Rattle.packets.proofs.FragmentLemmas.{none_found}
use Rattle.packets.proofs.dissector.Dissector.dissect.Goals as goal

pub returns-in-Err-clause-answered : goal.returns-in-Err-clause-answered
returns-in-Err-clause-answered g c lists shows =
    none_found _ _ _ _ _ _ (c.take.ensures.answers lists shows) c.in-Err.is c.layers_in-layers.ensures

pub returns-in-Err-clause-started : goal.returns-in-Err-clause-started
returns-in-Err-clause-started g c lists started shows kept =
    c.in-Err.ensures.started lists started shows kept

pub returns-in-Err-clause-order : goal.returns-in-Err-clause-order
returns-in-Err-clause-order g c lists order shows has = c.in-Err.ensures.order lists order shows has
