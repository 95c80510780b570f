use Rattle.packets.proofs.FragmentLemmas.{found_alike}
use Rattle.packets.proofs.datagrams.Datagrams.take_packet.Goals as goal

pub returns-in-Cut-clause-answers : goal.returns-in-Cut-clause-answers
returns-in-Cut-clause-answers g c lists shows =
    rw (found_alike c.args.layers.now c.take_fragment.result, ← c.in-Cut.ensures.class)
    (c.take_fragment.ensures.answers lists shows)
