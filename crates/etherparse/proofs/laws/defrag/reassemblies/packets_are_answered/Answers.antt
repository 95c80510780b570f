use Rattle.etherparse.proofs.CallLemmas.{packet_answered}
use Rattle.etherparse.proofs.laws.defrag.reassemblies.packets_are_answered.Goals as goal

pub returns : goal.returns
returns c old new class time channel result p sound fault lists shows =
    packet_answered c.equal_names.ensures.components c.equal_names.ensures.same old new lists shows time
    channel fault class result p sound
