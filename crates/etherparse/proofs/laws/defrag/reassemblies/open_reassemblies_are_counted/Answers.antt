use Rattle.etherparse.proofs.OpenCount.{counted}
use Rattle.etherparse.proofs.laws.defrag.reassemblies.open_reassemblies_are_counted.Goals as goal

pub returns : goal.returns
returns c pool lists distinct shows =
    counted c.equal_names.ensures.components c.equal_names.ensures.same pool lists distinct shows
