use Rattle.etherparse.proofs.StoredOrder.{goes_last}
use Rattle.etherparse.proofs.defrag.stored_fragment.search.Goals as goal

pub returns-then-stored_fragments-len-clause-position : goal.returns-then-stored_fragments-len-clause-position
returns-then-stored_fragments-len-clause-position c =
    goes_last c.args.stored_fragments.now c.args.stored_fragment _ c.if-len-gt0.true c.if-stored_fragments-len.true
