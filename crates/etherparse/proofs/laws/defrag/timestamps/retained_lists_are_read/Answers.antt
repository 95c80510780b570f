use Rattle.etherparse.proofs.TimestampLemmas.{lists_from}
use Rattle.etherparse.proofs.laws.defrag.timestamps.retained_lists_are_read.Goals as goal

pub returns : goal.returns
returns g c = lists_from
