use Rattle.etherparse.proofs.TimestampLemmas.{processed_by}
use Rattle.etherparse.proofs.laws.defrag.timestamps.processed_packets_are_read.Goals as goal

pub returns : goal.returns
returns g c = processed_by
