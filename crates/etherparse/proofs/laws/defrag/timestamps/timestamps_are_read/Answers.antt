use Rattle.std.specs.Prelude.{nat_eq}
use Rattle.etherparse.specs.IpDefragPool.{same_id}
use Rattle.etherparse.proofs.TimestampLemmas.{at_by, reassembly_shows_by}
use Rattle.etherparse.proofs.laws.defrag.timestamps.timestamps_are_read.Goals as goal

pub returns-clause-timestamp : goal.returns-clause-timestamp
returns-clause-timestamp g c read pool id = at_by read (same_id nat_eq) pool id

pub returns-clause-fragments : goal.returns-clause-fragments
returns-clause-fragments g c read rule pool id fs =
    reassembly_shows_by read (same_id nat_eq) rule pool id fs
