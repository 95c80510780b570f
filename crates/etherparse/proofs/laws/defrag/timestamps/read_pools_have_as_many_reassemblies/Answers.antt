use Rattle.std.specs.Prelude.{nat_eq}
use Rattle.etherparse.specs.IpDefragPool.{same_id}
use Rattle.etherparse.proofs.TimestampLemmas.{distinct_by, open_by}
use Rattle.etherparse.proofs.laws.defrag.timestamps.read_pools_have_as_many_reassemblies.Goals as goal

pub returns-clause-open : goal.returns-clause-open
returns-clause-open g c read pool = open_by read pool

pub returns-clause-names : goal.returns-clause-names
returns-clause-names g c read pool = distinct_by read (same_id nat_eq) pool
