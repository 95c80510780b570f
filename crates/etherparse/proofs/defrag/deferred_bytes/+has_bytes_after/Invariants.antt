use Rattle.std.proofs.Common.{length}
use Rattle.etherparse.proofs.defrag.deferred_bytes.+has_bytes_after.Given as goal

abbrev pub decreases-has_bytes_after : goal.decreases-has_bytes_after
decreases-has_bytes_after l = length l.late.now
