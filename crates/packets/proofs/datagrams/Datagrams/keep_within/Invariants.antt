use Rattle.std.proofs.Common.{length}
use Rattle.etherparse.specs.PoolCalls.{Lists}
use Rattle.packets.specs.ReassemblyMemory.{Order, ShowsOrder, starts_of}
use Rattle.packets.specs.Started.{ShowsFragments}
use Rattle.packets.proofs.KeepLemmas.{Dropped}
use Rattle.packets.proofs.datagrams.Datagrams.keep_within.Given as goal

abbrev pub invariant-above : goal.invariant-above
invariant-above g l = record {
  dropped : (lists : Lists) (order : Order) → ShowsFragments l.fn.self lists → ShowsOrder l.fn.self order
      → Dropped l.fn.self l.fn.limit lists order l.self l.dropped;
}

abbrev pub decreases-above : goal.decreases-above
decreases-above g l = length (starts_of l.self)
