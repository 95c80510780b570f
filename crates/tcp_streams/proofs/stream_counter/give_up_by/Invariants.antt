use Rattle.std.proofs.Common.{◌≡◌}
use Rattle.tcp_streams.specs.Following.{Connection, Follows}
use Rattle.tcp_streams.proofs.CountingLemmas.{GivesUp}
use Rattle.tcp_streams.proofs.stream_counter.give_up_by.Given as goal

abbrev pub invariant-gaps : goal.invariant-gaps
invariant-gaps l = record {
  given : (connection : Connection) → Follows l.fn.follower connection
      → GivesUp l.fn.follower.window connection l.direction l.number l.follower l.missing l.counter;
  window : l.follower.window ≡ l.fn.follower.window;
}
