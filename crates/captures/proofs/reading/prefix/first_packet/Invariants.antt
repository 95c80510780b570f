use Rattle.std.proofs.Common.{◌≤◌, [], length}
use Rattle.captures.specs.Units.{Passes}
use Rattle.captures.proofs.reading.prefix.first_packet.Given as goal

-- Units that hold no packet are passed.
abbrev pub invariant-units : goal.invariant-units
invariant-units l = record {
  passes : Passes l.fn.state l.bytes [] l.state l.rest;
  fits : length l.rest ≤ length l.bytes;
}

abbrev pub decreases-units : goal.decreases-units
decreases-units l = length l.rest
