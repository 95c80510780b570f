use Rattle.std.proofs.Common.{◌≡◌, ◌+◌, ◌*◌, ◌≤◌, length, take}
use Rattle.captures.proofs.UnitLemmas.{Reported}
use Rattle.captures.proofs.translation.units.take_units.Given as goal

abbrev pub invariant-lines : goal.invariant-lines
invariant-lines l = record {
  reported : Reported l.fn.ledger l.fn.state l.bytes l.packets.state l.packets.rest.now
      (take l.used l.out) l.noted;
  room : l.used + 5 * length l.packets.rest.now ≤ length l.out;
  extra : l.noted.extra ≡ l.fn.ledger.extra;
}

abbrev pub decreases-lines : goal.decreases-lines
decreases-lines l = length l.packets.rest.now
