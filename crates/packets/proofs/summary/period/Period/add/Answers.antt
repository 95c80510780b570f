use Rattle.std.proofs.Common.{sym}
use Rattle.packets.proofs.PeriodLemmas.{earliest_of-end, latest_of-end}
use Rattle.packets.proofs.summary.period.Period.add.Goals as goal

pub returns : goal.returns
returns c = λ packets old. record {
  earliest = rw (c.min_with.ensures, old.earliest) (sym (earliest_of-end packets c.args.packet.now));
  latest = rw (c.max_with.ensures, old.latest) (sym (latest_of-end packets c.args.packet.now));
}
