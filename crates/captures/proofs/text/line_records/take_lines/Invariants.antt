use Rattle.std.proofs.Common.{◌+◌, ◌*◌, ◌≤◌, length, take}
use Rattle.captures.proofs.TextLemmas.{Taking}
use Rattle.captures.proofs.text.line_records.take_lines.Given as goal

abbrev pub invariant-lines : goal.invariant-lines
invariant-lines l = record {
  taking : Taking l.fn.time_unit l.bytes l.count l.rest (take l.used l.out);
  room : l.used + 2 * length l.rest ≤ length l.out;
  few : l.count + length l.rest ≤ length l.bytes;
}

abbrev pub decreases-lines : goal.decreases-lines
decreases-lines l = length l.rest
