use Rattle.std.proofs.Common.{◌≡◌, false}
use Rattle.lines.specs.Sessions.{IsWrittenOut}
use Rattle.lines_tests.proofs.earlier_lines.answers_thousands_of_lines.Given as goal

abbrev pub invariant-loop-round : goal.invariant-loop-round
invariant-loop-round g l = (l.session.has_ended ≡ false) × IsWrittenOut l.session
