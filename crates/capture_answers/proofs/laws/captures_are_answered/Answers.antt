use Rattle.std.proofs.Common.{[], refl}
use Rattle.etherparse.specs.PoolCalls.{no_lists}
use Rattle.netlines.proofs.AnswerLemmas.{lists_after_lines-nil}
use Rattle.capture_answers.proofs.PlainLemmas.{plain_answered}
use Rattle.capture_answers.proofs.SpanLemmas.{spans_answered}
use Rattle.capture_answers.proofs.laws.captures_are_answered.Goals as goal

pub returns-clause-packets : goal.returns-clause-packets
returns-clause-packets c unfit bytes packets skipped are is =
    plain_answered packets (c.captured_packets_have_lines.ensures unfit bytes packets skipped are is)
    [] no_lists 1 lists_after_lines-nil refl

pub returns-clause-spans : goal.returns-clause-spans
returns-clause-spans c unfit bytes packets skipped seconds are is few =
    spans_answered seconds packets
    (c.captured_packets_have_lines.ensures unfit bytes packets skipped are is) few
