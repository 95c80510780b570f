use Rattle.std.proofs.Common.{rules, arith, ◌≡◌, ◌<◌, ◌≤◌, ap, subst, ℕ, take, length}
use Rattle.std.proofs.lemmas.Result.{err_from_is_err_and}
use Rattle.lines.specs.Endings.{ending_of}
use Rattle.lines.specs.Lines.{split, ended_lines_of}
use Rattle.lines.specs.LineAnswers.{Started}
use Rattle.lines.specs.declared.limits.TheConstants.{READ_SIZE_LIMIT}
use Rattle.lines.proofs.Going.{Answered, answered_start, answered_more, answered_stops, answered_end, answered_fails}
use Rattle.lines.proofs.Going.{answered_all, answered_number, answered_numbers}
use Rattle.lines.proofs.answer_runs.answer_reads.Goals as goal

pub reads-init : goal.reads-init
reads-init g c = answered_start g.D.Device.transition g.A.Answerer.meaning c.args.device.now _
    c.args.lines.now.answers c.requires.started c.requires.answers

pub returns-in-Ok-eq0 : goal.returns-in-Ok-eq0
returns-in-Ok-eq0 g c =
    let answered = c.reads.invariant in
    let some : 0 < length c.reads.chunk = search rules in
    answered_end g.D.Device.transition g.A.Answerer.meaning c.reads.counter c.args.device.now
    c.reads.device _ _ _ _ answered c.args.reads c.reads-test.true
    (take c.in-Ok-eq0.field-0 c.read_some.new.buf)
    (ap (λ n. take n c.read_some.new.buf) c.in-Ok-eq0.field-0-test)
    (c.in-Ok-eq0.ensures.call some) (ending_of c.finish.result)
    (c.finish.ensures (ended_lines_of answered.came) (split answered.came).rest answered.keeps)

pub finish-requires-clause-number : goal.finish-requires-clause-number
finish-requires-clause-number g c =
    let answered = c.reads.invariant in
    answered_number g.D.Device.transition g.A.Answerer.meaning c.reads.counter c.args.device.now
    c.reads.device c.reads.device c.reads.device _ _ answered c.args.reads c.reads-test.true
    c.requires.numbers c.reads.lines.count answered.keeps.counted

pub feed-requires-clause-numbers : goal.feed-requires-clause-numbers
feed-requires-clause-numbers g c =
    let answered = c.reads.invariant in
    let some : 0 < length c.reads.chunk = search rules in
    let given : 0 < length (take c.in-Ok.n c.read_some.new.buf) =
    omega (arith, c.in-Ok.ensures.bound.1, c.in-Ok.n-test.1) in
    let size : length (take c.in-Ok.n c.read_some.new.buf) ≤ READ_SIZE_LIMIT =
    omega (arith, c.in-Ok.ensures.bound.0, c.in-Ok.ensures.bound.1) in
    answered_numbers g.D.Device.transition g.A.Answerer.meaning c.reads.counter c.args.device.now
    c.reads.device _ c.reads.device _ _ answered
    (take c.in-Ok.n c.read_some.new.buf) (c.in-Ok.ensures.call some) size given c.args.reads
    c.reads-test.true c.requires.numbers c.reads.lines.count answered.keeps.counted

pub reads-preserved : goal.reads-preserved
reads-preserved g c =
    let answered = c.reads.invariant in
    let some : 0 < length c.reads.chunk = search rules in
    let earlier = ended_lines_of answered.came in
    let rest = (split answered.came).rest in
    let given : 0 < length (take c.in-Ok.n c.read_some.new.buf) =
    omega (arith, c.in-Ok.ensures.bound.1, c.in-Ok.n-test.1) in
    let size : length (take c.in-Ok.n c.read_some.new.buf) ≤ READ_SIZE_LIMIT =
    omega (arith, c.in-Ok.ensures.bound.0, c.in-Ok.ensures.bound.1) in
    answered_more g.D.Device.transition g.A.Answerer.meaning c.reads.counter c.args.device.now
    c.reads.device _ c.feed.new.device _ _ answered
    (take c.in-Ok.n c.read_some.new.buf) (c.in-Ok.ensures.call some) size given
    (c.in_ok-feed-in-Ok.ensures.serves earlier rest answered.keeps)
    (Started (g.A.Answerer.shows c.feed.new.self.answerer) c.feed.new.self.count
    c.feed.new.self.has_started) c.feed.new.self.answers
    (c.in_ok-feed-in-Ok.ensures.keeps earlier rest answered.keeps)
    c.in_ok-feed-in-Ok.ensures.answers

pub returns-in_err-feed-in-Ok : goal.returns-in_err-feed-in-Ok
returns-in_err-feed-in-Ok g c =
    let answered = c.reads.invariant in
    let some : 0 < length c.reads.chunk = search rules in
    let exit = err_from_is_err_and c.from_residual.result c.from_residual.ensures.1 in
    let given : 0 < length (take c.in-Ok.n c.read_some.new.buf) =
    omega (arith, c.in-Ok.ensures.bound.1, c.in-Ok.n-test.1) in
    let size : length (take c.in-Ok.n c.read_some.new.buf) ≤ READ_SIZE_LIMIT =
    omega (arith, c.in-Ok.ensures.bound.0, c.in-Ok.ensures.bound.1) in
    rw (exit.1, exit.2)
    (answered_stops g.D.Device.transition g.A.Answerer.meaning c.reads.counter c.args.device.now
    c.reads.device _ c.feed.new.device _ _ answered
    (take c.in-Ok.n c.read_some.new.buf) (c.in-Ok.ensures.call some) size given c.args.reads
    c.reads-test.true c.in_err-feed-in-Ok.field-0.0
    (c.in_err-feed-in-Ok.ensures.serves (ended_lines_of answered.came)
    (split answered.came).rest answered.keeps))

pub returns-in-Err : goal.returns-in-Err
returns-in-Err g c =
    let some : 0 < length c.reads.chunk = search rules in
    answered_fails g.D.Device.transition g.A.Answerer.meaning c.reads.counter c.args.device.now
    c.reads.device c.reads.device _ _ _ c.reads.invariant c.args.reads c.reads-test.true
    (c.in-Err.ensures.call some)

pub returns : goal.returns
returns g c =
    let all : c.reads.counter ≡ c.args.reads = omega arith in
    answered_all g.D.Device.transition g.A.Answerer.meaning c.args.reads
    c.args.device.now c.reads.device _ _
    (subst (λ (n : ℕ). Answered g.D.Device.transition g.A.Answerer.meaning n
    c.args.device.now c.reads.device
    (Started (g.A.Answerer.shows c.reads.lines.answerer) c.reads.lines.count c.reads.lines.has_started)
    c.reads.lines.answers) all c.reads.invariant)
