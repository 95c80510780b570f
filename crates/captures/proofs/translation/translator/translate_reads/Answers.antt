use Rattle.std.proofs.Common.{rules, arith, ◌≡◌, ◌∙◌, ◌<◌, ◌≤◌, ◌+◌, ◌-◌, sym, ap, refl, subst, ℕ, List, take, drop}
use Rattle.std.proofs.Common.{length, length-take, length-append}
use Rattle.std.proofs.lemmas.Result.{err_from_is_err_and}
use borrow.Rule.Slice.PartMut.{put_mid}
use Rattle.captures.specs.declared.limits.TheConstants.{INPUT_CAPACITY}
use Rattle.captures.proofs.BufferLemmas.{some_read, read_nothing, moved_to_start}
use Rattle.captures.proofs.Translating.{Translated, translating_start, header_stops, translating_more}
use Rattle.captures.proofs.Translating.{translating_stops, translating_refused, translating_fails, finish_stops}
use Rattle.captures.proofs.Translating.{finish_ends, translating_all, translating_by}
use Rattle.captures.proofs.translation.translator.translate_reads.Goals as goal

pub returns-in_err-write_whole-clause-ends : goal.returns-in_err-write_whole-clause-ends
returns-in_err-write_whole-clause-ends g c =
    let exit = err_from_is_err_and c.from_residual.result c.from_residual.ensures.1 in
    rw (exit.1, exit.2)
    (header_stops (g.T.Translator.task c.args.translator.now) g.D.Device.transition _
    c.args.reads c.args.device.now c.write_whole.new.device c.args.header.now c.requires.begins
    c.in_err-write_whole.field-0.0 c.in_err-write_whole.ensures)

pub reads-init : goal.reads-init
reads-init g c = record {
  translated = translating_start (g.T.Translator.task c.args.translator.now)
      g.D.Device.transition _ c.args.device.now c.write_whole.new.device c.args.header.now
      c.requires.begins c.in_ok-write_whole.ensures;
  room = let size = c.requires.input in omega arith;
  output = c.requires.output;
  size = c.requires.begins.room;
  kept = refl;
}

pub returns-in-Err-clause-ends : goal.returns-in-Err-clause-ends
returns-in-Err-clause-ends g c =
    let task = g.T.Translator.task c.reads.translator in
    let transition = g.D.Device.transition in
    let t = c.reads.invariant.translated.translating in
    let room = c.reads.invariant.room in
    let left = c.reads.left in
    let input = c.reads.input in
    let requested : ℕ = c.min-end.result - left in
    let end = c.min-end.ensures in
    let some : 0 < length (take requested (drop left input)) = search rules in
    translating_fails task transition t c.reads-test.true c.requires.most
    c.reads.invariant.translated.full (c.in-Err.ensures.call some)

pub returns-in_err-write_whole-2-clause-ends : goal.returns-in_err-write_whole-2-clause-ends
returns-in_err-write_whole-2-clause-ends g c =
    let due = c.requires.due c.reads.translator c.finish-finished.new.self
    c.finish-finished.ensures.kept in
    let room = c.reads.invariant.room in
    let end = c.min-end.ensures in
    let some : 0 < length (take (c.min-end.result - c.reads.left) (drop c.reads.left c.reads.input)) =
    search rules in
    let same = read_nothing c.reads.input c.read_some.new.buf c.reads.left
    (c.min-end.result - c.reads.left) (omega arith) in
    let exit = err_from_is_err_and c.from_residual-in_err-write_whole-2.result
    c.from_residual-in_err-write_whole-2.ensures.1 in
    rw (exit.1, exit.2) (finish_stops _ _
    (translating_by due c.reads.invariant.translated.translating)
    c.reads-test.true c.requires.most (ap (λ n. take n c.read_some.new.buf) c.if-given-eq0.true)
    (c.in-Ok.ensures.call some) same c.finish-finished.ensures.finishes
    c.in_err-write_whole-2.field-0.0 c.in_err-write_whole-2.ensures)

pub returns-in-Ok-result-clause-ends : goal.returns-in-Ok-result-clause-ends
returns-in-Ok-result-clause-ends g c =
    let due = c.requires.due c.reads.translator c.finish-finished.new.self
    c.finish-finished.ensures.kept in
    let room = c.reads.invariant.room in
    let end = c.min-end.ensures in
    let some : 0 < length (take (c.min-end.result - c.reads.left) (drop c.reads.left c.reads.input)) =
    search rules in
    let same = read_nothing c.reads.input c.read_some.new.buf c.reads.left
    (c.min-end.result - c.reads.left) (omega arith) in
    rw c.in-Ok-result.is at (finish_ends _ _
    (translating_by due c.reads.invariant.translated.translating)
    c.reads-test.true c.requires.most (ap (λ n. take n c.read_some.new.buf) c.if-given-eq0.true)
    (c.in-Ok.ensures.call some) same c.finish-finished.ensures.finishes
    c.in_ok-write_whole-2.ensures)

pub returns-in-Err-result-clause-ends : goal.returns-in-Err-result-clause-ends
returns-in-Err-result-clause-ends g c =
    let due = c.requires.due c.reads.translator c.finish-finished.new.self
    c.finish-finished.ensures.kept in
    let room = c.reads.invariant.room in
    let end = c.min-end.ensures in
    let some : 0 < length (take (c.min-end.result - c.reads.left) (drop c.reads.left c.reads.input)) =
    search rules in
    let same = read_nothing c.reads.input c.read_some.new.buf c.reads.left
    (c.min-end.result - c.reads.left) (omega arith) in
    rw c.from.ensures (rw c.in-Err-result.is at (finish_ends _ _
    (translating_by due c.reads.invariant.translated.translating)
    c.reads-test.true c.requires.most (ap (λ n. take n c.read_some.new.buf) c.if-given-eq0.true)
    (c.in-Ok.ensures.call some) same c.finish-finished.ensures.finishes
    c.in_ok-write_whole-2.ensures))

pub returns-in_err-write_whole-3-clause-ends : goal.returns-in_err-write_whole-3-clause-ends
returns-in_err-write_whole-3-clause-ends g c =
    let due = c.requires.due c.reads.translator c.translate-taken.new.self
    c.translate-taken.ensures.kept in
    let room = c.reads.invariant.room in
    let end = c.min-end.ensures in
    let some : 0 < length (take (c.min-end.result - c.reads.left) (drop c.reads.left c.reads.input)) =
    search rules in
    let read = some_read c.reads.input c.read_some.new.buf c.reads.left
    (c.min-end.result - c.reads.left) c.in-Ok.given (omega arith) (search rules) (omega arith)
    c.in-Ok.ensures.bound.0 (omega (arith, c.if-given-eq0.false)) in
    let exit = err_from_is_err_and c.from_residual-in_err-write_whole-3.result
    c.from_residual-in_err-write_whole-3.ensures.1 in
    rw (exit.1, exit.2) (translating_stops _ _
    (translating_by due c.reads.invariant.translated.translating)
    c.reads-test.true c.requires.most (c.in-Ok.ensures.call some) read.size
    (due.room ∙ c.reads.invariant.size) read.some read.prefix c.translate-taken.ensures.translates
    c.in_err-write_whole-3.field-0.0 c.in_err-write_whole-3.ensures)

pub returns-in-Some-clause-ends : goal.returns-in-Some-clause-ends
returns-in-Some-clause-ends g c =
    let due = c.requires.due c.reads.translator c.translate-taken.new.self
    c.translate-taken.ensures.kept in
    let room = c.reads.invariant.room in
    let end = c.min-end.ensures in
    let some : 0 < length (take (c.min-end.result - c.reads.left) (drop c.reads.left c.reads.input)) =
    search rules in
    let read = some_read c.reads.input c.read_some.new.buf c.reads.left
    (c.min-end.result - c.reads.left) c.in-Ok.given (omega arith) (search rules) (omega arith)
    c.in-Ok.ensures.bound.0 (omega (arith, c.if-given-eq0.false)) in
    rw c.from-in-Some.ensures (translating_refused _ _
    (translating_by due c.reads.invariant.translated.translating)
    c.reads-test.true c.requires.most (c.in-Ok.ensures.call some) read.size
    (due.room ∙ c.reads.invariant.size) read.some read.prefix c.translate-taken.ensures.translates
    c.in-Some.refusal c.in-Some.is c.in_ok-write_whole-3.ensures)

pub overflow_sub-left : goal.overflow_sub-left
overflow_sub-left g c =
    let n = c.reads.left + c.in-Ok.given in
    let input = put_mid c.reads.left (c.min-end.result - c.reads.left)
    c.reads.input c.read_some.new.buf in
    let parts = c.translate-taken.ensures.parts in
    omega (
      arith,
      length-take n input,
      ap length parts.1,
      length-append parts.0
          c.translate-taken.result.rest.now,
    )

pub reads-preserved : goal.reads-preserved
reads-preserved g c =
    let due = c.requires.due c.reads.translator c.translate-taken.new.self
    c.translate-taken.ensures.kept in
    let room = c.reads.invariant.room in
    let end = c.min-end.ensures in
    let some : 0 < length (take (c.min-end.result - c.reads.left) (drop c.reads.left c.reads.input)) =
    search rules in
    let read = some_read c.reads.input c.read_some.new.buf c.reads.left
    (c.min-end.result - c.reads.left) c.in-Ok.given (omega arith) (search rules) (omega arith)
    c.in-Ok.ensures.bound.0 (omega (arith, c.if-given-eq0.false)) in
    let left = c.reads.left in
    let requested : ℕ = c.min-end.result - left in
    let rest = c.translate-taken.result.rest.now in
    let filled = put_mid left requested c.reads.input c.read_some.new.buf in
    let whole : left + c.in-Ok.given ≤ length filled = search rules in
    let moved = moved_to_start filled c.copy_within.new.self c.translate-taken.ensures.parts.0 rest
    (left + c.in-Ok.given) whole c.translate-taken.ensures.parts.1
    c.copy_within.ensures.after in
    let same : length c.copy_within.new.self ≡ INPUT_CAPACITY = search rules in
    record {
      translated =
          subst (λ (l : List ℕ). Translated (g.T.Translator.task c.translate-taken.new.self)
          g.D.Device.transition (g.T.Translator.shows c.translate-taken.new.self)
          (c.reads.counter + 1) c.args.device.now c.write_whole-in-reads.new.device l)
          (sym moved)
          (translating_more _ _ (translating_by due c.reads.invariant.translated.translating)
          c.reads-test.true c.requires.most (c.in-Ok.ensures.call some) read.size
          (due.room ∙ c.reads.invariant.size) read.some read.prefix
          c.translate-taken.ensures.translates c.in_default.is c.in_ok-write_whole-3.ensures);
      room = let few = c.translate-taken.ensures.room c.in_default.is in omega arith;
      output =
          let kept = c.make_usable-in-reads.ensures.capacity in
          let before = c.reads.invariant.output in omega arith;
      size = due.room ∙ c.reads.invariant.size;
      kept = c.translate-taken.ensures.kept ∙ c.reads.invariant.kept;
    }

pub returns-clause-ends : goal.returns-clause-ends
returns-clause-ends g c =
    let all : c.reads.counter ≡ c.args.reads = omega arith in
    let task = g.T.Translator.task c.reads.translator in
    let transition = g.D.Device.transition in
    let shown = g.T.Translator.shows c.reads.translator in
    let held = take c.reads.left c.reads.input in
    translating_all task transition shown c.args.reads c.args.device.now c.reads.device held
    (subst (λ (n : ℕ). Translated task transition shown n c.args.device.now c.reads.device held)
    all c.reads.invariant.translated)
