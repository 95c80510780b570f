use Rattle.std.proofs.Common.{◌≡◌, ◌++◌, ◌+◌, ◌-◌, ◌∷◌, ◌∙◌, sym, ap, subst, take, drop, length, get_or, List, [], ℕ}
use Rattle.std.proofs.Common.{eqb-true, arith, length-drop}
use Rattle.std.proofs.lemmas.Result.{err_from_is_err_and}
use Rattle.lines.proofs.Feeding.{Fed, fed_start, fed_line, fed_fails, fed_written, fed_started, found_end, found_none}
use Rattle.lines.proofs.Feeding.{after_line}
use Rattle.lines.proofs.LineLemmas.{on_ok}
use Rattle.device_runs.specs.Endings.{Done}
use Rattle.device_runs.specs.Writes.{Delivers}
use Rattle.lines.specs.Endings.{cause, ending_of}
use Rattle.lines.specs.Writes.{Gathers}
use Rattle.lines.proofs.line_answerer.LineAnswerer.feed.Goals as goal

pub lines-init : goal.lines-init
lines-init g c = record {
  fed = λ earlier start keeps.
      fed_start g.D.Device.transition g.A.Answerer.meaning c.args.device.now earlier start
      c.args.chunk.now c.args.self.now.answers
      c.args.self.now.count c.args.self.now.has_started (g.A.Answerer.shows c.args.self.now.answerer) keeps
      c.requires.answers;
  few = omega arith;
}

pub end_line-requires : goal.end_line-requires
end_line-requires g c =
    let few = c.lines.invariant.few in
    let most = c.requires.numbers in
    omega (arith, c.in-Some.ensures.0.high)

pub returns-in_err-end_line-clause-serves : goal.returns-in_err-end_line-clause-serves
returns-in_err-end_line-clause-serves g c earlier start keeps =
    let transition = g.D.Device.transition in
    let m = g.A.Answerer.meaning in
    let fed = c.lines.invariant.fed earlier start keeps in
    let rest = c.lines.rest.now in
    let n = c.in-Some.end in
    let found = c.in-Some.ensures in
    let exit = err_from_is_err_and c.from_residual.result c.from_residual.ensures.1 in
    let fails = subst (λ (l : List ℕ). Gathers transition
    (m.takes_memory (earlier ++ fed.lines) (fed.started ++ l)) c.lines.device
    c.lines.self.answers (m.answer (earlier ++ fed.lines) (fed.started ++ l))
    (cause c.in_err-end_line.field-0.0) c.end_line.new.self.answers c.end_line.new.device)
    {y = take n rest} c.split_at.ensures.front
    (c.in_err-end_line.ensures.gathers (earlier ++ fed.lines) fed.started fed.keeps) in
    rw (exit.1, exit.2)
    (fed_fails transition m c.args.device.now c.lines.device c.end_line.new.device earlier _
    rest _ _ _ (g.A.Answerer.shows c.lines.self.answerer) n fed found.0.high
    (eqb-true (get_or rest n 0) 10 found.1)
    (found_end rest n found.0) c.in_err-end_line.field-0.0 c.end_line.new.self.answers fails)

pub lines-preserved : goal.lines-preserved
lines-preserved g c =
    let transition = g.D.Device.transition in
    let m = g.A.Answerer.meaning in
    let rest = c.lines.rest.now in
    let n = c.in-Some.end in
    let found = c.in-Some.ensures in
    let next = take (length c.split_at.result.1.now - 1) (drop 1 c.split_at.result.1.now) in
    let after : next ≡ drop (n + 1) rest =
    ap (λ (l : List ℕ). take (length l - 1) (drop 1 l)) {y = drop n rest}
    c.split_at.ensures.back ∙ after_line rest n found.0.high in
    let prefix = c.split_at.ensures.front in
    record {
      fed = λ earlier start keeps.
          let fed = c.lines.invariant.fed earlier start keeps in
          let more = subst (λ (l : List ℕ). Gathers transition
          (m.takes_memory (earlier ++ fed.lines) (fed.started ++ l)) c.lines.device
          c.lines.self.answers (m.answer (earlier ++ fed.lines) (fed.started ++ l))
          Done c.end_line.new.self.answers c.end_line.new.device) {y = take n rest} prefix
          (c.in_ok-end_line.ensures.gathers (earlier ++ fed.lines) fed.started fed.keeps) in
          let shows = subst (λ (l : List ℕ). g.A.Answerer.shows c.end_line.new.self.answerer
          ((earlier ++ fed.lines) ++ (fed.started ++ l) ∷ []) []) {y = take n rest} prefix
          (c.in_ok-end_line.ensures.shows (earlier ++ fed.lines) fed.started fed.keeps) in
          subst (λ (l : List ℕ). Fed transition m c.args.device.now earlier
          (start ++ c.args.chunk.now) l c.end_line.new.self.answers
          c.end_line.new.self.count c.end_line.new.self.has_started (g.A.Answerer.shows c.end_line.new.self.answerer)
          c.end_line.new.device) (sym after)
          (fed_line transition m c.args.device.now c.lines.device c.end_line.new.device earlier _
          rest _
          _ _ (g.A.Answerer.shows c.lines.self.answerer) n fed found.0.high
          (eqb-true (get_or rest n 0) 10 found.1)
          (found_end rest n found.0) c.end_line.new.self.answers more c.end_line.new.self.count
          c.end_line.ensures.count
          (g.A.Answerer.shows c.end_line.new.self.answerer) shows c.end_line.new.self.has_started
          c.end_line.ensures.started);
      few =
          let few = c.lines.invariant.few in
          let count = c.end_line.ensures.count in
          let left = ap length after in
          let size = length-drop (n + 1) rest in
          omega (arith, found.0.high);
    }

pub returns-clause-serves : goal.returns-clause-serves
returns-clause-serves g c earlier start keeps =
    let fed = c.lines.invariant.fed earlier start keeps in
    fed_written g.D.Device.transition g.A.Answerer.meaning c.args.device.now c.lines.device earlier
    _ c.lines.rest.now _ _ _ (g.A.Answerer.shows c.lines.self.answerer) fed
    (found_none c.lines.rest.now c.in_default.ensures) c.write_out.new.device
    (ending_of c.write_out.result)
    (subst (λ (w : List ℕ). Delivers g.D.Device.transition c.lines.device w
    (ending_of c.write_out.result) c.write_out.new.device) c.begin.ensures.answers
    c.write_out.ensures.delivers)

pub returns-clause-keeps : goal.returns-clause-keeps
returns-clause-keeps g c earlier start keeps =
    let fed = c.lines.invariant.fed earlier start keeps in
    let none = found_none c.lines.rest.now c.in_default.ensures in
    on_ok c.write_out.result
    (fed_started g.D.Device.transition g.A.Answerer.meaning c.args.device.now c.lines.device earlier
    _ c.lines.rest.now _ _ _ (g.A.Answerer.shows c.lines.self.answerer) fed none
    _ _ _ (c.begin.ensures.started (earlier ++ fed.lines) fed.started fed.keeps none))
