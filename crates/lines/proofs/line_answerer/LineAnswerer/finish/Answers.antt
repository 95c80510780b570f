use Rattle.std.proofs.Common.{◌∙◌, sym, ◌++◌, [], subst, List, ℕ}
use Rattle.std.proofs.lemmas.Result.{err_from_is_err_and}
use Rattle.device_runs.specs.Writes.{Written}
use Rattle.device_runs.proofs.WriteLemmas.{Written-nil}
use Rattle.lines.proofs.Feeding.{serves_fails, serves_line}
use Rattle.lines.proofs.LineLemmas.{started_line, nothing_started}
use Rattle.lines.specs.Endings.{cause, ending_of}
use Rattle.lines.specs.Lines.{last_line}
use Rattle.lines.specs.LineAnswers.{answers_to_later}
use Rattle.lines.specs.Writes.{Serves}
use Rattle.lines.proofs.line_answerer.LineAnswerer.finish.Goals as goal

pub returns-then-not-self : goal.returns-then-not-self
returns-then-not-self g c earlier prefix started =
    subst (λ (l : List ℕ). Written g.D.Device.transition c.args.device.now
    (answers_to_later g.A.Answerer.meaning.answer earlier (last_line l)) c.args.device.now)
    (sym (nothing_started prefix (sym c.if-not-self.true ∙ started.begins)))
    (Written-nil g.D.Device.transition c.args.device.now)

pub returns-in_err-end_line : goal.returns-in_err-end_line
returns-in_err-end_line g c earlier prefix started =
    let exit = err_from_is_err_and c.from_residual.result c.from_residual.ensures.1 in
    rw (exit.1, exit.2)
    (subst (λ (ls : List (List ℕ)). Serves g.D.Device.transition g.A.Answerer.meaning
    c.args.device.now earlier ls (cause c.in_err-end_line.field-0.0) c.end_line.new.device)
    (sym (started_line prefix (sym c.if-not-self.false ∙ started.begins)))
    (serves_fails g.D.Device.transition g.A.Answerer.meaning c.args.device.now c.end_line.new.device
    earlier (prefix ++ []) c.args.self.now.answers c.end_line.new.self.answers c.requires.answers
    c.in_err-end_line.field-0.0 (c.in_err-end_line.ensures.gathers earlier prefix started)))

pub returns : goal.returns
returns g c earlier prefix started =
    subst (λ (ls : List (List ℕ)). Serves g.D.Device.transition g.A.Answerer.meaning
    c.args.device.now earlier ls (ending_of c.write_out.result) c.write_out.new.device)
    (sym (started_line prefix (sym c.if-not-self.false ∙ started.begins)))
    (serves_line g.D.Device.transition g.A.Answerer.meaning c.args.device.now c.end_line.new.device
    c.write_out.new.device earlier (prefix ++ []) c.args.self.now.answers
    c.end_line.new.self.answers
    c.requires.answers (ending_of c.write_out.result)
    (c.in_ok-end_line.ensures.gathers earlier prefix started) c.write_out.ensures.delivers)
