use Rattle.std.proofs.Common.{◌∙◌, subst, refl, List, ℕ}
use Rattle.std.proofs.lemmas.Result.{err_from_is_err_and}
use Rattle.device_runs.specs.Writes.{Written, Delivers}
use Rattle.lines.specs.Endings.{cause}
use Rattle.lines.proofs.WriteLemmas.{Left, Left-all, Left-none, Gathers-left, Gathers-memory, Gathers-stops}
use Rattle.lines.proofs.WriteLemmas.{cause_fails}
use Rattle.lines.proofs.answer_buffer.AnswerBuffer.push.Goals as goal
use Rattle.lines.proofs.answer_buffer.AnswerBuffer.push.Goals.{then-not-has_room+in_ok-write_out, else-not-has_room}

pub returns-in-Ok-clause-gathers : goal.returns-in-Ok-clause-gathers
returns-in-Ok-clause-gathers g c earlier line shows numbered =
    let transition = g.D.Device.transition in
    let left : Left transition c.args.device.now c.args.self.now c.if-not-has_room.self
    c.if-not-has_room.device =
    elim c.if-not-has_room.branch [
      | then-not-has_room+in_ok-write_out w ↦
          rw w.device-is (Left-all transition _ _ _ _ w.in_ok-write_out.ensures.delivers
          (w.self-is ∙ w.in_ok-write_out.ensures.empty))
      | else-not-has_room w ↦ rw w.device-is (Left-none transition _ _ _ w.self-is)
    ] in
    Gathers-left transition (g.A.Answerer.meaning.takes_memory earlier line) _ _ _ _
    (g.A.Answerer.meaning.answer earlier line) c.add.new.self left
    (c.in-Ok.ensures.answers earlier line shows numbered).0

pub returns-in_err-write_out-in-Err-clause-gathers : goal.returns-in_err-write_out-in-Err-clause-gathers
returns-in_err-write_out-in-Err-clause-gathers g c earlier line shows numbered =
    let transition = g.D.Device.transition in
    let left : Left transition c.args.device.now c.args.self.now c.if-not-has_room.self
    c.if-not-has_room.device =
    elim c.if-not-has_room.branch [
      | then-not-has_room+in_ok-write_out w ↦
          rw w.device-is (Left-all transition _ _ _ _ w.in_ok-write_out.ensures.delivers
          (w.self-is ∙ w.in_ok-write_out.ensures.empty))
      | else-not-has_room w ↦ rw w.device-is (Left-none transition _ _ _ w.self-is)
    ] in
    let exit = err_from_is_err_and c.from_residual-in_err-write_out-in-Err.result
    c.from_residual-in_err-write_out-in-Err.ensures.1 in
    let error = c.in_err-write_out-in-Err.field-0.0 in
    let stops = subst (λ (l : List ℕ). Delivers transition c.if-not-has_room.device l
    (cause error) c.write_out-in-Err.new.device) c.in-Err.ensures.err
    c.in_err-write_out-in-Err.ensures.delivers in
    rw (exit.1, exit.2) (Gathers-stops transition
    (g.A.Answerer.meaning.takes_memory earlier line) _ _ _ _ _
    (g.A.Answerer.meaning.answer earlier line) c.write_out-in-Err.new.self left
    (cause error) (cause_fails error) stops)

pub returns-in_ok-write_out-in-Err-clause-gathers : goal.returns-in_ok-write_out-in-Err-clause-gathers
returns-in_ok-write_out-in-Err-clause-gathers g c earlier line shows numbered =
    let transition = g.D.Device.transition in
    let left : Left transition c.args.device.now c.args.self.now c.if-not-has_room.self
    c.if-not-has_room.device =
    elim c.if-not-has_room.branch [
      | then-not-has_room+in_ok-write_out w ↦
          rw w.device-is (Left-all transition _ _ _ _ w.in_ok-write_out.ensures.delivers
          (w.self-is ∙ w.in_ok-write_out.ensures.empty))
      | else-not-has_room w ↦ rw w.device-is (Left-none transition _ _ _ w.self-is)
    ] in
    let written =
    subst (λ (l : List ℕ). Written transition c.if-not-has_room.device l
    c.write_out-in-Err.new.device) c.in-Err.ensures.err
    c.in_ok-write_out-in-Err.ensures.delivers in
    Gathers-memory transition _ _ _ _ _ _ (g.A.Answerer.meaning.answer earlier line)
    c.write_out-in-Err.new.self (c.in-Err.ensures.answers earlier line shows numbered) left written

pub returns-in_err-write_out-clause-gathers : goal.returns-in_err-write_out-clause-gathers
returns-in_err-write_out-clause-gathers g c earlier line shows numbered =
    let transition = g.D.Device.transition in
    let exit = err_from_is_err_and c.from_residual.result c.from_residual.ensures.1 in
    let error = c.in_err-write_out.field-0.0 in
    rw (exit.1, exit.2) (Gathers-stops transition
    (g.A.Answerer.meaning.takes_memory earlier line) _ _ _ _ _
    (g.A.Answerer.meaning.answer earlier line) c.write_out.new.self
    (Left-none transition _ _ _ refl) (cause error)
    (cause_fails error) c.in_err-write_out.ensures.delivers)
