use Rattle.std.proofs.Common.{Some, Ok, Err, arith}
use Rattle.device_runs.specs.Known.{KnownCall, known_of}
use Rattle.device_runs.proofs.KnownLemmas.{Goes-map, Makes-map}
use Rattle.lines.specs.Endings.{ending_of}
use Rattle.lines.specs.Known.{MemoryCall}
use Rattle.lines.specs.AnswerRuns.{answer_task}
use Rattle.lines.specs.declared.in_memory.TextDevice.{TextDevice}
use Rattle.lines.proofs.MemoryLemmas.{memory_fits, memory_ok, memory_read, memory_write_zero, memory_too_many}
use Rattle.lines.proofs.in_memory.answers_by.Goals as goal

pub run_where_numbers_fit-requires-clause-numbers : goal.run_where_numbers_fit-requires-clause-numbers
run_where_numbers_fit-requires-clause-numbers g c new calls made each few =
    memory_fits c.args.text.now new.input.now _ new.output.items calls
    (Makes-map _ KnownCall (λ (s : TextDevice). known_of (Some s.input.now) (Some s.output.items))
    (λ s t call h. h.0) _ new calls made) (omega arith)

pub unreachable-requires : goal.unreachable-requires
unreachable-requires g c =
    let runs = Goes-map (answer_task g.A.Answerer.meaning) _ MemoryCall
    (λ (s : TextDevice). known_of (Some s.input.now) (Some s.output.items))
    (λ s t call h. h) _ _ _ (ending_of (Err c.in-Err.error)) c.in-Err.ensures in
    memory_read g.A.Answerer.meaning _ _ _ c.in-Err.error runs c.in-Read.is

pub unreachable-requires-in-WriteZero : goal.unreachable-requires-in-WriteZero
unreachable-requires-in-WriteZero g c =
    let runs = Goes-map (answer_task g.A.Answerer.meaning) _ MemoryCall
    (λ (s : TextDevice). known_of (Some s.input.now) (Some s.output.items))
    (λ s t call h. h) _ _ _ (ending_of (Err c.in-Err.error)) c.in-Err.ensures in
    memory_write_zero g.A.Answerer.meaning _ _ _ c.in-Err.error runs c.in-WriteZero.is

pub unreachable-requires-in-TooManyReads : goal.unreachable-requires-in-TooManyReads
unreachable-requires-in-TooManyReads g c =
    let runs = Goes-map (answer_task g.A.Answerer.meaning) _ MemoryCall
    (λ (s : TextDevice). known_of (Some s.input.now) (Some s.output.items))
    (λ s t call h. h) _ _ _ (ending_of (Err c.in-Err.error)) c.in-Err.ensures in
    memory_too_many g.A.Answerer.meaning c.args.text.now c.new.result.items _ c.in-Err.error runs c.in-TooManyReads.is

pub returns-in-Ok : goal.returns-in-Ok
returns-in-Ok g c =
    let runs = Goes-map (answer_task g.A.Answerer.meaning) _ MemoryCall
    (λ (s : TextDevice). known_of (Some s.input.now) (Some s.output.items))
    (λ s t call h. h) _ _ _ (ending_of (Ok tt)) c.in-Ok.ensures in
    memory_ok g.A.Answerer.meaning _ c.args.text.now c.new.result.items c.run_where_numbers_fit.new.device.input.now
    c.run_where_numbers_fit.new.device.output.items c.new.ensures.items runs
