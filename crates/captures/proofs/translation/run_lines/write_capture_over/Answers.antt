use Rattle.std.proofs.Common.{refl, subst, sym}
use Rattle.captures.specs.declared.time.time_unit.TimeUnit.{TimeUnit}
use Rattle.device_runs.specs.Runs.{Goes}
use Rattle.captures.specs.Endings.{ending_of}
use Rattle.captures.specs.Texts.{lines_to_capture}
use Rattle.captures.specs.Translations.{IsDueBy}
use Rattle.captures.proofs.Writing.{writes_start}
use Rattle.captures.proofs.translation.run_lines.write_capture_over.Goals as goal

pub run_translator-requires-clause-begins : goal.run_translator-requires-clause-begins
run_translator-requires-clause-begins g c = rw c.file_header.ensures (writes_start c.args.time_unit)

pub run_translator-requires-clause-due : goal.run_translator-requires-clause-due
run_translator-requires-clause-due g c t t' same =
    subst (λ (u : TimeUnit). IsDueBy (lines_to_capture t.time_unit) (lines_to_capture u)) (sym same)
    (record { room = refl; due = λ read written due. due })

pub returns : goal.returns
returns g c =
    subst (λ (u : TimeUnit). Goes (lines_to_capture u) g.D.Device.transition c.args.reads
    c.args.device.now c.run_translator.new.device (ending_of c.run_translator.result))
    c.run_translator.ensures.kept c.run_translator.ensures.ends.goes
