use Rattle.std.proofs.Common.{arith, sym, ap, ◌∙◌, ◌≡◌, length, take}
use Rattle.std.proofs.lemmas.List.{length-take-le}
use Rattle.captures.specs.CaptureRuns.{at_position}
use Rattle.captures.proofs.Reporting.{reports_end}
use Rattle.captures.proofs.translation.run_captures.PacketWriterTranslator.finish.Goals as goal

pub returns-in-Ok-clause-finishes : goal.returns-in-Ok-clause-finishes
returns-in-Ok-clause-finishes g c read written reports fits =
    let room = c.requires.room in
    let held = take c.args.left c.args.input.now in
    let position = c.position-position.result in
    let size : c.args.left ≡ length held =
    omega (arith, length-take-le c.args.left c.args.input.now (omega arith)) in
    reports_end c.args.self.now.ledger _ read written position c.args.self.now.state
    c.args.self.now.started c.args.self.now.passed held c.args.left reports size
    c.position-position.ensures.packet c.position-position.ensures.offset
    (c.position-position.ensures.block reports.0 reports.1) _
    (ap (at_position position) (sym c.in-Ok.is ∙ c.end.ensures reports.0 reports.1))

pub returns-in-Err-clause-finishes : goal.returns-in-Err-clause-finishes
returns-in-Err-clause-finishes g c read written reports fits =
    let room = c.requires.room in
    let held = take c.args.left c.args.input.now in
    let position = c.position-position.result in
    let size : c.args.left ≡ length held =
    omega (arith, length-take-le c.args.left c.args.input.now (omega arith)) in
    reports_end c.args.self.now.ledger _ read written position c.args.self.now.state
    c.args.self.now.started c.args.self.now.passed held c.args.left reports size
    c.position-position.ensures.packet c.position-position.ensures.offset
    (c.position-position.ensures.block reports.0 reports.1) _
    (ap (at_position position) (sym c.in-Err.is ∙ c.end.ensures reports.0 reports.1))
