use Rattle.std.proofs.Common.{◌≡◌, ◌∙◌, sym}
use Rattle.capture_programs.proofs.captures_program.making.make.Goals as goal

pub returns-in-Lines-clause-bytes : goal.returns-in-Lines-clause-bytes
returns-in-Lines-clause-bytes g c extra unfit is =
    let same = sym is ∙ c.in-Lines.is in
    let extra_is : extra ≡ c.in-Lines.extra = cc in
    let unfit_is : unfit ≡ c.in-Lines.unfit = cc in
    rw (extra_is, unfit_is) c.make_lines.ensures.bytes

pub returns-in-Capture-clause-capture_bytes : goal.returns-in-Capture-clause-capture_bytes
returns-in-Capture-clause-capture_bytes g c time_unit is =
    let same = sym is ∙ c.in-Capture.is in
    let unit_is : time_unit ≡ c.in-Capture.time_unit = cc in
    rw unit_is c.make_capture.ensures.bytes

pub returns-in-Lines-clause-passed : goal.returns-in-Lines-clause-passed
returns-in-Lines-clause-passed g c extra unfit is =
    let same = sym is ∙ c.in-Lines.is in
    let unfit_is : unfit ≡ c.in-Lines.unfit = cc in
    rw unfit_is c.make_lines.ensures.passed
