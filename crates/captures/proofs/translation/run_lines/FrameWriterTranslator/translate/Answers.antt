use Rattle.captures.proofs.Writing.{writes_more, writes_bad}
use Rattle.captures.proofs.translation.run_lines.FrameWriterTranslator.translate.Goals as goal

pub returns-in-Some-clause-translates : goal.returns-in-Some-clause-translates
returns-in-Some-clause-translates c held chunk read written writes parts fits =
    let takes = rw c.in-Some.is at c.take_lines-taken.ensures.takes in
    writes_bad c.args.self.now.time_unit c.args.self.now.count c.take_lines-taken.result.count _ held chunk c.args.bytes.now _
    read written _ writes parts fits c.saturating_add-self.ensures _ c.in-Some.fault _
    c.next_line.ensures takes

pub returns-clause-translates : goal.returns-clause-translates
returns-clause-translates c held chunk read written writes parts fits =
    let takes = rw c.in_default.is at c.take_lines-taken.ensures.takes in
    writes_more c.args.self.now.time_unit c.args.self.now.count c.take_lines-taken.result.count _ held chunk c.args.bytes.now
    _ read written _ writes parts fits c.saturating_add-self.ensures takes
