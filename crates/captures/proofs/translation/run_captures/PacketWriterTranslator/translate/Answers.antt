use Rattle.captures.proofs.Reporting.{reports_more, reports_refused}
use Rattle.captures.proofs.translation.run_captures.PacketWriterTranslator.translate.Goals as goal

pub returns-in-Some-clause-translates : goal.returns-in-Some-clause-translates
returns-in-Some-clause-translates g c held chunk read written reports parts fits =
    let leaves = rw c.in-Some.is at c.take_chunk-progress.ensures.takes reports.0 reports.1 in
    let size = c.take_chunk-progress.ensures.passed reports.0 reports.1 in
    reports_refused c.args.self.now.ledger c.take_chunk-progress.result.ledger
    c.take_chunk-progress.ensures.extra _ c.args.self.now.state c.take_chunk-progress.result.after c.args.self.now.started
    c.take_chunk-progress.result.started c.args.self.now.passed _ held chunk
    c.args.bytes.now _ read written _ _ reports parts c.saturating_add-self.ensures size _ c.in-Some.error _ leaves c.position.ensures.packet
    c.position.ensures.offset c.position.ensures.block

pub returns-in-None-clause-translates : goal.returns-in-None-clause-translates
returns-in-None-clause-translates g c held chunk read written reports parts fits =
    let leaves = rw c.in-None.is at c.take_chunk-progress.ensures.takes reports.0 reports.1 in
    let size = c.take_chunk-progress.ensures.passed reports.0 reports.1 in
    reports_more c.args.self.now.ledger c.take_chunk-progress.result.ledger
    c.take_chunk-progress.ensures.extra _ c.args.self.now.state c.take_chunk-progress.result.after c.args.self.now.started
    c.take_chunk-progress.result.started c.args.self.now.passed _ held chunk
    c.args.bytes.now _ read written _ _ reports parts c.saturating_add-self.ensures size leaves
