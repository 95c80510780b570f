use Rattle.std.proofs.Common.{rules}
use Rattle.packets.specs.Written.{AreLines}
use Rattle.packets.proofs.TextLemmas.{flushed}
use Rattle.packets.proofs.program.outputs.write_flushed.Goals as goal

pub returns : goal.returns
returns g c =
    let lines = flushed (AreLines (g.L.LineWriter.describes c.args.lines.now) (g.L.LineWriter.details c.args.lines.now)) c.args.rules.now
    _ _ _ _ _ _ c.write_lines-written.ensures c.flush_after.ensures.bytes in
    search rules
