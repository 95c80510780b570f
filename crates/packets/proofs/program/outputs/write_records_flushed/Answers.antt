use Rattle.std.proofs.Common.{rules, ◌≡◌}
use Rattle.packets.specs.WrittenCaptures.{records_of}
use Rattle.packets.proofs.TextLemmas.{flushed}
use Rattle.packets.proofs.program.outputs.write_records_flushed.Goals as goal

pub returns : goal.returns
returns g c =
    let written = flushed (λ packets text. text ≡ records_of packets) c.args.rules.now
    _ _ _ _ _ _ c.write_records-ended.ensures c.flush_after.ensures.bytes in
    search rules
