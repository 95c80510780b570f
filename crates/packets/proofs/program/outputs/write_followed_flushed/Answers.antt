use Rattle.std.proofs.Common.{rules, ℕ, List}
use Rattle.packets.specs.Written.{AreTexts}
use Rattle.packets.specs.declared.dissection.Dissection.{Dissection}
use Rattle.packets.proofs.TextLemmas.{flushed}
use Rattle.packets.proofs.program.outputs.write_followed_flushed.Goals as goal

pub returns : goal.returns
returns g c =
    let written = flushed (AreTexts (λ (packet : Dissection) (text : List ℕ). Unit {0})) c.args.rules.now
    _ _ _ _ _ _ c.write_followed-ended.ensures c.flush_after.ensures.bytes in
    search rules
