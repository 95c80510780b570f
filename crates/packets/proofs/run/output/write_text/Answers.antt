use Rattle.std.proofs.Common.{rules, subst, true, ◌≡◌, ◌++◌, List, ℕ}
use Rattle.std.specs.Io.KnownBytes.{Appends}
use Rattle.std.specs.contracts.io.impls.EmptyRead.TheImpl.{ghosts}
use Rattle.packets.specs.PacketRuns.{BreaksBy}
use Rattle.packets.proofs.EndLemmas.{weaker_break}
use Rattle.packets.proofs.WriteLemmas.{stops_appends, written_appends}
use Rattle.packets.proofs.run.output.write_text.Goals as goal

pub returns-in-Ok : goal.returns-in-Ok
returns-in-Ok g c =
    let seen = written_appends (λ reader. ghosts.remaining reader) g.W.Write.contents _
    c.write_whole-written.new.device c.args.text.now c.in-Ok.ensures in
    let writer = seen.0 in
    subst (λ writer. Appends (g.W.Write.contents c.args.writer.now) (g.W.Write.contents writer)
    c.args.text.now) (search rules) seen.1

pub returns-in-Err : goal.returns-in-Err
returns-in-Err g c =
    let seen = stops_appends (λ reader. ghosts.remaining reader) g.W.Write.contents c.in-Err.fault _
    c.write_whole-written.new.device c.args.text.now c.in-Err.ensures in
    let writer = seen.0 in
    subst (λ writer. BreaksBy true c.write_error.result ((prefix : List ℕ) × (rest : List ℕ)
    × Appends (g.W.Write.contents c.args.writer.now) (g.W.Write.contents writer) prefix
    × (c.args.text.now ≡ prefix ++ rest))) (search rules)
    (weaker_break true c.write_error.result (Unit {0}) _ (λ done. (seen.1, seen.2, seen.3, seen.4))
    c.write_error.ensures)
