use Rattle.std.proofs.Common.{◌∙◌, true}
use Rattle.packets.proofs.EndLemmas.{weaker_break, weaker_match}
use Rattle.packets.proofs.TextLemmas.{written_out}
use Rattle.packets.proofs.run.output.PacketOutputVisitor.before_packet.Goals as goal

pub returns-else-len-lt-WRITTEN_AT_ONCE : goal.returns-else-len-lt-WRITTEN_AT_ONCE
returns-else-len-lt-WRITTEN_AT_ONCE g c start seen goes =
    let wrote = c.write_out.ensures in
    weaker_match c.write_out.result _ _ _ _
    (λ waits. (wrote.name ∙ goes.0, wrote.packet_writer ∙ goes.1, waits.0, waits.1, waits.2))
    (λ error. weaker_break true error _ _
    (λ fragment. (wrote.name ∙ goes.0, wrote.waiting, fragment.0, fragment.1, fragment.2, fragment.3)))
    (written_out (g.P.PacketWriter.writes start.packet_writer.now) c.write_out.result
    (g.W.Write.contents start.writer.now) (g.W.Write.contents c.args.self.now.writer.now)
    (g.W.Write.contents c.write_out.new.self.writer.now) seen c.args.self.now.texts.waiting.items
    c.write_out.new.self.texts.waiting.items wrote.waiting (goes.2, goes.3, goes.4) wrote.written)
