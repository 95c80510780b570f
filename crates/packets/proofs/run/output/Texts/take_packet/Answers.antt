use Rattle.std.proofs.Common.{◌≡◌, ap, ℕ, List, ◌++◌}
use Rattle.packets.proofs.TextLemmas.{appended}
use Rattle.packets.proofs.run.output.Texts.take_packet.Goals as goal

pub returns : goal.returns
returns g c =
    let waiting = c.args.self.now.waiting.items in
    appended c.extend_from_slice.result waiting c.extend_from_slice.new.self.items
    c.deref.result.now (λ l. (text : List ℕ)
    × g.P.PacketWriter.writes c.args.packet_writer.now c.args.packet.now text
    × (l ≡ waiting ++ text)) c.extend_from_slice.ensures.items (
      c.write_packet.new.out.items,
      c.in_default.ensures,
      ap (λ (l : List ℕ). waiting ++ l) c.deref.ensures.value,
    )
