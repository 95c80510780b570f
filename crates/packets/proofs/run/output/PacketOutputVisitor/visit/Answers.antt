use Rattle.std.proofs.Common.{◌∙◌, sym, ap, subst, ◌++◌, append_assoc, List, ℕ, inl}
use Rattle.packets.specs.Written.{AreTexts}
use Rattle.packets.proofs.EndLemmas.{weaker_match}
use Rattle.packets.proofs.TextLemmas.{texts_more}
use Rattle.packets.proofs.run.output.PacketOutputVisitor.visit.Goals as goal

pub returns : goal.returns
returns g c start seen goes =
    let waiting = c.args.self.now.texts.waiting.items in
    let packet = c.args.packet.now in
    let IsTextOf = g.P.PacketWriter.writes start.packet_writer.now in
    weaker_match c.take_packet.result _ _ _ _
    (λ text. (
      goes.0,
      goes.1,
      goes.2,
      goes.3,
      subst (AreTexts IsTextOf _) (sym (ap (λ (l : List ℕ). goes.2 ++ l) text.2
          ∙ sym (append_assoc goes.2 waiting text.0)))
          (texts_more IsTextOf seen (goes.2 ++ waiting) packet text.0 goes.4
          (subst (λ p. g.P.PacketWriter.writes p.now packet text.0) goes.1 text.1)),
    ))
    (λ error same. inl (
      goes.0,
      goes.1,
      goes.2,
      goes.3,
      subst (λ (l : List ℕ). AreTexts IsTextOf seen (goes.2 ++ l)) (sym same) goes.4,
    )) c.take_packet.ensures
