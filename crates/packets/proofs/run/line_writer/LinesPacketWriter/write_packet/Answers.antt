use Rattle.std.proofs.Common.{rules, ◌≡◌, ◌∙◌, ap, ℕ, ◌==◌, not, List, [], ◌∷◌, ◌++◌}
use Rattle.std.proofs.lemmas.Fn.{filter_same}
use Rattle.std.proofs.lemmas.Result.{IfOk-weaker}
use Rattle.std.specs.List.{filter}
use Rattle.packets.proofs.run.line_writer.LinesPacketWriter.write_packet.Goals as goal

pub returns : goal.returns
returns g c =
    let text = c.write_line.new.out.items in
    let kept : c.retain.new.self.items ≡ filter (λ byte. not (byte == 10)) text =
    filter_same _ _ _ (λ x b f' k. search rules) _ _ c.retain.ensures.filtered in
    let pushed : c.push.new.self.items ≡ c.retain.new.self.items ++ 10 ∷ [] =
    rw c.if-is_err.ensures.negation at c.push.ensures.items in
    let line = pushed ∙ ap (λ (l : List ℕ). l ++ 10 ∷ []) kept in
    let details = g.L.LineWriter.details c.args.self.now.lines.now c.args.packet.now in
    IfOk-weaker c.write_details.result _ _
    (λ _ appended. (text, appended ∙ ap (λ (l : List ℕ). l ++ details) line, c.in_default.ensures))
    c.write_details.ensures
