use Rattle.std.proofs.Common.{◌∙◌, ap, refl, sym, true}
use Rattle.packets.specs.Conversations.{is_left_out, is_without_ip}
use Rattle.packets.specs.Flows.{outlines}
use Rattle.packets.specs.Tally.{tally_of}
use Rattle.packets.specs.declared.flows.transfer.Transfer.{Transfer}
use Rattle.packets.specs.declared.outline.Outline.{Outline}
use Rattle.packets.proofs.FlowLemmas.{outlines-end}
use Rattle.packets.proofs.flows.counted_flows.CountedFlows.count.Goals as goal

pub returns : goal.returns
returns g c = λ packets old.
    let end = sym (outlines-end packets c.args.packet.now) in record {
      all = c.add.ensures (λ (p : Outline). true) (outlines packets) old.all refl
          ∙ ap (tally_of (λ p. true)) end;
      refused = c.add_if.ensures is_left_out (outlines packets) old.refused (sym
          c.is_left_out.ensures) ∙ ap (tally_of is_left_out) end;
      without_ip = c.add_if-2.ensures is_without_ip (outlines packets) old.without_ip (sym
          c.is_without_ip.ensures) ∙ ap (tally_of is_without_ip) end;
      conversations = c.add_keyed.ensures (λ (p : Transfer). p.conversation) packets refl
          old.conversations;
    }
