use Rattle.std.proofs.Common.{◌∙◌, sym}
use Rattle.packets.specs.Lengths.{is_cut}
use Rattle.packets.specs.declared.outline.Outline.{Outline}
use Rattle.packets.proofs.TallyLemmas.{sum_by-end}
use Rattle.packets.proofs.summary.lengths.Lengths.add.Goals as goal

pub returns : goal.returns
returns c = λ packets old.
    let packet = c.args.packet.now in
    record {
      cut = c.add_if.ensures (λ (p : Outline). is_cut p.captured_len p.wire_len) packets old.cut (sym
          c.is_cut.ensures);
      wire = c.saturating_add-self.ensures
          ∙ rw (c.from.ensures, old.wire) (sym (sum_by-end (λ (p : Outline). p.wire_len) packets packet));
      captured = c.saturating_add-self-2.ensures
          ∙ rw old.captured (sym (sum_by-end (λ (p : Outline). p.captured_len) packets packet));
    }
