use Rattle.std.proofs.Common.{arith}
use Rattle.std.proofs.lemmas.Bool.Decides.{Decides-eqb}
use Rattle.std.proofs.lemmas.Grind.{common_steps, elements}
use Rattle.ep_base.proofs.Same.{field, last_field, options_same, record_same}
use Rattle.packets.proofs.laws.outlines_are_plain_data.Goals as goal

pub returns : goal.returns
returns c = record {
  copies = grind (arith, common_steps, elements);
  never_fails = grind (arith, common_steps);
  equals = λ a b. record_same
      (field Decides-eqb (λ outline. outline.number)
      (field Decides-eqb (λ outline. outline.time)
      (field Decides-eqb (λ outline. outline.len)
      (field Decides-eqb (λ outline. outline.captured_len)
      (field Decides-eqb (λ outline. outline.wire_len)
      (field c.holders_are_plain_data.ensures.headers.equals (λ outline. outline.headers)
      (field (options_same c.types_are_plain_data.ensures.reason.equals)
      (λ outline. outline.refusal)
      (field (options_same c.types_are_plain_data.ensures.fragment_state.equals)
      (λ outline. outline.fragment)
      (last_field (options_same c.verdicts_are_plain_data.ensures.equals)
      (λ outline. outline.verdict))))))))))
      (λ number time len captured_len wire_len headers refusal fragment verdict i. record {
        number = number i;
        time = time i;
        len = len i;
        captured_len = captured_len i;
        wire_len = wire_len i;
        headers = headers i;
        refusal = refusal i;
        fragment = fragment i;
        verdict = verdict i;
      });
}
