use Rattle.std.proofs.Common.{arith}
use Rattle.std.proofs.lemmas.Grind.{common_steps, elements}
use Rattle.std.specs.Cmp.{booleans_Decides}
use Rattle.std.proofs.lemmas.Bool.Decides.{Decides-eqb}
use Rattle.ep_base.proofs.Same.{field, last_field, options_same, record_same}
use Rattle.packets.proofs.laws.flows_are_plain_data.Goals as goal

pub returns-clause-transfer : goal.returns-clause-transfer
returns-clause-transfer c = record {
  copies = grind (arith, common_steps, elements);
  never_fails = grind (arith, common_steps);
  equals = λ a b. record_same
      (field c.outlines_are_plain_data.ensures.equals (λ transfer. transfer.outline)
      (field (options_same c.holders_are_plain_data.ensures.conversation.equals)
      (λ transfer. transfer.conversation)
      (field booleans_Decides (λ transfer. transfer.ascends)
      (last_field c.types_are_plain_data.ensures.flags.equals (λ transfer. transfer.flags)))))
      (λ outline conversation ascends flags i. record {
        outline = outline i;
        conversation = conversation i;
        ascends = ascends i;
        flags = flags i;
      });
}

pub returns-clause-conversation_counts : goal.returns-clause-conversation_counts
returns-clause-conversation_counts c =
    let direction = c.holders_are_plain_data.ensures.direction_counts.equals in record {
      copies = grind (arith, common_steps, elements);
      never_fails = grind (arith, common_steps);
      equals = λ a b. record_same
          (field direction (λ flow. flow.ascending)
          (field direction (λ flow. flow.descending)
          (field c.types_are_plain_data.ensures.period.equals (λ flow. flow.period)
          (last_field (options_same booleans_Decides) (λ flow. flow.begins_ascending)))))
          (λ ascending descending period begins_ascending i. record {
            ascending = ascending i;
            descending = descending i;
            period = period i;
            begins_ascending = begins_ascending i;
          });
    }

pub returns-clause-row : goal.returns-clause-row
returns-clause-row c =
    let direction = c.holders_are_plain_data.ensures.direction_counts.equals in record {
      copies = grind (arith, common_steps, elements);
      never_fails = grind (arith, common_steps);
      equals = λ a b. record_same
          (field c.holders_are_plain_data.ensures.conversation.equals (λ row. row.conversation)
          (field direction (λ row. row.forward)
          (field direction (λ row. row.backward)
          (last_field c.types_are_plain_data.ensures.period.equals (λ row. row.period)))))
          (λ conversation forward backward period i. record {
            conversation = conversation i;
            forward = forward i;
            backward = backward i;
            period = period i;
          });
    }

pub returns-clause-segment : goal.returns-clause-segment
returns-clause-segment c = record {
  copies = grind (arith, common_steps, elements);
  never_fails = grind (arith, common_steps);
  equals = λ a b. record_same
      (field c.holders_are_plain_data.ensures.conversation.equals (λ segment. segment.conversation)
      (field booleans_Decides (λ segment. segment.ascends)
      (field booleans_Decides (λ segment. segment.syn)
      (field booleans_Decides (λ segment. segment.ack)
      (field Decides-eqb (λ segment. segment.sequence_number)
      (last_field Decides-eqb (λ segment. segment.acknowledgment_number)))))))
      (λ conversation ascends syn ack sequence_number acknowledgment_number i. record {
        conversation = conversation i;
        ascends = ascends i;
        syn = syn i;
        ack = ack i;
        sequence_number = sequence_number i;
        acknowledgment_number = acknowledgment_number i;
      });
}
