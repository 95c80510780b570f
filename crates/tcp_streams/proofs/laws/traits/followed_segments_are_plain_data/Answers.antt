use Rattle.std.proofs.Common.{arith}
use Rattle.std.proofs.lemmas.Bool.Decides.{Decides-eqb}
use Rattle.std.proofs.lemmas.Grind.{common_steps, elements}
use Rattle.std.specs.Cmp.{booleans_Decides}
use Rattle.ep_base.proofs.Same.{field, last_field, options_same, record_same}
use Rattle.tcp_streams.proofs.laws.traits.followed_segments_are_plain_data.Goals as goal

pub returns : goal.returns
returns c = record {
  copies = grind (arith, common_steps, elements);
  never_fails = grind (arith, common_steps);
  equals = λ a b. record_same
      (field booleans_Decides (λ followed. followed.begins_anew)
      (field Decides-eqb (λ followed. followed.position)
      (field (options_same c.types_are_plain_data.ensures.gap.equals)
      (λ followed. followed.gap)
      (field booleans_Decides (λ followed. followed.begins_gap)
      (field c.types_are_plain_data.ensures.conflicts.equals (λ followed. followed.conflicts)
      (field Decides-eqb (λ followed. followed.repeated)
      (last_field (options_same c.types_are_plain_data.ensures.refused.equals)
      (λ followed. followed.refused))))))))
      (λ begins_anew position gap begins_gap conflicts repeated refused i. record {
        begins_anew = begins_anew i;
        position = position i;
        gap = gap i;
        begins_gap = begins_gap i;
        conflicts = conflicts i;
        repeated = repeated i;
        refused = refused i;
      });
}
