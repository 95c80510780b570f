use Rattle.std.proofs.Common.{ℕ, ap, arith, nat_eq}
use Rattle.std.proofs.lemmas.Grind.{common_steps, elements}
use Rattle.std.specs.Cmp.Lexicographic.{pointwise, bytes_decides}
use Rattle.arrayvec.specs.ArrayVec.{ArrayVec}
use Rattle.etherparse.specs.base.Traits.{EqualIsSame}
use Rattle.etherparse.proofs.Same.{field, last_field, one_part, record_same}
use Rattle.netlines.proofs.laws.traits.types_are_plain_data.Goals as goal

tags_same : EqualIsSame (λ (a b : ArrayVec ℕ). pointwise nat_eq a.items b.items)
tags_same a b = one_part (bytes_decides a.items b.items) (λ e i. record { items = e i })
    (ap (λ tags. tags.items))

pub returns-clause-letter : goal.returns-clause-letter
returns-clause-letter c = record {
  copies = grind (arith, common_steps, elements);
  never_fails = grind (arith, common_steps);
  equals = λ a b. record_same
      (field bytes_decides (λ letter. letter.ethernet_source)
      (field bytes_decides (λ letter. letter.ethernet_destination)
      (field tags_same (λ letter. letter.vlans)
      (field c.types_are_plain_data-3.ensures.ip_frag_version_spec_id.equals (λ letter. letter.version_id)
      (last_field c.types_are_plain_data.ensures.ip_number.equals (λ letter. letter.number))))))
      (λ source destination vlans version_id number i. record {
        ethernet_source = source i;
        ethernet_destination = destination i;
        vlans = vlans i;
        version_id = version_id i;
        number = number i;
      });
}
