use Rattle.std.proofs.Common.{arith}
use Rattle.std.proofs.lemmas.Grind.{common_steps, elements}
use Rattle.std.specs.Cmp.{booleans_Decides}
use Rattle.ep_base.proofs.Same.{field, last_field, options_same, record_same}
use Rattle.packets.proofs.laws.holders_are_plain_data.Goals as goal

pub returns-clause-headers : goal.returns-clause-headers
returns-clause-headers c = record {
  copies = grind (arith, common_steps, elements);
  never_fails = grind (arith, common_steps);
  equals = λ a b. record_same
      (field booleans_Decides (λ headers. headers.ethernet)
      (field booleans_Decides (λ headers. headers.vlan)
      (field booleans_Decides (λ headers. headers.macsec)
      (last_field (options_same c.types_are_plain_data.ensures.net.equals)
      (λ headers. headers.net)))))
      (λ ethernet vlan macsec net i. record {
        ethernet = ethernet i;
        vlan = vlan i;
        macsec = macsec i;
        net = net i;
      });
}
