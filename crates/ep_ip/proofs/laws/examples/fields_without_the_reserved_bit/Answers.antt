use Rattle.std.proofs.Common.{rules, refl}
use Rattle.ep_ip.specs.Examples.{ipv4_with_options, ipv4_with_reserved_bit}
use Rattle.ep_ip.proofs.laws.examples.fields_without_the_reserved_bit.Goals as goal

pub returns : goal.returns
returns c =
    (c.same_fields_from_same_bytes.ensures ipv4_with_reserved_bit ipv4_with_options (search rules)
    (search rules) (search rules) (search rules)).1 refl
