use Rattle.std.proofs.Common.{arith, sym, ◌∙◌}
use Rattle.std.proofs.lemmas.Bool.Decides.{nat_tests}
use Rattle.ep_icmp.proofs.Icmpv6Kinds.{kind_is}
use Rattle.ep_icmp.specs.Icmpv6.{is_listed}
use Rattle.ep_icmp.proofs.transport.icmpv6_slice.Icmpv6Slice.icmp_type.Goals.{in_default-via-in-2+in_default}
use Rattle.ep_icmp.proofs.transport.icmpv6_slice.Icmpv6Slice.icmp_type.Goals.{in_default-via-in-128+in_default}
use Rattle.ep_icmp.proofs.transport.icmpv6_slice.Icmpv6Slice.icmp_type.Goals.{in_default-via-in-129+in_default}
use Rattle.ep_icmp.proofs.transport.icmpv6_slice.Icmpv6Slice.icmp_type.Goals.{in_default-via-in_default}
use Rattle.ep_icmp.proofs.transport.icmpv6_slice.Icmpv6Slice.icmp_type.Goals as goal

pub returns-in-2-eq0 : goal.returns-in-2-eq0
returns-in-2-eq0 c =
    kind_is c.args.self.now _ _ _ (sym c.in-2-eq0.is-0 ∙ c.type_u8.ensures)
    (sym c.in-2-eq0.is-1 ∙ c.code_u8.ensures)
    c.number.ensures

pub returns-in-128-eq0 : goal.returns-in-128-eq0
returns-in-128-eq0 c =
    kind_is c.args.self.now _ _ _ (sym c.in-128-eq0.is-0 ∙ c.type_u8.ensures)
    (sym c.in-128-eq0.is-1 ∙ c.code_u8.ensures) c.echo.ensures

pub returns-in-129-eq0 : goal.returns-in-129-eq0
returns-in-129-eq0 c =
    kind_is c.args.self.now _ _ _ (sym c.in-129-eq0.is-0 ∙ c.type_u8.ensures)
    (sym c.in-129-eq0.is-1 ∙ c.code_u8.ensures) c.echo-in-129-eq0.ensures

pub unknown-requires : goal.unknown-requires
unfolding is_listed
unknown-requires c = elim c.in_default.branch [
  | in_default-via-in-2+in_default w ↦ grind (arith, nat_tests)
  | in_default-via-in-128+in_default w ↦ grind (arith, nat_tests)
  | in_default-via-in-129+in_default w ↦ grind (arith, nat_tests)
  | in_default-via-in_default w ↦ grind (arith, nat_tests)
]
