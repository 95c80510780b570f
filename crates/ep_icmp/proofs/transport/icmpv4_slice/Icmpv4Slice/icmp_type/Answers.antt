use Rattle.std.proofs.Common.{arith, refl, sym, ◌∙◌}
use Rattle.std.proofs.lemmas.Bool.Decides.{nat_tests}
use Rattle.ep_icmp.specs.Icmpv4.{is_listed}
use Rattle.ep_icmp.proofs.Icmpv4Kinds.{kind_is}
use Rattle.ep_icmp.proofs.transport.icmpv4_slice.Icmpv4Slice.icmp_type.Goals.{in_default-via-in-0+in_default}
use Rattle.ep_icmp.proofs.transport.icmpv4_slice.Icmpv4Slice.icmp_type.Goals.{in_default-via-in-8+in_default}
use Rattle.ep_icmp.proofs.transport.icmpv4_slice.Icmpv4Slice.icmp_type.Goals.{in_default-via-in-13+in_default}
use Rattle.ep_icmp.proofs.transport.icmpv4_slice.Icmpv4Slice.icmp_type.Goals.{in_default-via-in-14+in_default}
use Rattle.ep_icmp.proofs.transport.icmpv4_slice.Icmpv4Slice.icmp_type.Goals.{in_default-via-in_default}
use Rattle.ep_icmp.proofs.transport.icmpv4_slice.Icmpv4Slice.icmp_type.Goals as goal

pub timestamp-requires : goal.timestamp-requires
timestamp-requires c =
    rw (← c.type_u8.ensures, ← c.code_u8.ensures, c.in-13-eq0.is-0, c.in-13-eq0.is-1) refl

pub timestamp-requires-in-14-eq0 : goal.timestamp-requires-in-14-eq0
timestamp-requires-in-14-eq0 c =
    rw (← c.type_u8.ensures, ← c.code_u8.ensures, c.in-14-eq0.is-0, c.in-14-eq0.is-1) refl

pub returns-in-0-eq0 : goal.returns-in-0-eq0
returns-in-0-eq0 c =
    kind_is c.args.self.now _ _ _ (sym c.in-0-eq0.is-0 ∙ c.type_u8.ensures)
    (sym c.in-0-eq0.is-1 ∙ c.code_u8.ensures) c.echo.ensures

pub returns-in-8-eq0 : goal.returns-in-8-eq0
returns-in-8-eq0 c =
    kind_is c.args.self.now _ _ _ (sym c.in-8-eq0.is-0 ∙ c.type_u8.ensures)
    (sym c.in-8-eq0.is-1 ∙ c.code_u8.ensures) c.echo-in-8-eq0.ensures

pub returns-in-13-eq0 : goal.returns-in-13-eq0
returns-in-13-eq0 c =
    kind_is c.args.self.now _ _ _ (sym c.in-13-eq0.is-0 ∙ c.type_u8.ensures)
    (sym c.in-13-eq0.is-1 ∙ c.code_u8.ensures) c.timestamp.ensures

pub returns-in-14-eq0 : goal.returns-in-14-eq0
returns-in-14-eq0 c =
    kind_is c.args.self.now _ _ _ (sym c.in-14-eq0.is-0 ∙ c.type_u8.ensures)
    (sym c.in-14-eq0.is-1 ∙ c.code_u8.ensures) c.timestamp-in-14-eq0.ensures

pub unknown-requires : goal.unknown-requires
unfolding is_listed
unknown-requires c = elim c.in_default.branch [
  | in_default-via-in-0+in_default w ↦ grind (arith, nat_tests)
  | in_default-via-in-8+in_default w ↦ grind (arith, nat_tests)
  | in_default-via-in-13+in_default w ↦ grind (arith, nat_tests)
  | in_default-via-in-14+in_default w ↦ grind (arith, nat_tests)
  | in_default-via-in_default w ↦ grind (arith, nat_tests)
]
