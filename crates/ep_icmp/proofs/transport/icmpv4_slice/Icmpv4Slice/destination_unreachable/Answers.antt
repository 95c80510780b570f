use Rattle.std.proofs.Common.{rules, sym, ◌∙◌}
use Rattle.ep_icmp.proofs.Icmpv4Kinds.{kind_is}
use Rattle.ep_icmp.proofs.transport.icmpv4_slice.Icmpv4Slice.destination_unreachable.Goals as goal

pub returns-in-Some : goal.returns-in-Some
returns-in-Some c = kind_is c.args.self.now _ _ _ (sym c.requires)
    (c.in-Some.ensures.0 ∙ c.code_u8.ensures) (search rules)
