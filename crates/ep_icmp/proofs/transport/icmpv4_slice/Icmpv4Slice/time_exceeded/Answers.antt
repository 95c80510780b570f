use Rattle.std.proofs.Common.{sym, ◌∙◌}
use Rattle.ep_icmp.proofs.Icmpv4Kinds.{kind_is}
use Rattle.ep_icmp.proofs.transport.icmpv4_slice.Icmpv4Slice.time_exceeded.Goals as goal

pub returns-in-Some : goal.returns-in-Some
returns-in-Some c = kind_is c.args.self.now _ _ _ (sym c.requires)
    (c.in-Some.ensures ∙ c.code_u8.ensures) tt
