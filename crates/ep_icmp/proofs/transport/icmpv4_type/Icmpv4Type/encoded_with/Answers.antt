use Rattle.std.proofs.Common.{rules, sym}
use Rattle.ep_icmp.specs.Icmpv4.{layout_of}
use Rattle.ep_icmp.proofs.Icmpv4After.{after_none}
use Rattle.ep_icmp.proofs.Layouts.{written_four}
use Rattle.ep_icmp.proofs.transport.icmpv4_type.Icmpv4Type.encoded_with.Goals as goal

pub returns-in_default-clause-bytes : goal.returns-in_default-clause-bytes
returns-in_default-clause-bytes c =
    let none = after_none c.args.self.now c.prefix_with.ensures.fits.fields
    (sym c.in_default.ensures) in
    rw (written_four (layout_of c.args.self.now).fields none) (search rules)
