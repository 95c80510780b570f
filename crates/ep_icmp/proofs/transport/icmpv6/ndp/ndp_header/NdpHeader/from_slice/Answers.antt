use Rattle.std.proofs.Common.{arith, sym, ◌∙◌}
use Rattle.ep_icmp.proofs.NdpHeaders.{found_at, only_at, read_at}
use Rattle.ep_icmp.proofs.transport.icmpv6.ndp.ndp_header.NdpHeader.from_slice.Goals as goal

pub returns-in-Some-Ok-clause-found : goal.returns-in-Some-Ok-clause-found
returns-in-Some-Ok-clause-found c =
    let message = found_at c.args.slice.now c.in-Some-Ok.message
    (sym (rw c.in-Some-Ok.field-0-is at c.in-Some-Ok.ensures.exact)) in
    rw (c.header.ensures, c.options_slice.ensures, message.1)
    (read_at c.args.slice.now (rw message.1 at message.0) (λ i. omega (arith, c.type_inv.slice i)))

pub returns-in-Some-Ok-clause-only : goal.returns-in-Some-Ok-clause-only
returns-in-Some-Ok-clause-only c = λ prefix rest is parts.
    let message = found_at c.args.slice.now c.in-Some-Ok.message
    (sym (rw c.in-Some-Ok.field-0-is at c.in-Some-Ok.ensures.exact)) in
    let only = only_at c.in-Some-Ok.message prefix rest is (message.1 ∙ parts) in
    (c.header.ensures ∙ only.0, c.options_slice.ensures ∙ only.1)
