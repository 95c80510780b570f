use Rattle.std.proofs.Common.{Ok, sym}
use Rattle.ep_ip.proofs.Ipv6Prefix.{takes_header}
use Rattle.ep_ipslice.specs.Ipv6Fault.{InHeader}
use Rattle.ep_ipslice.proofs.Ipv6Parts.{body_only, body_parts, header_same, length_fault}
use Rattle.ep_ipslice.proofs.net.ipv6_slice.Ipv6Slice.header_and_body.Goals as goal

pub returns-in-Ok-clause-only : goal.returns-in-Ok-clause-only
returns-in-Ok-clause-only c = λ header body source is.
    body_only c.args.slice.now c.in-Ok.header c.body_after.result c.body_after.ensures.found
    c.body_after.ensures.refused header source body
    (header_same c.in-Ok.header header
    ((takes_header c.args.slice.now (Ok c.in-Ok.header) c.in-Ok.ensures.exact).only header _ is.whole
    (body_parts c.args.slice.now header source body is))) is

pub returns-in-Ok-clause-refused : goal.returns-in-Ok-clause-refused
returns-in-Ok-clause-refused c = length_fault c.args.slice.now c.in-Ok.header c.body_after.result
    (sym c.in-Ok.ensures.exact) c.body_after.ensures.refused

pub returns-in-Err-clause-refused : goal.returns-in-Err-clause-refused
returns-in-Err-clause-refused c = InHeader c.in-Err.error
    (sym c.in-Err.ensures.exact) c.of_header.ensures

pub body_after-requires : goal.body_after-requires
body_after-requires c =
    (takes_header c.args.slice.now (Ok c.in-Ok.header) c.in-Ok.ensures.exact).found.1
