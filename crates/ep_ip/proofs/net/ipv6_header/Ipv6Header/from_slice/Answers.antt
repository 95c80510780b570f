use Rattle.std.proofs.Common.{Ok, arith}
use Rattle.ep_base.proofs.Prefixes.{is_read, only_read}
use Rattle.ep_ip.specs.Ipv6.{IsIpv6Header, ipv6_header_of, encoding}
use Rattle.ep_ip.proofs.Ipv6Prefix.{takes_header}
use Rattle.ep_ip.proofs.Ipv6Encoding.{encoding-ipv6_header_of}
use Rattle.ep_ip.proofs.net.ipv6_header.Ipv6Header.from_slice.Goals as goal

pub returns-clause-found : goal.returns-clause-found
returns-clause-found c =
    let header = c.in_ok-header.header in
    let takes = takes_header c.args.slice.now (Ok header) c.in_ok-header.ensures.exact in
    is_read IsIpv6Header ipv6_header_of encoding (λ prefix. prefix) encoding-ipv6_header_of
    c.args.slice.now header 40 c.to_header.result takes (λ i. omega (arith, c.type_inv.slice i))
    takes.found.0.whole c.to_header.ensures

pub returns-clause-only : goal.returns-clause-only
returns-clause-only c =
    let header = c.in_ok-header.header in
    let takes = takes_header c.args.slice.now (Ok header) c.in_ok-header.ensures.exact in
    only_read IsIpv6Header ipv6_header_of c.args.slice.now header 40 c.to_header.result takes
    takes.found.0.whole c.to_header.ensures
