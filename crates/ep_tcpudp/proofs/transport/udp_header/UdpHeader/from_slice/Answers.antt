use Rattle.std.proofs.Common.{Ok, arith}
use Rattle.ep_base.proofs.Prefixes.{is_read, only_read}
use Rattle.ep_tcpudp.specs.Udp.{IsUdpHeader, udp_header_of, encoding}
use Rattle.ep_tcpudp.proofs.UdpPrefix.{takes_header}
use Rattle.ep_tcpudp.proofs.UdpEncoding.{encoding-udp_header_of}
use Rattle.ep_tcpudp.proofs.transport.udp_header.UdpHeader.from_slice.Goals as goal

pub returns-clause-found : goal.returns-clause-found
returns-clause-found c =
    let header = c.in_ok-header.header in
    let takes = takes_header c.args.slice.now (Ok header) c.in_ok-header.ensures.exact in
    is_read IsUdpHeader udp_header_of encoding (λ prefix. prefix) encoding-udp_header_of
    c.args.slice.now header 8 c.to_header.result takes (λ i. omega (arith, c.type_inv.slice i))
    takes.found.0.whole c.to_header.ensures

pub returns-clause-only : goal.returns-clause-only
returns-clause-only c =
    let header = c.in_ok-header.header in
    let takes = takes_header c.args.slice.now (Ok header) c.in_ok-header.ensures.exact in
    only_read IsUdpHeader udp_header_of c.args.slice.now header 8 c.to_header.result takes
    takes.found.0.whole c.to_header.ensures
