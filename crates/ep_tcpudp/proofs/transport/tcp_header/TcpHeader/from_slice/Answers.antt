use Rattle.std.proofs.Common.{Ok, ap, arith, length, sym}
use Rattle.ep_base.proofs.Prefixes.{is_read, only_read}
use Rattle.ep_tcpudp.specs.Tcp.{IsTcpHeader, tcp_header_of, encoding, with_reserved_bits_zero}
use Rattle.ep_tcpudp.proofs.TcpPrefix.{takes_header}
use Rattle.ep_tcpudp.proofs.TcpEncoding.{encoding-tcp_header_of}
use Rattle.ep_tcpudp.proofs.transport.tcp_header.TcpHeader.from_slice.Goals as goal

pub returns-clause-found : goal.returns-clause-found
returns-clause-found c =
    let header = c.in_ok-header.header in
    let takes = takes_header c.args.slice.now (Ok header) c.in_ok-header.ensures.exact in
    is_read IsTcpHeader tcp_header_of encoding with_reserved_bits_zero encoding-tcp_header_of
    c.args.slice.now header _ c.to_header.result takes (λ i. omega (arith, c.type_inv.slice i))
    (ap length (sym c.slice.ensures.bytes)) c.to_header.ensures.fields

pub returns-clause-only : goal.returns-clause-only
returns-clause-only c =
    let header = c.in_ok-header.header in
    let takes = takes_header c.args.slice.now (Ok header) c.in_ok-header.ensures.exact in
    only_read IsTcpHeader tcp_header_of c.args.slice.now header _ c.to_header.result takes
    (ap length (sym c.slice.ensures.bytes)) c.to_header.ensures.fields
