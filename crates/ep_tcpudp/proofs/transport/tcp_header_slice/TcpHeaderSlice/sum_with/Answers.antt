use Rattle.std.proofs.Common.{arith, subst}
use Rattle.ep_tcpudp.specs.Tcp.{IsTcpHeader}
use Rattle.ep_tcpudp.proofs.TcpSums.{header_added}
use Rattle.ep_tcpudp.proofs.transport.tcp_header_slice.TcpHeaderSlice.sum_with.Goals as goal

pub returns : goal.returns
returns c = λ prefix sums.
    let header = subst IsTcpHeader c.self.view_is c.self.invariant.1 in
    header_added _ _ prefix c.args.self.now c.args.payload.now sums.whole
    (omega (arith, header.minimum, header.whole)) (omega (arith, header.whole))
    (c.sum_after.ensures prefix sums)
    c.add_slice.ensures.text
