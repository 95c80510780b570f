use Rattle.std.proofs.Common.{rules}
use Rattle.ep_tcpudp.proofs.TcpSums.{parts_added}
use Rattle.ep_tcpudp.proofs.transport.tcp_header.TcpHeader.sum_after.Goals as goal

pub returns : goal.returns
returns c = λ prefix sums.
    parts_added _ _ prefix c.fixed_bytes_with.result c.args.self.now.options c.args.payload.now _
    sums.whole (search rules) c.as_slice.ensures.options.words
    c.fixed_bytes_with.ensures.bytes
    (rw c.as_slice.ensures.bytes at (c.message_sum.ensures.text prefix sums))
    c.add_slice.ensures.text
