use Rattle.ep_tcpudp.proofs.transport.udp_header.UdpHeader.sum_after.Goals as goal

pub returns : goal.returns
returns c = λ prefix sums. rw c.encoded_with.ensures.bytes at (c.message_sum.ensures.text prefix sums)
