use Rattle.ep_icmp.proofs.transport.icmpv6_type.Icmpv6Type.sum_after.Goals as goal

pub returns : goal.returns
returns c = λ prefix sums. rw c.encoded_with.ensures.bytes at (c.message_sum.ensures.text prefix sums)
