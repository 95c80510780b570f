use Rattle.std.proofs.Common.{refl}
use Rattle.ep_icmp.proofs.Icmpv4Kinds.{header_len_at}
use Rattle.ep_icmp.proofs.transport.icmpv4_slice.Icmpv4Slice.header_len.Goals as goal

pub returns-then-is_timestamp-clause-value : goal.returns-then-is_timestamp-clause-value
returns-then-is_timestamp-clause-value c =
    rw (header_len_at c.args.self.now, ← c.is_timestamp.ensures.value, c.if-is_timestamp.true) refl

pub returns-else-is_timestamp-clause-value : goal.returns-else-is_timestamp-clause-value
returns-else-is_timestamp-clause-value c =
    rw (header_len_at c.args.self.now, ← c.is_timestamp.ensures.value, c.if-is_timestamp.false) refl
