use Rattle.std.proofs.Common.{arith}
use Rattle.ep_icmp.proofs.transport.icmpv4.timestamp_message.TimestampMessage.to_bytes.Goals as goal

pub returns-clause-fits : goal.returns-clause-fits
returns-clause-fits c = record {
  id = omega arith;
  seq = omega arith;
  originate_timestamp = omega arith;
  receive_timestamp = omega arith;
  transmit_timestamp = omega arith;
}
