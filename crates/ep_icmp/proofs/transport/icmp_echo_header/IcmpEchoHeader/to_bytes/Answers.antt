use Rattle.std.proofs.Common.{arith}
use Rattle.ep_icmp.proofs.transport.icmp_echo_header.IcmpEchoHeader.to_bytes.Goals as goal

pub returns-clause-fits : goal.returns-clause-fits
returns-clause-fits c = record { id = omega arith; seq = omega arith }
