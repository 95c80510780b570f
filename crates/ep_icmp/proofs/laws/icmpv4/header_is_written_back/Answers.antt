use Rattle.ep_icmp.proofs.Icmpv4ParsedThenEncoded.{header_back}
use Rattle.ep_icmp.proofs.laws.icmpv4.header_is_written_back.Goals as goal

pub returns : goal.returns
returns c = header_back
