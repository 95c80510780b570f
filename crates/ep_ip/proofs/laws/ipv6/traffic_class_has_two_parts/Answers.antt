use Rattle.ep_ip.proofs.Ipv6Bits.{two_parts}
use Rattle.ep_ip.proofs.laws.ipv6.traffic_class_has_two_parts.Goals as goal

pub returns : goal.returns
returns c = two_parts
