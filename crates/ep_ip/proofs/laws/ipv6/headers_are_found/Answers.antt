use Rattle.std.proofs.Common.{refl}
use Rattle.ep_ip.specs.Ipv6Fault.{header_at}
use Rattle.ep_ip.proofs.Ipv6Prefix.{takes_header}
use Rattle.ep_ip.proofs.laws.ipv6.headers_are_found.Goals as goal

pub returns : goal.returns
returns c = λ bytes. takes_header bytes (header_at bytes) refl
