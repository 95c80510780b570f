use Rattle.std.proofs.Common.{refl}
use Rattle.ep_ip.specs.Ipv4Fault.{header_at}
use Rattle.ep_ip.proofs.Ipv4Prefix.{takes_header}
use Rattle.ep_ip.proofs.laws.ipv4.headers_are_found.Goals as goal

pub returns : goal.returns
returns c = λ bytes. takes_header bytes (header_at bytes) refl
