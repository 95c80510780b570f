use Rattle.std.proofs.Common.{refl}
use Rattle.ep_link.specs.SllFault.{header_at}
use Rattle.ep_link.proofs.SllPrefix.{takes_header}
use Rattle.ep_link.proofs.laws.linux_sll.headers_are_found.Goals as goal

pub returns : goal.returns
returns c = λ bytes. takes_header bytes (header_at bytes) refl
