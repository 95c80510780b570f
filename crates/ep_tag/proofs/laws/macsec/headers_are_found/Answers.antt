use Rattle.std.proofs.Common.{refl}
use Rattle.ep_tag.specs.MacsecFault.{header_at}
use Rattle.ep_tag.proofs.MacsecPrefix.{takes_header}
use Rattle.ep_tag.proofs.laws.macsec.headers_are_found.Goals as goal

pub returns : goal.returns
returns c = λ bytes. takes_header bytes (header_at bytes) refl
