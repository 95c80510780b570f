use Rattle.std.proofs.Common.{refl}
use Rattle.ep_tag.specs.DoubleVlan.{double_vlan_at}
use Rattle.ep_tag.proofs.DoubleVlanPrefix.{takes_header}
use Rattle.ep_tag.proofs.laws.double_vlan.headers_are_found.Goals as goal

pub returns : goal.returns
returns c = λ bytes. takes_header bytes (double_vlan_at bytes) refl
