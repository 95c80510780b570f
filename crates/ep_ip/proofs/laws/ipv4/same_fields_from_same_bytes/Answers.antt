use Rattle.ep_ip.proofs.Ipv4Encoding.{same_fields}
use Rattle.ep_ip.proofs.laws.ipv4.same_fields_from_same_bytes.Goals as goal

pub returns : goal.returns
returns c = same_fields
