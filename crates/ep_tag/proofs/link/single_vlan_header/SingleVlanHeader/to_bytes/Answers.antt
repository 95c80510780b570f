use Rattle.ep_tag.proofs.VlanEncoding.{single_vlan_header_of-encoding}
use Rattle.ep_tag.proofs.link.single_vlan_header.SingleVlanHeader.to_bytes.Goals as goal

pub returns-clause-fields : goal.returns-clause-fields
returns-clause-fields c = rw c.encoded.ensures.bytes
    (single_vlan_header_of-encoding c.args.self.now c.encoded.ensures.fits)
