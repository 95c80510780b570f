use Rattle.ep_tag.proofs.DoubleVlanPrefix.{double_vlan_header_of-encoding, encoding-double_vlan_header_of, encoding_is_header}
use Rattle.ep_tag.proofs.laws.double_vlan.headers_are_their_bytes.Goals as goal

pub returns-clause-header : goal.returns-clause-header
returns-clause-header c =
    encoding_is_header c.args.header.now c.headers_are_their_bytes.ensures.header
    c.headers_are_their_bytes-2.ensures.header c.headers_are_their_bytes.ensures.fields

pub returns-clause-fields : goal.returns-clause-fields
returns-clause-fields c =
    double_vlan_header_of-encoding c.args.header.now c.headers_are_their_bytes.ensures.header
    c.headers_are_their_bytes.ensures.fields c.headers_are_their_bytes-2.ensures.fields

pub returns-clause-again : goal.returns-clause-again
returns-clause-again c = encoding-double_vlan_header_of
