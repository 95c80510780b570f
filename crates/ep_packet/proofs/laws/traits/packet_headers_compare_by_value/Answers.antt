use Rattle.ep_packet.proofs.SameHeaderParts.{headers_same}
use Rattle.ep_packet.proofs.laws.traits.packet_headers_compare_by_value.Goals as goal

pub returns-clause-equal : goal.returns-clause-equal
returns-clause-equal c = headers_same c.types_are_plain_data-2.ensures.link_header.equals
    c.types_are_plain_data-3.ensures.link_ext_header.equals
    c.net_is_plain_data.ensures.net_headers.equals
    c.types_are_plain_data.ensures.transport_header.equals
    c.payloads_compare_by_value.ensures.equal
