use Rattle.ep_packet.proofs.SameHeaderParts.{lax_headers_same}
use Rattle.ep_packet.proofs.laws.traits.lax_headers_compare_by_value.Goals as goal

pub returns-clause-equal : goal.returns-clause-equal
returns-clause-equal c = lax_headers_same c.types_are_plain_data-3.ensures.link_header.equals
    c.types_are_plain_data-4.ensures.link_ext_header.equals
    c.net_is_plain_data.ensures.net_headers.equals
    c.types_are_plain_data.ensures.transport_header.equals
    c.lax_payloads_compare_by_value.ensures.equal
    c.types_are_plain_data.ensures.slice_error.equals
    c.types_are_plain_data-2.ensures.layer.equals
