use Rattle.ep_packet.proofs.SameClasses.{classes_same, cuts_same, parts_same, wholes_same}
use Rattle.ep_packet.proofs.laws.traits.classes_are_equal_by_value.Goals as goal

pub returns-clause-parts : goal.returns-clause-parts
returns-clause-parts c = parts_same c.types_are_plain_data-2.ensures.ip_frag_offset.equals

pub returns-clause-cut : goal.returns-clause-cut
returns-clause-cut c = cuts_same c.types_are_plain_data-3.ensures.vlan_id.equals
    c.types_are_plain_data.ensures.addresses.equals
    c.types_are_plain_data-2.ensures.ip_number.equals
    (parts_same c.types_are_plain_data-2.ensures.ip_frag_offset.equals)

pub returns-clause-whole : goal.returns-clause-whole
returns-clause-whole c = wholes_same c.types_are_plain_data-2.ensures.ip_number.equals
    c.types_are_plain_data.ensures.addresses.equals c.equal_messages_are_read_alike.ensures

pub returns-clause-class : goal.returns-clause-class
returns-clause-class c = classes_same
    (cuts_same c.types_are_plain_data-3.ensures.vlan_id.equals
    c.types_are_plain_data.ensures.addresses.equals
    c.types_are_plain_data-2.ensures.ip_number.equals
    (parts_same c.types_are_plain_data-2.ensures.ip_frag_offset.equals))
    (wholes_same c.types_are_plain_data-2.ensures.ip_number.equals
    c.types_are_plain_data.ensures.addresses.equals c.equal_messages_are_read_alike.ensures)
