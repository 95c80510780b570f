use Rattle.packets.proofs.LaxLayersLemmas.{headers_are_lax, ipv4_is_lax, ipv6_is_lax, layers_are_whole, message_is_lax, vlans_are_lax}
use Rattle.packets.proofs.laws.headers_are_lax_headers.Goals as goal

pub returns-clause-headers : goal.returns-clause-headers
returns-clause-headers c = headers_are_lax c.whole_packets_are_lax_packets.ensures.ethernet
    c.whole_packets_are_lax_packets.ensures.ether_type

pub returns-clause-ipv4 : goal.returns-clause-ipv4
returns-clause-ipv4 c = ipv4_is_lax c.whole_packets_are_lax_packets.ensures.ethernet
    c.whole_packets_are_lax_packets.ensures.ether_type

pub returns-clause-ipv6 : goal.returns-clause-ipv6
returns-clause-ipv6 c = ipv6_is_lax c.whole_packets_are_lax_packets.ensures.ethernet
    c.whole_packets_are_lax_packets.ensures.ether_type

pub returns-clause-message : goal.returns-clause-message
returns-clause-message c = message_is_lax c.whole_packets_are_lax_packets.ensures.ethernet
    c.whole_packets_are_lax_packets.ensures.ether_type

pub returns-clause-vlans : goal.returns-clause-vlans
returns-clause-vlans c = vlans_are_lax c.whole_packets_are_lax_packets.ensures.ethernet
    c.whole_packets_are_lax_packets.ensures.ether_type

pub returns-clause-whole : goal.returns-clause-whole
returns-clause-whole c = layers_are_whole c.whole_packets_are_lax_packets.ensures.ethernet
    c.whole_packets_are_lax_packets.ensures.ether_type
