use Rattle.ep_packet.proofs.HeadersFound.{ipv6_headers_are}
use Rattle.ep_packet.proofs.ReadHeaders.{ip_headers_are, ipv4_headers_are}
use Rattle.ep_packet.proofs.laws.found.ip_headers_are_their_parts.Goals as goal

pub returns-clause-ipv4 : goal.returns-clause-ipv4
returns-clause-ipv4 c = λ bytes. ipv4_headers_are bytes (c.packets_are_their_parts.ensures.ipv4 bytes)

pub returns-clause-ipv6 : goal.returns-clause-ipv6
returns-clause-ipv6 c = ipv6_headers_are c.rows_are_found.ensures

pub returns-clause-ip : goal.returns-clause-ip
returns-clause-ip c = λ bytes. ip_headers_are bytes
    (ipv4_headers_are bytes (c.packets_are_their_parts.ensures.ipv4 bytes))
    (ipv6_headers_are c.rows_are_found.ensures bytes)
