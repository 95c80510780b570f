use Rattle.ep_link.specs.ArpEthIpv4.{arp_fields}
use Rattle.ep_link.proofs.ArpEncoding.{IsArpPacket-encoding, fields_of-encoding}
use Rattle.ep_link.proofs.link.arp_eth_ipv4_packet.ArpEthIpv4Packet.to_bytes.Goals as goal

pub returns-clause-packet : goal.returns-clause-packet
returns-clause-packet c = rw c.encoded.ensures.bytes
    (IsArpPacket-encoding (arp_fields c.args.self.now) c.encoded.ensures.arp)

pub returns-clause-fields : goal.returns-clause-fields
returns-clause-fields c = rw c.encoded.ensures.bytes
    (fields_of-encoding (arp_fields c.args.self.now) c.encoded.ensures.fits c.encoded.ensures.arp)
