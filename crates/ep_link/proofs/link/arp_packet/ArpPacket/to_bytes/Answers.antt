use Rattle.ep_link.proofs.ArpSpelling.{IsArpPacket-spelling, fields_of-spelling}
use Rattle.ep_link.proofs.link.arp_packet.ArpPacket.to_bytes.Goals as goal

pub returns-clause-packet : goal.returns-clause-packet
returns-clause-packet c = rw c.spelled.ensures.bytes
    (IsArpPacket-spelling c.args.self.now c.spelled.ensures.arp)

pub returns-clause-fields : goal.returns-clause-fields
returns-clause-fields c = rw c.spelled.ensures.bytes
    (fields_of-spelling c.args.self.now c.spelled.ensures.fits c.spelled.ensures.arp)
