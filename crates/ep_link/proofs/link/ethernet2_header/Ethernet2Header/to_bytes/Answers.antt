use Rattle.ep_link.proofs.EthernetEncoding.{ethernet_header_of-encoding}
use Rattle.ep_link.proofs.link.ethernet2_header.Ethernet2Header.to_bytes.Goals as goal

pub returns-clause-fields : goal.returns-clause-fields
returns-clause-fields c = rw c.encoded.ensures.bytes
    (ethernet_header_of-encoding c.args.self.now c.encoded.ensures.fits)
