use Rattle.ep_ip.proofs.Ipv6Encoding.{IsIpv6Header-encoding, ipv6_header_of-encoding}
use Rattle.ep_ip.proofs.net.ipv6_header.Ipv6Header.to_bytes.Goals as goal

pub returns-clause-header : goal.returns-clause-header
returns-clause-header c = rw c.field_bytes.ensures.bytes
    (IsIpv6Header-encoding c.args.self.now c.field_bytes.ensures.fits)

pub returns-clause-fields : goal.returns-clause-fields
returns-clause-fields c = rw c.field_bytes.ensures.bytes
    (ipv6_header_of-encoding c.args.self.now c.field_bytes.ensures.fits)
