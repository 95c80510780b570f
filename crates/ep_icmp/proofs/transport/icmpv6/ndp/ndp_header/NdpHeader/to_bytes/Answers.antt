use Rattle.ep_icmp.proofs.NdpHeaders.{header_again, header_is}
use Rattle.ep_icmp.proofs.transport.icmpv6.ndp.ndp_header.NdpHeader.to_bytes.Goals as goal

pub returns-clause-header : goal.returns-clause-header
returns-clause-header c = rw c.field_bytes.ensures.bytes (header_is c.args.self.now c.field_bytes.ensures.fits)

pub returns-clause-fields : goal.returns-clause-fields
returns-clause-fields c = rw c.field_bytes.ensures.bytes (header_again c.args.self.now c.field_bytes.ensures.fits)
