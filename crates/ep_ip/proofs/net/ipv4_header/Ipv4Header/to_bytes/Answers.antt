use Rattle.ep_ip.proofs.Ipv4Encoding.{IsIpv4Header-encoding, ipv4_header_of-encoding}
use Rattle.ep_ip.proofs.Ipv4Sum.{all_ones-encoding}
use Rattle.ep_ip.proofs.net.ipv4_header.Ipv4Header.to_bytes.Goals as goal

pub returns-clause-header : goal.returns-clause-header
returns-clause-header c = rw c.bytes_with_checksum.ensures.bytes
    (IsIpv4Header-encoding c.args.self.now c.bytes_with_checksum.ensures.fits)

pub returns-clause-fields : goal.returns-clause-fields
returns-clause-fields c = rw c.bytes_with_checksum.ensures.bytes
    (ipv4_header_of-encoding c.args.self.now c.bytes_with_checksum.ensures.fits)

pub returns-clause-checked : goal.returns-clause-checked
returns-clause-checked c = rw c.bytes_with_checksum.ensures.bytes
    (all_ones-encoding c.args.self.now c.bytes_with_checksum.ensures.fits.header_checksum)
