use Rattle.ep_tag.proofs.MacsecEncoding.{IsMacsecHeader-encoding, macsec_header_of-encoding}
use Rattle.ep_tag.proofs.link.macsec_header.MacsecHeader.to_bytes.Goals as goal

pub returns-clause-header : goal.returns-clause-header
returns-clause-header c = λ room. rw c.encoded.ensures.bytes
    (IsMacsecHeader-encoding c.args.self.now c.encoded.ensures.fits room)

pub returns-clause-fields : goal.returns-clause-fields
returns-clause-fields c = rw c.encoded.ensures.bytes
    (macsec_header_of-encoding c.args.self.now c.encoded.ensures.fits)
