use Rattle.ep_link.proofs.SllEncoding.{IsSllHeader-encoding, sll_header_of-encoding}
use Rattle.ep_link.proofs.link.linux_sll_header.LinuxSllHeader.to_bytes.Goals as goal

pub returns-clause-header : goal.returns-clause-header
returns-clause-header c = rw c.encoded.ensures.bytes
    (IsSllHeader-encoding c.args.self.now c.encoded.ensures.fits)

pub returns-clause-fields : goal.returns-clause-fields
returns-clause-fields c = λ names. rw c.encoded.ensures.bytes
    (sll_header_of-encoding c.args.self.now c.encoded.ensures.fits names)
