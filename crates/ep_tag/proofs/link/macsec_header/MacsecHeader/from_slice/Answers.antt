use Rattle.std.proofs.Common.{arith, refl, length}
use Rattle.ep_tag.specs.Macsec.{IsMacsecHeader, macsec_header_of, encoding, with_unused_bits_zero}
use Rattle.ep_base.proofs.Prefixes.{is_read, only_read}
use Rattle.ep_tag.proofs.MacsecEncoding.{encoding-macsec_header_of}
use Rattle.ep_tag.proofs.MacsecPrefix.{takes_header}
use Rattle.ep_tag.proofs.link.macsec_header.MacsecHeader.from_slice.Goals as goal

pub returns-clause-found : goal.returns-clause-found
returns-clause-found c =
    let header = c.in_ok-header.header in
    rw c.slice.ensures.bytes
    (is_read IsMacsecHeader macsec_header_of encoding with_unused_bits_zero
    encoding-macsec_header_of
    c.args.slice.now header (length header) c.to_header.result
    (takes_header c.args.slice.now _ c.in_ok-header.ensures.exact) (λ i. omega (arith, c.type_inv.slice i)) refl c.to_header.ensures)

pub returns-clause-only : goal.returns-clause-only
returns-clause-only c =
    let header = c.in_ok-header.header in
    rw c.slice.ensures.bytes
    (only_read IsMacsecHeader macsec_header_of c.args.slice.now header
    (length header) c.to_header.result (takes_header c.args.slice.now _ c.in_ok-header.ensures.exact) refl c.to_header.ensures)
