use Rattle.std.proofs.Common.{arith}
use Rattle.ep_link.specs.Ethernet.{ethernet_len, ethernet_header_of, encoding}
use Rattle.ep_link.proofs.EthernetEncoding.{encoding-ethernet_header_of}
use Rattle.ep_base.specs.Prefixes.{IsOfLength}
use Rattle.ep_base.proofs.Prefixes.{is_read, only_read}
use Rattle.ep_base.specs.declared.err.layer.Layer.TheVariants.{Ethernet2Header}
use Rattle.ep_link.proofs.link.ethernet2_header.Ethernet2Header.from_slice.Goals as goal

pub returns-clause-found : goal.returns-clause-found
returns-clause-found c =
    let takes = c.prefixes_are_found.ensures Ethernet2Header ethernet_len c.args.slice.now _ c.in_ok-header.ensures.exact in
    is_read (IsOfLength ethernet_len) ethernet_header_of encoding
    (λ prefix. prefix) encoding-ethernet_header_of c.args.slice.now c.in_ok-header.header
    ethernet_len c.to_header.result
    takes (λ i. omega (arith, c.type_inv.slice i))
    takes.found.0 c.to_header.ensures

pub returns-clause-only : goal.returns-clause-only
returns-clause-only c =
    let takes = c.prefixes_are_found.ensures Ethernet2Header ethernet_len c.args.slice.now _ c.in_ok-header.ensures.exact in
    only_read (IsOfLength ethernet_len) ethernet_header_of c.args.slice.now c.in_ok-header.header
    ethernet_len c.to_header.result takes
    takes.found.0 c.to_header.ensures
