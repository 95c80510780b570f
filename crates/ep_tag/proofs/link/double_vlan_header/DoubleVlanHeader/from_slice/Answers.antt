use Rattle.std.proofs.Common.{arith}
use Rattle.ep_base.proofs.Prefixes.{is_read, only_read}
use Rattle.ep_tag.specs.DoubleVlan.{IsDoubleVlanHeader, double_vlan_header_of, double_vlan_len}
use Rattle.ep_tag.specs.Vlan.{double_encoding}
use Rattle.ep_tag.proofs.DoubleVlanPrefix.{encoding-double_vlan_header_of}
use Rattle.ep_tag.proofs.DoubleVlanPrefix.{takes_header}
use Rattle.ep_tag.proofs.link.double_vlan_header.DoubleVlanHeader.from_slice.Goals as goal

pub returns-clause-found : goal.returns-clause-found
returns-clause-found c =
    let takes = takes_header c.args.slice.now _ c.in_ok-header.ensures.exact in
    is_read IsDoubleVlanHeader double_vlan_header_of double_encoding (λ prefix. prefix)
    encoding-double_vlan_header_of c.args.slice.now c.in_ok-header.header double_vlan_len
    c.to_header.result takes (λ i. omega (arith, c.type_inv.slice i))
    takes.found.0.whole c.to_header.ensures

pub returns-clause-only : goal.returns-clause-only
returns-clause-only c =
    let takes = takes_header c.args.slice.now _ c.in_ok-header.ensures.exact in
    only_read IsDoubleVlanHeader double_vlan_header_of c.args.slice.now c.in_ok-header.header
    double_vlan_len c.to_header.result takes
    takes.found.0.whole c.to_header.ensures
