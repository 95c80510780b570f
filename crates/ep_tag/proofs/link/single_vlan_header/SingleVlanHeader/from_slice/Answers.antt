use Rattle.std.proofs.Common.{arith}
use Rattle.ep_base.specs.Prefixes.{IsOfLength}
use Rattle.ep_tag.specs.Vlan.{single_vlan_header_of, encoding, vlan_len}
use Rattle.ep_base.proofs.Prefixes.{is_read, only_read}
use Rattle.ep_tag.proofs.VlanEncoding.{encoding-single_vlan_header_of}
use Rattle.ep_base.specs.declared.err.layer.Layer.TheVariants.{VlanHeader}
use Rattle.ep_tag.proofs.Prefix.{takes_prefix}
use Rattle.ep_tag.proofs.link.single_vlan_header.SingleVlanHeader.from_slice.Goals as goal

pub returns-clause-found : goal.returns-clause-found
returns-clause-found c =
    let takes = takes_prefix VlanHeader vlan_len c.args.slice.now _ c.in_ok-header.ensures.exact in
    is_read (IsOfLength vlan_len) single_vlan_header_of encoding
    (λ prefix. prefix) encoding-single_vlan_header_of c.args.slice.now c.in_ok-header.header
    vlan_len c.to_header.result
    takes (λ i. omega (arith, c.type_inv.slice i))
    takes.found.0 c.to_header.ensures

pub returns-clause-only : goal.returns-clause-only
returns-clause-only c =
    let takes = takes_prefix VlanHeader vlan_len c.args.slice.now _ c.in_ok-header.ensures.exact in
    only_read (IsOfLength vlan_len) single_vlan_header_of c.args.slice.now c.in_ok-header.header
    vlan_len
    c.to_header.result takes
    takes.found.0 c.to_header.ensures
