use Rattle.std.proofs.Common.{rules, ◌≡◌, ◌∙◌, sym, true, None, Some}
use Rattle.ep_ipslice.specs.Packet.{fragment_fields}
use Rattle.ep_packet.specs.Class.{fragmented_class, ipv6_addresses}
use Rattle.ep_packet.specs.Tags.{vlan_ids_of}
use Rattle.ep_packet.specs.declared.addresses.Addresses.TheVariants.{V6}
use Rattle.ep_packet.proofs.ClassLemmas.{ipv6_fragment_agrees}
use Rattle.ep_packet.proofs.sliced_packet.SlicedPacket.ipv6_class.Goals as goal

pub returns-in-Some-clause-class : goal.returns-in-Some-clause-class
returns-in-Some-clause-class c =
    let ids = vlan_ids_of c.args.self.now.link_exts.items in
    let packet = c.args.packet.now in
    let is : packet.payload.fragmented ≡ true = search rules in
    let from : V6 c.source.result c.destination.result ≡ ipv6_addresses packet = search rules in
    let whole = c.extensions-extensions.ensures.whole in
    c.fragment.ensures.class
    ∙ (λ i. fragmented_class ids (from i) (c.payload-in-Some.ensures i)
    (Some (fragment_fields c.in-Some.fields)))
    ∙ sym (ipv6_fragment_agrees ids packet c.args.self.now.transport whole _ is
    (c.extensions_of_a_packet.ensures _ _ whole) (c.in-Some.ensures _ whole))

pub returns-in-None-clause-class : goal.returns-in-None-clause-class
returns-in-None-clause-class c =
    let ids = vlan_ids_of c.args.self.now.link_exts.items in
    let packet = c.args.packet.now in
    let is : packet.payload.fragmented ≡ true = search rules in
    let whole = c.extensions-extensions.ensures.whole in
    sym (ipv6_fragment_agrees ids packet c.args.self.now.transport whole None is
    (c.extensions_of_a_packet.ensures _ _ whole) (c.in-None.ensures _ whole))
