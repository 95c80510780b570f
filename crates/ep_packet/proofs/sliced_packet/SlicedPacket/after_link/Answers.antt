use Rattle.std.proofs.Common.{Some, subst, sym, ℕ, ◌+◌, ◌<◌, ◌^◌, length}
use Rattle.std.proofs.Math.Facts.{Fits-of_lt}
use Rattle.ep_packet.specs.Parts.{LayersIn, TagsIn}
use Rattle.ep_packet.specs.SliceFault.{fault_offset}
use Rattle.ep_packet.specs.Sliced.{Layers}
use Rattle.ep_packet.specs.Tags.{Tagged}
use Rattle.ep_packet.proofs.SlicedLemmas.{faulty_tags, named_fits, parts_named, tags_fit}
use Rattle.ep_packet.proofs.sliced_packet.SlicedPacket.after_link.Goals as goal
use Rattle.ep_tag.specs.Ether.{EtherPayload}

pub returns-in-Err-clause-exact : goal.returns-in-Err-clause-exact
returns-in-Err-clause-exact c =
    faulty_tags c.args.link c.args.payload c.args.link_len c.in-Err.error c.moved.result
    c.in-Err.ensures.tags c.moved.ensures

pub overflow_add-offset : goal.overflow_add-offset
overflow_add-offset c =
    let t : Tagged =
    record {
      tags = c.tagged.inside.tags.items;
      len = c.tagged.inside.len;
      last = c.tagged.inside.last;
    } in
    Fits-of_lt
    (tags_fit c.args.payload.payload c.args.link_len t c.in-Some.last c.in-Some.is
    (subst (TagsIn c.args.payload.payload 0) (sym c.tagged.view_is) c.in-Ok.ensures.parts)
    c.requires)

pub returns-in-Ok-from_ipv4-clause-parts : goal.returns-in-Ok-from_ipv4-clause-parts
returns-in-Ok-from_ipv4-clause-parts c =
    let t : Tagged =
    record {
      tags = c.tagged.inside.tags.items;
      len = c.tagged.inside.len;
      last = c.tagged.inside.last;
    } in
    let layers : Layers = record { net = c.layers.inside.net; transport = c.layers.inside.transport } in
    parts_named c.args.payload.payload (Some c.args.link) t c.in-Some.last layers
    c.in-Ok-from_ipv4.layers c.in-Some.is
    (subst (TagsIn c.args.payload.payload 0) (sym c.tagged.view_is) c.in-Ok.ensures.parts)
    c.layers.view_is
    (subst (λ (p : EtherPayload). LayersIn p.payload 0 c.in-Ok-from_ipv4.layers) c.last.view_is
    c.in-Ok-from_ipv4.ensures.parts)

pub moved-requires-in-Err-from_ipv4 : goal.moved-requires-in-Err-from_ipv4
moved-requires-in-Err-from_ipv4 c =
    let t : Tagged =
    record {
      tags = c.tagged.inside.tags.items;
      len = c.tagged.inside.len;
      last = c.tagged.inside.last;
    } in
    named_fits c.args.payload.payload c.args.link_len t c.in-Some.last c.in-Err-from_ipv4.error
    c.in-Some.is
    (subst (TagsIn c.args.payload.payload 0) (sym c.tagged.view_is) c.in-Ok.ensures.parts)
    (subst (λ (p : EtherPayload). (n : ℕ) → length p.payload + n < 2 ^ 64
    → fault_offset c.in-Err-from_ipv4.error + n < 2 ^ 64) c.last.view_is c.in-Err-from_ipv4.ensures.offset)
    c.requires

pub returns-in-Ok-from_ipv6-clause-parts : goal.returns-in-Ok-from_ipv6-clause-parts
returns-in-Ok-from_ipv6-clause-parts c =
    let t : Tagged =
    record {
      tags = c.tagged.inside.tags.items;
      len = c.tagged.inside.len;
      last = c.tagged.inside.last;
    } in
    let layers : Layers =
    record {
      net = c.layers-in-Ok-from_ipv6.inside.net;
      transport = c.layers-in-Ok-from_ipv6.inside.transport;
    } in
    parts_named c.args.payload.payload (Some c.args.link) t c.in-Some.last layers
    c.in-Ok-from_ipv6.layers c.in-Some.is
    (subst (TagsIn c.args.payload.payload 0) (sym c.tagged.view_is) c.in-Ok.ensures.parts)
    c.layers-in-Ok-from_ipv6.view_is
    (subst (λ (p : EtherPayload). LayersIn p.payload 0 c.in-Ok-from_ipv6.layers) c.last.view_is
    c.in-Ok-from_ipv6.ensures.parts)

pub moved-requires-in-Err-from_ipv6 : goal.moved-requires-in-Err-from_ipv6
moved-requires-in-Err-from_ipv6 c =
    let t : Tagged =
    record {
      tags = c.tagged.inside.tags.items;
      len = c.tagged.inside.len;
      last = c.tagged.inside.last;
    } in
    named_fits c.args.payload.payload c.args.link_len t c.in-Some.last c.in-Err-from_ipv6.error
    c.in-Some.is
    (subst (TagsIn c.args.payload.payload 0) (sym c.tagged.view_is) c.in-Ok.ensures.parts)
    (subst (λ (p : EtherPayload). (n : ℕ) → length p.payload + n < 2 ^ 64
    → fault_offset c.in-Err-from_ipv6.error + n < 2 ^ 64) c.last.view_is c.in-Err-from_ipv6.ensures.offset)
    c.requires

pub returns-in-Ok-from_arp-clause-parts : goal.returns-in-Ok-from_arp-clause-parts
returns-in-Ok-from_arp-clause-parts c =
    let t : Tagged =
    record {
      tags = c.tagged.inside.tags.items;
      len = c.tagged.inside.len;
      last = c.tagged.inside.last;
    } in
    let layers : Layers =
    record {
      net = c.layers-in-Ok-from_arp.inside.net;
      transport = c.layers-in-Ok-from_arp.inside.transport;
    } in
    parts_named c.args.payload.payload (Some c.args.link) t c.in-Some.last layers
    c.in-Ok-from_arp.layers c.in-Some.is
    (subst (TagsIn c.args.payload.payload 0) (sym c.tagged.view_is) c.in-Ok.ensures.parts)
    c.layers-in-Ok-from_arp.view_is
    (subst (λ (p : EtherPayload). LayersIn p.payload 0 c.in-Ok-from_arp.layers) c.last.view_is
    c.in-Ok-from_arp.ensures.parts)
