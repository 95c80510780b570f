use Rattle.std.proofs.Common.{◌≡◌, ◌∙◌, ap, ap₂, drop, subst, sym, IfOk}
use Rattle.ep_link.specs.Ethernet.{ethernet_len, payload_of}
use Rattle.ep_link.specs.Frame.{EthernetFrame, before_fcs}
use Rattle.ep_link.specs.declared.link.link_slice.LinkSlice.TheVariants as link
use Rattle.ep_packet.specs.Parts.{ArePartsOf}
use Rattle.ep_packet.specs.SliceFault.{later}
use Rattle.ep_packet.specs.Sliced.{in_frame, packet_after, sliced_ethernet}
use Rattle.ep_packet.proofs.ClassLemmas.{class_agrees}
use Rattle.ep_packet.proofs.PartsLemmas.{at_drop, frame_is}
use Rattle.ep_packet.proofs.SlicedLemmas.{parts_in_frame}
use Rattle.ep_packet.proofs.sliced_packet.SlicedPacket.from_ethernet.Goals as goal
use Rattle.ep_tag.specs.Ether.{EtherPayload}

payload_is : (c : goal.After-after_link) → c.payload-payload.result ≡ payload_of c.args.slice.now
payload_is c = c.payload-payload.ensures.payload
    ∙ ap (λ (f : EthernetFrame). payload_of (before_fcs f))
    (frame_is c.args.slice.now c.in-Ok.frame c.in-Ok.ensures.exact).0

exact : (c : goal.After-after_link) → c.after_link.result ≡ sliced_ethernet c.args.slice.now
exact c =
    let whole = frame_is c.args.slice.now c.in-Ok.frame c.in-Ok.ensures.exact in
    c.after_link.ensures.exact
    ∙ ap₂ (λ (f : EthernetFrame) (p : EtherPayload). later ethernet_len (packet_after (link.Ethernet2 f) p))
    whole.0 (payload_is c)
    ∙ ap in_frame (sym whole.2)

pub returns-clause-parts : goal.returns-clause-parts
returns-clause-parts c =
    let whole = frame_is c.args.slice.now c.in-Ok.frame c.in-Ok.ensures.exact in
    parts_in_frame c.args.slice.now (drop ethernet_len c.args.slice.now) ethernet_len
    c.after_link.result (at_drop ethernet_len c.args.slice.now whole.1)
    (subst (λ (p : EtherPayload). IfOk c.after_link.result
    (λ packet. ArePartsOf p.payload 0 packet)) (payload_is c) c.after_link.ensures.parts)

pub returns-clause-class : goal.returns-clause-class
returns-clause-class c = class_agrees c.args.slice.now c.after_link.result (exact c)

pub returns-clause-exact : goal.returns-clause-exact
returns-clause-exact c = exact c
