use Rattle.std.proofs.Common.{arith, ap, ◌∙◌, Ok}
use Rattle.ep_link.specs.Arp.{encoding, fields_of}
use Rattle.ep_link.proofs.ArpEncoding.{encoding-fields_of}
use Rattle.ep_base.proofs.Prefixes.{ok_same, prefix_fits}
use Rattle.ep_link.proofs.ArpPrefix.{takes_packet}
use Rattle.ep_link.proofs.link.arp_packet.ArpPacket.from_slice.Goals as goal

pub returns-clause-found : goal.returns-clause-found
returns-clause-found c =
    let packet = c.in_ok-packet.packet in
    let found = (takes_packet c.args.slice.now _ c.in_ok-packet.ensures.exact).found in
    let fits = prefix_fits c.args.slice.now packet found.1.0 found.1.1
    (λ i. omega (arith, c.type_inv.slice i)) in
    record {
      prefix = packet;
      rest = found.1.0;
      packet = found.0;
      offset = found.1.1;
      fields = c.to_packet.ensures;
      again = ap encoding c.to_packet.ensures ∙ encoding-fields_of packet found.0 fits;
    }

pub returns-clause-only : goal.returns-clause-only
returns-clause-only c = λ prefix rest is position.
    let takes = takes_packet c.args.slice.now _ c.in_ok-packet.ensures.exact in
    let same = ok_same _ _ (takes.only prefix rest is position) in
    ap Ok (c.to_packet.ensures ∙ ap fields_of same)

pub returns-in_err-packet-clause-only : goal.returns-in_err-packet-clause-only
returns-in_err-packet-clause-only c = λ prefix rest is position.
    let takes = takes_packet c.args.slice.now _ c.in_err-packet.ensures.exact in
    let never = takes.only prefix rest is position in
    grind arith
