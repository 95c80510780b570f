use Rattle.std.proofs.Common.{arith}
use Rattle.etherparse.proofs.WrittenOver.{written_over}
use Rattle.etherparse.proofs.packet_builder.packet_over_ip.write_over.Goals as goal

pub returns-clause-len : goal.returns-clause-len
returns-clause-len g c =
    let extended = rw c.unwrap.ensures at c.extend_from_slice.ensures.len in
    omega (
      arith,
      extended,
      c.append_transport.ensures.len,
      c.append.ensures.len,
      c.append_vlan.ensures.len,
      c.append_link.ensures.len,
      c.reserve.ensures.len,
      c.in_ok-measure.ensures.len,
      c.in_ok-transport.ensures.len,
    )

pub returns-clause-ok : goal.returns-clause-ok
returns-clause-ok g c =
    let extended = rw c.unwrap.ensures at c.extend_from_slice.ensures.items in
    written_over c.args.prefix (g.I.IpLayer.headers c.args.ip) _ c.args.transport_header _
    c.args.number.0 _ c.args.payload.now c.args.buffer.now.items _ _ _ _ _ _
    c.in_ok-measure.ensures.ok c.in_ok-transport.ensures.ok c.ether_type-ether_type.ensures
    c.reserve.ensures.items c.append_link.ensures.items c.append_vlan.ensures.items
    c.append.ensures.items c.append_transport.ensures.items extended
