use Rattle.ep_packet.proofs.net.ip_headers.IpHeaders.from_ipv4_slice_lax.Goals as goal
use Rattle.ep_packet.proofs.LaxHeadersAt.{ipv4_read}

pub returns-in-Ok : goal.returns-in-Ok
returns-in-Ok c = record {
  exact = ipv4_read c.args.slice.now c.in-Ok.packet c.in-Ok.fault c.ipv4_parts-headers.result.0
      c.ipv4_parts-headers.result.1 c.in-Ok.ensures.exact c.ipv4_parts-headers.ensures.headers
      c.ipv4_parts-headers.ensures.payload;
}
