use Rattle.std.proofs.Common.{sym}
use Rattle.ep_packet.proofs.layer_headers.LayerHeaders.from_ip.Goals as goal

pub in_packet-requires : goal.in_packet-requires
in_packet-requires c = (c.ip_headers_are_their_parts.ensures.ip c.args.slice.now c.in-Ok.headers
    c.in-Ok.payload).0 (sym c.in-Ok.ensures.exact)
