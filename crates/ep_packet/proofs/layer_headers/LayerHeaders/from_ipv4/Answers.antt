use Rattle.std.proofs.Common.{inl, sym}
use Rattle.ep_packet.proofs.layer_headers.LayerHeaders.from_ipv4.Goals as goal

pub in_packet-requires : goal.in_packet-requires
in_packet-requires c = inl ((c.ip_headers_are_their_parts.ensures.ipv4 c.args.slice.now c.in-Ok.headers
    c.in-Ok.payload).0 (sym c.in-Ok.ensures.exact))
