use Rattle.std.proofs.Common.{ap, ◌∙◌}
use Rattle.ep_ipslice.specs.Compared.{lax_value}
use Rattle.ep_packet.specs.LaxPacketHeaders.{in_lax_ipv6_headers, with_lax_message}
use Rattle.ep_packet.specs.LaxSliced.{lax_transport_in}
use Rattle.ep_packet.proofs.lax_layer_headers.LaxLayerHeaders.in_ipv6.Goals as goal

pub returns : goal.returns
returns c =
    let h = c.headers.inside in
    c.in_packet.ensures
    ∙ (λ i. with_lax_message (c.from.ensures i) (lax_value h.payload)
    (lax_transport_in h.len (lax_value h.payload).1 (c.exts_stop.ensures i)))
    ∙ ap in_lax_ipv6_headers c.headers.view_is
