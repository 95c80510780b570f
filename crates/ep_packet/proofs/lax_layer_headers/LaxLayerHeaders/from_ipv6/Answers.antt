use Rattle.std.proofs.Common.{ap, length, ◌∙◌, Some}
use Rattle.ep_base.specs.declared.err.layer.Layer.TheVariants.{Ipv6Header}
use Rattle.ep_packet.specs.LaxPacketHeaders.{no_lax_headers}
use Rattle.ep_packet.specs.declared.err.packet.slice_error.SliceError.{SliceError}
use Rattle.ep_packet.proofs.LaxHeadersLemmas.{ipv6_fault_moves, ipv6_headers_move}
use Rattle.ep_packet.proofs.lax_layer_headers.LaxLayerHeaders.from_ipv6.Goals as goal

pub returns-in-Ok-clause-offset : goal.returns-in-Ok-clause-offset
returns-in-Ok-clause-offset c = ipv6_headers_move (length c.args.slice.now) c.in-Ok.headers
    c.in_ipv6.result c.in-Ok.ensures.within c.in-Ok.ensures.offset c.in_ipv6.ensures

pub returns-in-Err-clause-offset : goal.returns-in-Err-clause-offset
returns-in-Err-clause-offset c = ipv6_fault_moves c.args.slice.now c.in-Err.error c.none.result
    c.in-Err.ensures.exact
    (c.none.ensures ∙ ap (λ (e : SliceError). no_lax_headers (Some (e, Ipv6Header))) c.of_ipv6_header.ensures)
