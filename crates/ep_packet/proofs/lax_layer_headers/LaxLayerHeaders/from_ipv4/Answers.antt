use Rattle.std.proofs.Common.{ap, ◌∙◌, Some}
use Rattle.ep_base.specs.declared.err.layer.Layer.TheVariants.{Ipv4Header}
use Rattle.ep_packet.specs.LaxPacketHeaders.{lax_ipv4_headers, no_lax_headers}
use Rattle.ep_packet.specs.declared.err.packet.slice_error.SliceError.{SliceError}
use Rattle.ep_packet.proofs.LaxHeadersLemmas.{ipv4_headers_move}
use Rattle.ep_packet.proofs.lax_layer_headers.LaxLayerHeaders.from_ipv4.Goals as goal

pub returns-in-Ok-clause-offset : goal.returns-in-Ok-clause-offset
returns-in-Ok-clause-offset c = ipv4_headers_move
    (record {
      headers = c.lax_faults_can_be_moved.ensures.ipv4_headers;
      stop = c.lax_faults_can_be_moved.ensures.ipv4_stop;
      header = c.lax_faults_can_be_moved.ensures.ipv4_header;
    }) c.args.slice.now c.in_ipv4.result
    (c.in_ipv4.ensures ∙ ap lax_ipv4_headers c.in-Ok.ensures.exact)

pub returns-in-Err-clause-offset : goal.returns-in-Err-clause-offset
returns-in-Err-clause-offset c = ipv4_headers_move
    (record {
      headers = c.lax_faults_can_be_moved.ensures.ipv4_headers;
      stop = c.lax_faults_can_be_moved.ensures.ipv4_stop;
      header = c.lax_faults_can_be_moved.ensures.ipv4_header;
    }) c.args.slice.now c.none.result
    (c.none.ensures ∙ ap (λ (e : SliceError). no_lax_headers (Some (e, Ipv4Header))) c.of_ipv4_header.ensures
    ∙ ap lax_ipv4_headers c.in-Err.ensures.exact)
