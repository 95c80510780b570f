use Rattle.std.proofs.Common.{arith, ◌-◌, length}
use Rattle.ep_packet.proofs.HeaderLemmas.{message_fits}
use Rattle.ep_packet.proofs.layer_headers.LayerHeaders.in_packet.Goals as goal

pub returns-in-Err-clause-offset : goal.returns-in-Err-clause-offset
returns-in-Err-clause-offset c =
    message_fits c.args.slice.now c.args.headers c.args.payload
    (c.packet_len.result - length c.payload.inside.payload.now) c.payload.inside.len_source
    c.in-Err.error c.within-error.result c.moved.result
    c.requires c.in-Err.ensures.offset c.within-error.ensures
    (omega (arith, c.packet_len.ensures)) c.moved.ensures
