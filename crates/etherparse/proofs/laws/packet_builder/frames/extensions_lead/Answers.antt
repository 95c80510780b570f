use Rattle.etherparse.proofs.LinkedExts.{leads}
use Rattle.etherparse.proofs.laws.packet_builder.frames.extensions_lead.Goals as goal

pub returns : goal.returns
returns c =
    let call = c.set_next_headers in
    leads c.args.extensions call.new.self call.result.0 c.args.number.0
    call.ensures.linked call.ensures.chained
