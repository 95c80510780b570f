use Rattle.captures.proofs.GivenLemmas.{ahead_found}
use Rattle.captures.proofs.reading.ahead.look_ahead.Goals as goal

pub returns-in-Some : goal.returns-in-Some
returns-in-Some c =
    let prefix = c.first_packet-packet.result in
    let found = rw c.in-Some.is at c.first_packet-packet.ensures.found in
    let ahead = ahead_found c.args.state.now c.first_packet-packet.new.state c.args.bytes.now
    prefix.rest.now c.bytes.result.now prefix.from c.in-Some.packet c.made_header.result found.0
    found.2 c.bytes.ensures c.made_header.ensures in
    (c.first_packet-packet.ensures.fits, ahead.0, ahead.1, ahead.2)
