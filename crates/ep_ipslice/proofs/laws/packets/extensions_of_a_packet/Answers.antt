use Rattle.ep_ipslice.proofs.Ipv6At.{extensions_agree}
use Rattle.ep_ipslice.proofs.laws.packets.extensions_of_a_packet.Goals as goal

pub returns : goal.returns
returns c = extensions_agree c.whole_header_is_found.ensures.found
    c.whole_header_is_found.ensures.least
