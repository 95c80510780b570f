use Rattle.ep_ipslice.proofs.CutPackets.{cut_either, cut_v4, cut_v6}
use Rattle.ep_ipslice.proofs.laws.cut.cut_packets_are_found.Goals as goal

pub returns-clause-ipv4 : goal.returns-clause-ipv4
returns-clause-ipv4 c = cut_v4 c.whole_header_is_found.ensures.found

pub returns-clause-ipv6 : goal.returns-clause-ipv6
returns-clause-ipv6 c = cut_v6 c.whole_header_is_found.ensures.found c.whole_header_is_found.ensures.least

pub returns-clause-ip : goal.returns-clause-ip
returns-clause-ip c = cut_either c.whole_header_is_found.ensures.found
    c.whole_header_is_found.ensures.least
