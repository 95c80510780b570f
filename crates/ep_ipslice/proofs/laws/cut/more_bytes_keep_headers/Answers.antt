use Rattle.ep_ipslice.proofs.MoreBytes.{v4_more, v6_more}
use Rattle.ep_ipslice.proofs.laws.cut.more_bytes_keep_headers.Goals as goal

pub returns-clause-ipv4 : goal.returns-clause-ipv4
returns-clause-ipv4 c = v4_more c.whole_header_is_found.ensures.found

pub returns-clause-ipv6 : goal.returns-clause-ipv6
returns-clause-ipv6 c = v6_more c.whole_header_is_found.ensures.found c.whole_header_is_found.ensures.least
