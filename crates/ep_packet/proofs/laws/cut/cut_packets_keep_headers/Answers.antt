use Rattle.ep_packet.proofs.CutHeaders.{link_cut, tags_cut, transport_cut}
use Rattle.ep_packet.proofs.laws.cut.cut_packets_keep_headers.Goals as goal

pub returns-clause-link : goal.returns-clause-link
returns-clause-link c = link_cut

pub returns-clause-tags : goal.returns-clause-tags
returns-clause-tags c = tags_cut c.cut_tags_are_found.ensures.fields

pub returns-clause-transport : goal.returns-clause-transport
returns-clause-transport c = transport_cut
