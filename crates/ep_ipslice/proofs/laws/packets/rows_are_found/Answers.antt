use Rattle.ep_ipslice.proofs.Left.{row_found}
use Rattle.ep_ipslice.proofs.laws.packets.rows_are_found.Goals as goal

pub returns : goal.returns
returns c = row_found c.whole_header_is_found.ensures.found c.whole_header_is_found.ensures.least
