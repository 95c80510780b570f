use Rattle.ep_ipslice.proofs.InSlots.{row_in_slots}
use Rattle.ep_ipslice.proofs.laws.packets.rows_in_slots_are_views.Goals as goal

pub returns : goal.returns
returns c = row_in_slots
