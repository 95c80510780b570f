use Rattle.ep_ext.proofs.Rows.{end_closed, end_fault}
use Rattle.ep_ext.proofs.laws.chains.row_ends_where_none_is_taken.Goals as goal

pub returns-clause-closed : goal.returns-clause-closed
returns-clause-closed c = end_closed

pub returns-clause-fault : goal.returns-clause-fault
returns-clause-fault c = end_fault
