use Rattle.ep_ext.proofs.Faults.{auth_moves, row_fault_moves}
use Rattle.ep_ext.proofs.Prefixes.{fault_moves}
use Rattle.ep_ext.proofs.laws.chains.faults_can_be_moved.Goals as goal

pub returns-clause-prefix : goal.returns-clause-prefix
returns-clause-prefix c = fault_moves

pub returns-clause-row : goal.returns-clause-row
returns-clause-row c = row_fault_moves

pub returns-clause-auth : goal.returns-clause-auth
returns-clause-auth c = auth_moves
