use Rattle.ep_ipslice.proofs.LaxLaws.{auth_len_stops, auth_stops, row_len_stops, row_stops}
use Rattle.ep_ipslice.proofs.laws.lax.faults_of_extension_headers_stop.Goals as goal

pub returns-clause-auth : goal.returns-clause-auth
returns-clause-auth c = auth_stops

pub returns-clause-auth_len : goal.returns-clause-auth_len
returns-clause-auth_len c = auth_len_stops

pub returns-clause-row : goal.returns-clause-row
returns-clause-row c = row_stops

pub returns-clause-row_len : goal.returns-clause-row_len
returns-clause-row_len c = row_len_stops
