use Rattle.ep_ipslice.proofs.FirstFault.{RowEnds, ip_fault_found, ipv6_fault_found, row_fault}
use Rattle.ep_ipslice.proofs.laws.packets.faults_found_are_first.Goals as goal

ends : (c : goal.After-row_ends_where_none_is_taken) → RowEnds
ends c = record {
  closed = c.row_ends_where_none_is_taken.ensures.closed;
  fault = c.row_ends_where_none_is_taken.ensures.fault;
}

pub returns-clause-ipv6 : goal.returns-clause-ipv6
returns-clause-ipv6 c = ipv6_fault_found (ends c)

pub returns-clause-ip : goal.returns-clause-ip
returns-clause-ip c = ip_fault_found (ends c)

pub returns-clause-row : goal.returns-clause-row
returns-clause-row c = row_fault (ends c)
