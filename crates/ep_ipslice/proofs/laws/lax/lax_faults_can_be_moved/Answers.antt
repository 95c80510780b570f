use Rattle.ep_ipslice.proofs.LaxOffsets.{ipv4_header_moves, ipv4_headers_fit, ipv4_stop_moves}
use Rattle.ep_ipslice.proofs.LaxOffsets.{ipv6_header_moves, ipv6_headers_fit, ipv6_stop_moves}
use Rattle.ep_ipslice.proofs.laws.lax.lax_faults_can_be_moved.Goals as goal

pub returns-clause-ipv4_headers : goal.returns-clause-ipv4_headers
returns-clause-ipv4_headers c = ipv4_headers_fit

pub returns-clause-ipv4_stop : goal.returns-clause-ipv4_stop
returns-clause-ipv4_stop c = ipv4_stop_moves c.faults_can_be_moved.ensures.auth

pub returns-clause-ipv4_header : goal.returns-clause-ipv4_header
returns-clause-ipv4_header c = ipv4_header_moves

pub returns-clause-ipv6_headers : goal.returns-clause-ipv6_headers
returns-clause-ipv6_headers c = ipv6_headers_fit

pub returns-clause-ipv6_stop : goal.returns-clause-ipv6_stop
returns-clause-ipv6_stop c = ipv6_stop_moves c.faults_can_be_moved.ensures.row (record {
  closed = c.row_ends_where_none_is_taken.ensures.closed;
  fault = c.row_ends_where_none_is_taken.ensures.fault;
})

pub returns-clause-ipv6_header : goal.returns-clause-ipv6_header
returns-clause-ipv6_header c = ipv6_header_moves
