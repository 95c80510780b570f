use Rattle.std.proofs.Common.{◌+◌, ◌-◌, arith, length, refl}
use Rattle.ep_packet.proofs.LaxHeadersAt.{faults_move, read_row, stop_moves}
use Rattle.ep_packet.proofs.net.lax_ip_headers.LaxIpv6Headers.from_slice.Goals as goal

pub fault_of_body-requires : goal.fault_of_body-requires
fault_of_body-requires c =
    let found = c.from_slice_lax-extensions.ensures.found in
    faults_move c.faults_can_be_moved.ensures.row 40 c.in-Ok.parts.3.now
    c.next_header.result.0 found.0 found.1 found.2 c.from_slice_lax-extensions.result.3
    (omega (arith, c.in-Ok.ensures.within)) found.3 found.4.fault

pub returns-clause-exact : goal.returns-clause-exact
returns-clause-exact c =
    let row = c.from_slice_lax-extensions in
    let found = row.ensures.found in
    let parts = c.in-Ok.parts in
    rw (c.fault_of_body.ensures)
    (read_row c.rows_are_found.ensures
    c.args.slice.now parts.0 parts.3.now c.next_header.result.0
    parts.2 parts.1 found.0 found.1 found.2 c.to_header.result
    row.result.0 row.result.1 c.is_fragmenting_payload-fragmented.result row.result.2.now
    row.result.3 (40 + (length parts.3.now - length row.result.2.now))
    (record {
      at = c.in-Ok.ensures.header;
      named = c.next_header.ensures;
      taken = c.in-Ok.ensures.body;
      cut = c.in-Ok.ensures.incomplete;
      bounded = c.in-Ok.ensures.source;
    }) found.3
    (record {
      value = found.4.value;
      numbered = found.4.number;
      flag = c.is_fragmenting_payload-fragmented.ensures;
      left = found.4.left;
      ended = found.4.fault;
    }) c.to_header.ensures refl)

pub returns-clause-within : goal.returns-clause-within
returns-clause-within c = omega (arith, c.in-Ok.ensures.within)

pub returns-clause-offset : goal.returns-clause-offset
returns-clause-offset c = λ n fits.
    let found = c.from_slice_lax-extensions.ensures.found in
    rw (c.fault_of_body.ensures)
    (stop_moves c.in-Ok.parts.1 n c.from_slice_lax-extensions.result.3
    (faults_move c.faults_can_be_moved.ensures.row (40 + n) c.in-Ok.parts.3.now
    c.next_header.result.0 found.0 found.1 found.2 c.from_slice_lax-extensions.result.3
    (omega (arith, fits, c.in-Ok.ensures.within)) found.3 found.4.fault))
