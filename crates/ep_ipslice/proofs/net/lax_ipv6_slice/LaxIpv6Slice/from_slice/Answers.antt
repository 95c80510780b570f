use Rattle.std.proofs.Common.{arith}
use Rattle.ep_ipslice.proofs.LaxIpv6.{faults_move, read_row}
use Rattle.ep_ipslice.proofs.net.lax_ipv6_slice.LaxIpv6Slice.from_slice.Goals as goal

pub fault_of_body-requires : goal.fault_of_body-requires
fault_of_body-requires c =
    let found = c.from_slice_lax-exts.ensures.found in
    faults_move c.faults_can_be_moved.ensures.row c.args.slice.now c.in-Ok.parts.3.now
    c.next_header.result.0 found.0 found.1 found.2 c.from_slice_lax-exts.result.3
    (omega arith) c.in-Ok.ensures.within found.3 found.4.fault

pub returns : goal.returns
returns c =
    let row = c.from_slice_lax-exts in
    let found = row.ensures.found in
    let parts = c.in-Ok.parts in
    record {
      exact = rw (c.fault_of_body.ensures)
          (read_row c.whole_header_is_found.ensures.found c.whole_header_is_found.ensures.least
          c.args.slice.now parts.0 parts.3.now c.next_header.result.0
          parts.2 parts.1 found.0 found.1 found.2
          row.result.0 row.result.1 c.is_fragmenting_payload-fragmented.result row.result.2.now
          row.result.3
          (record {
            at = c.in-Ok.ensures.header;
            named = c.next_header.ensures;
            taken = c.in-Ok.ensures.body;
            cut = c.in-Ok.ensures.incomplete;
            bounded = c.in-Ok.ensures.source;
          }) found.3
          (record {
            view = found.4.view;
            numbered = found.4.number;
            flag = c.is_fragmenting_payload-fragmented.ensures;
            left = found.4.left;
            ended = found.4.fault;
          }));
    }
