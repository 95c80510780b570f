use Rattle.std.proofs.Common.{subst, sym, ℕ, ◌-◌, arith, Ok, Err}
use Rattle.ep_ext.specs.Chain.{Chain}
use Rattle.ep_ipslice.specs.Ipv6Exts.{view_order}
use Rattle.ep_ipslice.specs.Ipv6Fault.{IsIpv6Fault, IsRowFault, OfExtensions}
use Rattle.ep_ipslice.specs.Packet.{Ipv6Packet, IsIpv6Packet}
use Rattle.ep_ipslice.proofs.Ipv6At.{found_exactly}
use Rattle.ep_ipslice.proofs.Ipv6Parts.{body_fits, prefix_fault, packet_by_itself}
use Rattle.ep_ipslice.proofs.Ipv6Parts.{packet_found, row_fault}
use Rattle.ep_ipslice.proofs.net.ipv6_slice.Ipv6Slice.from_slice.Goals as goal

abbrev packet : goal.After-is_fragmenting_payload-fragmented → Ipv6Packet
packet c = record {
  header = c.in-Ok.parts.0;
  exts = c.in-Ok-from_slice.exts;
  payload = record {
    ip_number = c.in-Ok-from_slice.ip_number;
    fragmented = c.is_fragmenting_payload-fragmented.result;
    len_source = c.in-Ok.parts.1;
    payload = c.in-Ok-from_slice.payload.now;
  };
}

found : (c : goal.After-is_fragmenting_payload-fragmented)
    → IsIpv6Packet c.args.slice.now (packet c)
found c =
    let found = c.in-Ok-from_slice.ensures.found in
    packet_found c.args.slice.now c.in-Ok.parts.0 c.in-Ok.parts.2.now
    c.next_header.result.0 c.in-Ok.parts.1
    found.0 found.1 found.2 c.in-Ok-from_slice.exts c.in-Ok-from_slice.ip_number
    c.is_fragmenting_payload-fragmented.result c.in-Ok-from_slice.payload.now
    c.in-Ok.ensures.found c.next_header.ensures
    found.3 found.4.0 found.4.1 found.4.2 found.4.3 c.is_fragmenting_payload-fragmented.ensures

pub invariant_of-result : goal.invariant_of-result
invariant_of-result c = packet_by_itself c.args.slice.now (packet c) (found c)

refused : (c : goal.After-of_extensions) → IsIpv6Fault c.args.slice.now c.of_extensions.result
refused c =
    let found = c.in-Err-from_slice.ensures.found in
    let chain = subst (λ (n : ℕ). Chain view_order n c.in-Ok.parts.2.now found.0 found.1 found.2)
    c.next_header.ensures found.3 in
    let row = row_fault view_order c.args.slice.now c.in-Ok.parts.0 c.in-Ok.parts.1
    c.in-Ok.parts.2.now found.0 found.1 found.2
    (c.in-Err-from_slice.error, found.4.0) c.in-Ok.ensures.found chain found.4.1 in
    OfExtensions c.in-Ok.parts.0 c.in-Ok.ensures.header
    (subst (IsRowFault view_order c.args.slice.now c.in-Ok.parts.0)
    (sym c.of_extensions.ensures) row)

pub of_extensions-requires : goal.of_extensions-requires
of_extensions-requires c =
    c.in-Err-from_slice.ensures.offset 40
    (omega (
      arith,
      body_fits c.args.slice.now c.in-Ok.parts.0 c.in-Ok.parts.1
          c.in-Ok.parts.2.now c.in-Ok.ensures.found,
    ))

pub returns-in-Ok-from_slice : goal.returns-in-Ok-from_slice
returns-in-Ok-from_slice c = record {
  exact = found_exactly c.whole_header_is_found.ensures.found c.whole_header_is_found.ensures.least
      c.args.slice.now (Ok (packet c)) (found c) tt;
}

pub returns-in-Err-from_slice : goal.returns-in-Err-from_slice
returns-in-Err-from_slice c = record {
  exact = found_exactly c.whole_header_is_found.ensures.found c.whole_header_is_found.ensures.least
      c.args.slice.now (Err c.of_extensions.result) tt (refused c);
}

pub returns-in-Err : goal.returns-in-Err
returns-in-Err c = record {
  exact = found_exactly c.whole_header_is_found.ensures.found c.whole_header_is_found.ensures.least
      c.args.slice.now (Err c.in-Err.error) tt
      (prefix_fault c.args.slice.now c.in-Err.error c.in-Err.ensures.refused);
}
