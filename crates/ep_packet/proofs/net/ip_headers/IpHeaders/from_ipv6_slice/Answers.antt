use Rattle.std.proofs.Common.{Err, Ok, sym, subst, refl}
use Rattle.ep_ext.specs.Slot.{slot_of}
use Rattle.ep_ip.specs.Ipv6.{next_header_of}
use Rattle.ep_ipslice.specs.Ipv6Fault.{IsFaultIn, IsRowFault, OfExtensions}
use Rattle.ep_packet.specs.ReadIpHeaders.{IsIpv6Headers}
use Rattle.ep_packet.specs.declared.net.ip_headers.IpHeaders.TheVariants.{Ipv6}
use Rattle.ep_packet.proofs.HeadersAt.{found_exactly}
use Rattle.ep_packet.proofs.ReadHeaders.{Parts, chain_same, prefix_fault, ipv6_found}
use Rattle.ep_packet.proofs.net.ip_headers.IpHeaders.from_ipv6_slice.Goals as goal

abbrev parts : goal.After-to_header → Parts
parts c = (
  Ipv6 c.to_header.result c.in-Ok-from_slice.extensions,
  record {
    ip_number = c.in-Ok-from_slice.ip_number;
    fragmented = c.is_fragmenting_payload-fragmented.result;
    len_source = c.in-Ok.parts.1;
    payload = c.in-Ok-from_slice.payload.now;
  },
)

found : (c : goal.After-to_header) → IsIpv6Headers c.args.slice.now (parts c).0 (parts c).1
found c =
    let found = c.in-Ok-from_slice.ensures.found in
    ipv6_found c.args.slice.now c.to_header.result c.in-Ok.parts.0 c.in-Ok.parts.1
    c.in-Ok.parts.2.now c.next_header.result.0 found.0 found.1 found.2
    c.in-Ok-from_slice.extensions c.in-Ok-from_slice.ip_number
    c.is_fragmenting_payload-fragmented.result c.in-Ok-from_slice.payload.now c.to_header.ensures
    c.in-Ok.ensures.found c.next_header.ensures found.3 found.4.0 found.4.1 found.4.2 found.4.3
    c.is_fragmenting_payload-fragmented.ensures

pub returns-in-Err : goal.returns-in-Err
returns-in-Err c = record {
  exact = found_exactly c.rows_are_found.ensures c.args.slice.now (Err c.in-Err.error) tt
      (prefix_fault slot_of c.args.slice.now c.in-Err.error c.in-Err.ensures.refused);
}

refused : (c : goal.After-of_extensions)
    → IsFaultIn slot_of c.args.slice.now c.of_extensions.result
refused c =
    let found = c.in-Err-from_slice.ensures.found in
    let header = c.in-Ok.parts.0 in
    let body = c.in-Ok.parts.2.now in
    let chain = chain_same (next_header_of header) c.next_header.result.0 body body found.0 found.1
    found.2 (sym c.next_header.ensures) refl found.3 in
    let row = c.bodies_lie_within.ensures.fault slot_of c.args.slice.now header c.in-Ok.parts.1
    body found.0 found.1 found.2 (c.in-Err-from_slice.error, found.4.0)
    c.in-Ok.ensures.found chain found.4.1 in
    OfExtensions header c.in-Ok.ensures.header
    (subst (IsRowFault slot_of c.args.slice.now header) (sym c.of_extensions.ensures) row)

pub returns-in-Err-from_slice : goal.returns-in-Err-from_slice
returns-in-Err-from_slice c = record {
  exact = found_exactly c.rows_are_found.ensures c.args.slice.now (Err c.of_extensions.result) tt (refused c);
}

pub returns-in-Ok-from_slice : goal.returns-in-Ok-from_slice
returns-in-Ok-from_slice c = record {
  exact = found_exactly c.rows_are_found.ensures c.args.slice.now (Ok (parts c)) (found c) tt;
}
