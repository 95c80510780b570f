use Rattle.std.proofs.Common.{◌≡◌, ◌≤◌, ◌∙◌, ℕ, List, refl, sym, subst, ap, take, length, arith}
use Rattle.std.proofs.lemmas.Bool.{ltb-false}
use Rattle.ep_ip.specs.Ipv4.{total_len_of}
use Rattle.ep_ext.specs.Ipv4Exts.{IsAuthAfter}
use Rattle.ep_ext.specs.declared.net.ipv6_ext_slot.Ipv6ExtSlot.TheVariants.{Authentication}
use Rattle.ep_ext.proofs.Found.{auth_after_found}
use Rattle.ep_ipslice.specs.Packet.{IsIpv4Packet}
use Rattle.ep_ipslice.proofs.LaxIpv4.{body_here}
use Rattle.ep_ipslice.proofs.Ipv4Parts.{packet_again, packet_by_itself, packet_found, payload_agrees}
use Rattle.ep_ipslice.proofs.net.ipv4_slice.Ipv4Slice.after_header.Goals as goal

found : (c : goal.After-is_fragmenting_payload-fragmented)
    → IsIpv4Packet c.args.slice.now
    (record { header = c.args.header; auth = c.in-Ok.exts.auth; payload = c.in-Ok.payload.now })
found c =
    let bytes : List ℕ = c.args.slice.now in
    let header : List ℕ = c.args.header in
    let total : ℕ = total_len_of header in
    let counted : c.from-total_len.result ≡ total = c.from-total_len.ensures ∙ c.total_len.ensures in
    let fits : length header ≤ total = omega (
      arith,
      ap length c.slice-header_len.ensures.bytes,
      counted,
      c.if-total_len-header_len.false,
    ) in
    packet_found bytes header c.requires.0 (take total bytes)
    c.body_of-incomplete.result.0.now c.in-Ok.payload.now c.in-Ok.exts.auth total
    c.slice-header_len.ensures.header c.requires.1 refl fits
    (ltb-false (length bytes) total (sym c.body_of-incomplete.ensures.incomplete
    ∙ c.if-incomplete.false)) refl
    (body_here bytes header _ fits c.body_of-incomplete.ensures.bytes)
    (subst (λ (n : ℕ). IsAuthAfter n c.in-Ok.exts.auth) c.protocol.ensures
    (auth_after_found c.protocol.result.0 c.body_of-incomplete.result.0.now c.in-Ok.exts.auth
    c.in-Ok.ensures.exact.0).1.named)
    c.in-Ok.ensures.exact.1

pub invariant_of-result : goal.invariant_of-result
invariant_of-result c = (
  payload_agrees c.args.header c.in-Ok.exts.auth c.in-Ok.ip_number
      c.is_fragmenting_payload-fragmented.result c.in-Ok.payload.now c.protocol.result.0
      c.protocol.ensures c.in-Ok.ensures.exact.2 c.is_fragmenting_payload-fragmented.ensures,
  packet_by_itself c.args.slice.now
      (record { header = c.args.header; auth = c.in-Ok.exts.auth; payload = c.in-Ok.payload.now })
      (found c),
)

pub returns-in-Ok : goal.returns-in-Ok
returns-in-Ok c = record {
  exact = sym (packet_again (c.whole_header_is_found.ensures.found Authentication) c.args.slice.now
      (record {
        header = c.args.header;
        auth = c.in-Ok.exts.auth;
        payload = c.in-Ok.payload.now;
      }) (found c));
}
