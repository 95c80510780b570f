use Rattle.std.proofs.Common.{arith, rules}
use Rattle.ep_ip.proofs.Ipv6Encoding.{put_addresses}
use Rattle.ep_ip.proofs.net.ipv6_header.Ipv6Header.field_bytes.Goals as goal

pub returns-clause-bytes : goal.returns-clause-bytes
returns-clause-bytes c =
    let h = c.args.self.now in
    rw (
      c.copy_from_slice.ensures.after,
      c.to_be_bytes.ensures,
      c.first_word.ensures.value,
      c.copy_from_slice-2.ensures.after,
      c.to_be_bytes-payload_length.ensures,
      c.copy_from_slice-3.ensures.after,
      c.copy_from_slice-4.ensures.after,
    )
    (put_addresses _ _ _ _ _ _ h.next_header.0 h.hop_limit h.source h.destination
    (search rules) (search rules))

pub returns-clause-fits : goal.returns-clause-fits
returns-clause-fits c = record {
  traffic_class = c.first_word.ensures.class;
  flow_label = c.first_word.ensures.label;
  payload_length = omega arith;
  source = search rules;
  destination = search rules;
}
