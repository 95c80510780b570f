use Rattle.std.proofs.Common.{◌∙◌, ap, sym, length, drop}
use Rattle.ep_icmp.specs.Icmpv4.{header_len, icmpv4_header_of, encoding}
use Rattle.ep_icmp.proofs.Icmpv4EncodedThenParsed.{header_again, message_again}
use Rattle.ep_icmp.proofs.Layouts.{prefix_of}
use Rattle.ep_icmp.proofs.Outcomes.{ok_and}
use Rattle.ep_icmp.proofs.laws.icmpv4.header_is_read_again.Goals as goal

pub returns : goal.returns
returns c = λ rest slice_is out payload.
    let h = c.args.header.now in
    let bytes = c.to_bytes-bytes.ensures in
    let prefix = prefix_of (header_len h.icmp_type) c.args.slice.now (encoding h) rest slice_is
    (ap length (sym bytes.bytes) ∙ bytes.len) in
    let message = message_again h c.args.slice.now rest slice_is prefix.0 bytes.fits out payload in
    ok_and c.from_slice.result _ _ (c.from_slice.ensures.only message) c.from_slice.ensures.found
    (λ r read.
    let same = read.fields ∙ ap icmpv4_header_of slice_is ∙ header_again h rest bytes.fits out in (
      same,
      read.after ∙ ap (λ other. drop (header_len other.icmp_type) c.args.slice.now) same
          ∙ prefix.1,
    ))
