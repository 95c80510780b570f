use Rattle.std.proofs.Common.{◌∙◌, ap, arith, sym, length}
use Rattle.ep_icmp.specs.Icmpv6.{icmpv6_header_of, encoding}
use Rattle.ep_icmp.proofs.Icmpv6EncodedThenParsed.{header_again}
use Rattle.ep_icmp.proofs.Layouts.{prefix_of}
use Rattle.ep_icmp.proofs.Outcomes.{ok_and}
use Rattle.ep_icmp.proofs.laws.icmpv6.header_is_read_again.Goals as goal

pub returns : goal.returns
returns c = λ rest slice_is out.
    let h = c.args.header.now in
    let bytes = c.to_bytes-bytes.ensures in
    let prefix = prefix_of 8 c.args.slice.now (encoding h) rest slice_is
    (ap length (sym bytes.bytes) ∙ bytes.len) in
    ok_and c.from_slice.result _ _
    (c.from_slice.ensures.only (record { least = omega (arith, prefix.0) }))
    c.from_slice.ensures.found
    (λ r read. (
      read.fields ∙ ap icmpv6_header_of slice_is
          ∙ header_again h rest bytes.fits out,
      read.after ∙ prefix.1,
    ))
