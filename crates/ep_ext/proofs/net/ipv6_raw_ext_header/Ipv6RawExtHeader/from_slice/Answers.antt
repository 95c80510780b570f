use Rattle.std.proofs.Common.{◌∙◌}
use Rattle.ep_ext.proofs.Alone.{raw_read}
use Rattle.ep_ext.proofs.net.ipv6_raw_ext_header.Ipv6RawExtHeader.from_slice.Goals as goal

pub returns-in-Ok-clause-only : goal.returns-in-Ok-clause-only
returns-in-Ok-clause-only c = λ header rest is_header prefix_is.
    let found = c.in-Ok.ensures.found in
    let read = raw_read c.args.slice.now c.in-Ok.prefix.now c.in-Ok.rest.now header rest found.0
    found.1 is_header prefix_is in
    (c.of_bytes.ensures ∙ read.0, read.1)
