use Rattle.std.proofs.Common.{take, ◌∙◌}
use Rattle.ep_ext.proofs.Reading.{raw_next}
use Rattle.ep_ext.proofs.net.ipv6_raw_ext_header.Ipv6RawExtHeader.read.Goals as goal

pub returns-clause-only : goal.returns-clause-only
returns-clause-only g c = λ header rest is_header known.
    let read = c.in_ok-len.ensures in
    let next = raw_next (g.R.Read.remaining c.args.reader.now)
    (g.R.Read.remaining c.read_bytes.new.reader) header rest
    (take c.in_ok-len.len c.read_bytes.new.bytes) is_header known read.1 read.2 in
    (c.of_bytes.ensures ∙ next.0, next.1)
