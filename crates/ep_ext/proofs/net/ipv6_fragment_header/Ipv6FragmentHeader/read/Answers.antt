use Rattle.std.proofs.Common.{rules}
use Rattle.ep_ext.specs.Fragment.{IsFragment}
use Rattle.ep_ext.proofs.Reading.{fragment_next}
use Rattle.ep_ext.proofs.net.ipv6_fragment_header.Ipv6FragmentHeader.read.Goals as goal

pub returns-in-Ok-clause-only : goal.returns-in-Ok-clause-only
returns-in-Ok-clause-only g c = λ header rest is_header known.
    let whole : IsFragment c.read_exact.new.buf = record { whole = search rules } in
    let next = fragment_next (g.R.Read.remaining c.args.reader.now)
    (g.R.Read.remaining c.read_exact.new.self) header rest c.read_exact.new.buf is_header known
    whole c.in-Ok.ensures.bytes in
    (search rules, next.1)
