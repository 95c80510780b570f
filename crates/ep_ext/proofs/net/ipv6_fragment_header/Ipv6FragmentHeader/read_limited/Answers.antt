use Rattle.std.proofs.Common.{rules, subst}
use Rattle.ep_base.specs.declared.err.layer.Layer.TheVariants.{Ipv6FragHeader}
use Rattle.ep_ext.specs.Fragment.{IsFragment}
use Rattle.ep_ext.specs.Limited.{Limited, Takes, at_next_layer}
use Rattle.ep_ext.proofs.Reading.{fragment_next}
use Rattle.ep_ext.proofs.net.ipv6_fragment_header.Ipv6FragmentHeader.read_limited.Goals as goal

pub returns-in-Ok-clause-only : goal.returns-in-Ok-clause-only
returns-in-Ok-clause-only g c = λ header rest is_header known fits.
    let whole : IsFragment c.read_exact.new.buf = record { whole = search rules } in
    let P : Limited g.row.R.Denot → Type 0 =
    λ r. Takes g.R.Read.remaining r c.read_exact.new.buf c.read_exact.new.self in
    let takes : P (at_next_layer c.args.reader.now Ipv6FragHeader) =
    subst P c.start_layer.ensures c.in-Ok.ensures.read in
    let next = fragment_next (g.R.Read.remaining c.args.reader.now.reader)
    (g.R.Read.remaining c.read_exact.new.self.reader) header rest c.read_exact.new.buf is_header
    known whole takes.consumed in
    (search rules, next.1)
