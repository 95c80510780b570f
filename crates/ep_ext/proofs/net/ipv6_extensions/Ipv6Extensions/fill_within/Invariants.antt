use Rattle.ep_ext.specs.ReadsExts.{TakesRow}
use Rattle.ep_ext.proofs.Following.{weigh}
use Rattle.ep_ext.proofs.ReadWalk.{Given}
use Rattle.ep_ext.proofs.net.ipv6_extensions.Ipv6Extensions.fill_within.Given as goal

abbrev pub invariant-pieces : goal.invariant-pieces
invariant-pieces g l = Given (λ pieces. TakesRow g.R.Read.remaining l.fn.reader pieces l.reader)
    l.fn.first.0 l.self l.passed l.number.0

abbrev pub decreases-pieces : goal.decreases-pieces
decreases-pieces g l = weigh (λ _. 1) l.passed
