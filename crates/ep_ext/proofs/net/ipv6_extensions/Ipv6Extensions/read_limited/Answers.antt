use Rattle.ep_ext.proofs.WithinOnly.{read_within}
use Rattle.ep_ext.proofs.net.ipv6_extensions.Ipv6Extensions.read_limited.Goals as goal

pub returns-clause-only : goal.returns-clause-only
returns-clause-only g c = λ pieces last rest whole known fits.
    read_within g.R.Read.remaining c.args.first.0 pieces last rest whole c.args.reader.now
    c.read_row_within.new.reader c.read_row_within.result c.read_row_within.ensures.found
    c.read_row_within.ensures.err known fits
