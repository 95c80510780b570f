use Rattle.ep_ext.proofs.ReadOnly.{read_all}
use Rattle.ep_ext.proofs.net.ipv6_extensions.Ipv6Extensions.read.Goals as goal

pub returns-clause-only : goal.returns-clause-only
returns-clause-only g c = λ pieces last rest whole known.
    read_all c.args.first.0 pieces last rest whole (g.R.Read.remaining c.args.reader.now)
    (g.R.Read.remaining c.read_row.new.reader) c.read_row.result c.read_row.ensures.found
    c.read_row.ensures.err known
