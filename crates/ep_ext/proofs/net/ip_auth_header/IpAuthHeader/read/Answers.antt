use Rattle.std.proofs.Common.{take, ap, ◌∙◌}
use Rattle.ep_ext.specs.Auth.{auth_of}
use Rattle.ep_ext.proofs.Reading.{auth_next, auth_refused}
use Rattle.ep_ext.proofs.net.ip_auth_header.IpAuthHeader.read.Goals as goal

pub returns-in-Ok-clause-only : goal.returns-in-Ok-clause-only
returns-in-Ok-clause-only g c = λ header rest is_header known.
    let read = c.in-Ok.ensures.found in
    let next = auth_next (g.R.Read.remaining c.args.reader.now)
    (g.R.Read.remaining c.read_bytes.new.reader) header rest
    (take c.in-Ok.len c.read_bytes.new.bytes) is_header known read.1 read.2 in
    (c.to_header.ensures ∙ ap auth_of c.of_bytes.ensures ∙ next.0, next.1)

pub returns-in-Err-clause-only : goal.returns-in-Err-clause-only
returns-in-Err-clause-only g c = λ header rest is_header known.
    auth_refused (g.R.Read.remaining c.args.reader.now)
    (g.R.Read.remaining c.read_bytes.new.reader) c.in-Err.error header rest is_header
    known c.in-Err.ensures.err
