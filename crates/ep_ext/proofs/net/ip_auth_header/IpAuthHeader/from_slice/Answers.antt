use Rattle.std.proofs.Common.{◌∙◌}
use Rattle.ep_ext.proofs.Alone.{auth_read}
use Rattle.ep_ext.proofs.net.ip_auth_header.IpAuthHeader.from_slice.Goals as goal

pub returns-in-Ok-clause-only : goal.returns-in-Ok-clause-only
returns-in-Ok-clause-only c = λ header rest is_header prefix_is.
    let found = c.in-Ok.ensures.found in
    let read = auth_read c.args.slice.now c.in-Ok.header c.in-Ok.rest.now header rest found.0
    found.1 is_header prefix_is in
    (c.to_header.ensures ∙ read.0, read.1)
