use Rattle.std.proofs.Common.{ap, sym, ◌∙◌}
use Rattle.ep_ext.specs.Auth.{auth_at}
use Rattle.ep_ext.proofs.Prefixes.{auth_again}
use Rattle.ep_ext.proofs.net.ip_auth_header_slice.IpAuthHeaderSlice.from_slice.Goals as goal

pub returns-in-Ok : goal.returns-in-Ok
returns-in-Ok c =
    let found = c.in-Ok.ensures.found in
    record {
      exact = sym (ap auth_at found.1 ∙ auth_again c.in-Ok.header c.in-Ok._rest.now found.0);
    }
