use Rattle.std.proofs.Common.{ap, sym, ◌∙◌}
use Rattle.ep_ext.specs.Fragment.{fragment_at}
use Rattle.ep_ext.proofs.Prefixes.{fragment_again}
use Rattle.ep_ext.proofs.net.ipv6_fragment_header_slice.Ipv6FragmentHeaderSlice.from_slice.Goals as goal

pub returns-in-Ok : goal.returns-in-Ok
returns-in-Ok c =
    let found = c.in-Ok.ensures.found in
    record {
      exact = sym (ap fragment_at found.1
          ∙ fragment_again c.in-Ok.header c.in-Ok._rest.now found.0);
    }
