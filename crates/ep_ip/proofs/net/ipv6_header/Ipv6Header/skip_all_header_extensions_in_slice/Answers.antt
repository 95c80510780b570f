use Rattle.ep_ip.proofs.SkipWalk.{gives_skip}
use Rattle.ep_ip.proofs.net.ipv6_header.Ipv6Header.skip_all_header_extensions_in_slice.Goals as goal

pub returns : goal.returns
returns c =
    let found = c.skip_counted.ensures.found in
    record {
      exact = gives_skip c.args.next_header.0 c.args.slice.now found.0 found.1 found.2
          c.skip_counted.result.0 found.3 found.4.gives;
    }
