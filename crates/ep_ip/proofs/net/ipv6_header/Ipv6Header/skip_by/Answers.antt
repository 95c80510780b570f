use Rattle.ep_ip.proofs.SkipWalk.{found_header}
use Rattle.ep_ip.proofs.net.ipv6_header.Ipv6Header.skip_by.Goals as goal

pub returns-clause-found : goal.returns-clause-found
returns-clause-found c =
    found_header c.args.next_header.0 c.args.required_len c.args.slice.now
    c.requires c.if-slice-required_len.false
