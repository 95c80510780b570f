use Rattle.ep_ip.proofs.SkipWalk.{ends_same, turns_bound}
use Rattle.ep_ip.proofs.net.ipv6_header.Ipv6Header.skip_counted.Goals as goal

pub returns-clause-only : goal.returns-clause-only
returns-clause-only c = λ headers last rest walk.
    let found = c.walk.ensures in
    ends_same c.args.next_header.0 c.args.slice.now found.0 headers found.1 last found.2 rest
    c.walk.result.0 c.walk.result.1 found.3 walk found.4

pub returns-clause-bound : goal.returns-clause-bound
returns-clause-bound c =
    let found = c.walk.ensures in
    turns_bound c.args.next_header.0 c.args.slice.now found.0 found.1 found.2 c.walk.result.1
    found.3.named found.3.cut found.4.counted
