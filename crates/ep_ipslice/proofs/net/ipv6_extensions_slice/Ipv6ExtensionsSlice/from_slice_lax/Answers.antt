use Rattle.ep_ipslice.proofs.ViewWalk.{stops_same}
use Rattle.ep_ipslice.proofs.net.ipv6_extensions_slice.Ipv6ExtensionsSlice.from_slice_lax.Goals as goal

pub returns-clause-only : goal.returns-clause-only
returns-clause-only c = λ pieces last rest chain.
    let found = c.walk.ensures in
    stops_same c.chain_is_alone.ensures c.args.first.0 c.args.slice.now found.0 pieces found.1 last
    found.2 rest c.walk.result found.3 chain found.4
