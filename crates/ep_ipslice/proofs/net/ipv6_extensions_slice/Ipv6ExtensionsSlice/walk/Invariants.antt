use Rattle.std.proofs.Common.{length}
use Rattle.ep_ipslice.proofs.ViewWalk.{Kept}
use Rattle.ep_ipslice.proofs.net.ipv6_extensions_slice.Ipv6ExtensionsSlice.walk.Given as goal

abbrev pub invariant-headers : goal.invariant-headers
invariant-headers l = Kept l.fn.first.0 l.slice l.has_header l.fragmented l.number.0 l.rest

abbrev pub decreases-headers : goal.decreases-headers
decreases-headers l = length l.rest
