use Rattle.std.proofs.Common.{◌≡◌, length}
use Rattle.packets.specs.SourceRoute.{route_after}
use Rattle.packets.proofs.source_route.source_route.Given as goal

abbrev pub invariant-options : goal.invariant-options
invariant-options l = route_after 0 l.options ≡ route_after 0 l.rest

abbrev pub decreases-options : goal.decreases-options
decreases-options l = length l.rest
