use Rattle.std.proofs.Common.{◌≡◌, ℕ, ◌+◌, List, ◌++◌, length}
use Rattle.std.specs.List.{concat}
use Rattle.ep_ip.specs.Skip.{Skips}
use Rattle.ep_ip.proofs.net.ipv6_header.Ipv6Header.walk.Given as goal

-- headers in a row are skipped, and the rest is left
abbrev pub invariant-headers : goal.invariant-headers
invariant-headers l = (headers : List (List ℕ)) × Skips l.fn.next_header.0 headers l.number.0
    × (l.slice ≡ concat headers ++ l.rest) × (l.turns ≡ length headers + 1)

abbrev pub decreases-headers : goal.decreases-headers
decreases-headers l = length l.rest
