-- Equal payloads are hashed alike.
use Rattle.std.proofs.Common.{◌≡◌, ℕ, true, List, [], ◌∷◌, ◌++◌, nat_eq, ap}
use Rattle.std.specs.Cmp.Lexicographic.{pointwise, bytes_decides}
use Rattle.std.specs.Ordering.{on}
use Rattle.std.specs.Hash as fed
use Rattle.ep_ipslice.specs.Compared.{hashed_as, ordered_as}
use Rattle.ep_ipslice.specs.Packet.{IpPayload}

-- what is fed, from the list that is compared
fed_from : List ℕ → fed.HashWrites
fed_from [] = []
fed_from (n ∷ []) = []
fed_from (n ∷ (fragment_flag ∷ [])) = []
fed_from (n ∷ (fragment_flag ∷ (source ∷ bytes))) = fed.u8 n ++ fed.u8 fragment_flag ++ fed.u8 source
    ++ fed.slice fed.u8 bytes

pub hashed_alike : (p q : IpPayload) → on ordered_as (pointwise nat_eq) p q ≡ true
    → hashed_as p ≡ hashed_as q
unfolding fed_from
hashed_alike p q same = ap fed_from ((bytes_decides (ordered_as p) (ordered_as q)).0 same)
