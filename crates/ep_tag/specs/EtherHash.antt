-- Equal payloads are hashed alike.
use Rattle.std.proofs.Common.{◌≡◌, ℕ, true, List, [], ◌∷◌, ◌++◌, nat_eq, ap}
use Rattle.std.specs.Cmp.Lexicographic.{pointwise, bytes_decides}
use Rattle.std.specs.Ordering.{on}
use Rattle.std.specs.Hash as fed
use Rattle.ep_tag.specs.Ether.{EtherPayload, LaxEtherPayload}
use Rattle.ep_tag.specs.EtherOrder.{ordered_as, hashed_as, lax_ordered_as, lax_hashed_as}

-- what is fed, from the list that is compared
fed_from : List ℕ → fed.HashWrites
fed_from [] = []
fed_from (t ∷ []) = []
fed_from (t ∷ (s ∷ bytes)) = fed.u16 t ++ fed.u8 s ++ fed.slice fed.u8 bytes

pub hashed_alike : (p q : EtherPayload) → on ordered_as (pointwise nat_eq) p q ≡ true
    → hashed_as p ≡ hashed_as q
unfolding fed_from
hashed_alike p q same = ap fed_from ((bytes_decides (ordered_as p) (ordered_as q)).0 same)

lax_fed_from : List ℕ → fed.HashWrites
lax_fed_from [] = []
lax_fed_from (incomplete ∷ rest) = fed.u8 incomplete ++ fed_from rest

pub lax_hashed_alike : (p q : LaxEtherPayload)
    → on lax_ordered_as (pointwise nat_eq) p q ≡ true → lax_hashed_as p ≡ lax_hashed_as q
unfolding fed_from lax_fed_from
lax_hashed_alike p q same =
    ap lax_fed_from ((bytes_decides (lax_ordered_as p) (lax_ordered_as q)).0 same)
