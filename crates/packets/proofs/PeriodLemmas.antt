-- The least and the greatest time of packets and one more.
use Rattle.std.proofs.Common.{◌≡◌, ℕ, List, [], ◌∷◌, ◌++◌, Option, Some, None, refl, arith, min, max}
use Rattle.packets.specs.Period.{earliest_of, latest_of, max_with, min_with}
use Rattle.packets.specs.declared.outline.Outline.{Outline}

min_with-swap : (o : Option ℕ) (a b : ℕ) → min (min_with o a) b ≡ min (min_with o b) a
min_with-swap None a b = omega arith
min_with-swap (Some m) a b = omega arith

max_with-swap : (o : Option ℕ) (a b : ℕ) → max (max_with o a) b ≡ max (max_with o b) a
max_with-swap None a b = omega arith
max_with-swap (Some m) a b = omega arith

pub earliest_of-end : (packets : List Outline) (packet : Outline)
    → earliest_of (packets ++ packet ∷ []) ≡ Some (min_with (earliest_of packets) packet.time)
earliest_of-end [] packet = refl
earliest_of-end (first ∷ packets) packet = rw (
  earliest_of-end packets packet,
  min_with-swap (earliest_of packets) packet.time first.time,
) refl

pub latest_of-end : (packets : List Outline) (packet : Outline)
    → latest_of (packets ++ packet ∷ []) ≡ Some (max_with (latest_of packets) packet.time)
latest_of-end [] packet = refl
latest_of-end (first ∷ packets) packet = rw (
  latest_of-end packets packet,
  max_with-swap (latest_of packets) packet.time first.time,
) refl
