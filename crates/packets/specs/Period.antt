-- When packets came.
use Rattle.std.specs.Prelude.{◌≡◌, ℕ, min, max, List, [], ◌∷◌, Option, Some, None}
use Rattle.packets.specs.declared.outline.Outline.{Outline}
use Rattle.packets.specs.declared.summary.period.Period.{Period}

abbrev pub min_with : Option ℕ → ℕ → ℕ
min_with None time = time
min_with (Some other) time = min other time

abbrev pub max_with : Option ℕ → ℕ → ℕ
max_with None time = time
max_with (Some other) time = max other time

-- the least of the times of packets, if there are any
abbrev pub earliest_of : List Outline → Option ℕ
earliest_of [] = None
earliest_of (packet ∷ packets) = Some (min_with (earliest_of packets) packet.time)

-- and the greatest
abbrev pub latest_of : List Outline → Option ℕ
latest_of [] = None
latest_of (packet ∷ packets) = Some (max_with (latest_of packets) packet.time)

pub record CountsPeriod (period : Period) (packets : List Outline) : Type 0 where
  pub earliest : period.earliest ≡ earliest_of packets
  pub latest : period.latest ≡ latest_of packets
