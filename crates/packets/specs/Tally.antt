-- Counts of packets of a kind.
use Rattle.std.specs.Prelude.{Bool, List, count_by, filter, find, sum_by}
use Rattle.std.specs.Option.{option_map}
use Rattle.captures.specs.Numbers.{capped}
use Rattle.packets.specs.declared.outline.Outline.{Outline}
use Rattle.packets.specs.declared.summary.tally.Tally.{Tally}

-- how many packets are of a kind, how many bytes they have, and the number of the first of them
abbrev pub tally_of : (Outline → Bool) → List Outline → Tally
tally_of is_of_kind packets = record {
  packets = capped (count_by is_of_kind packets);
  bytes = capped (sum_by (λ packet. packet.len) (filter is_of_kind packets));
  first = option_map (λ packet. packet.number) (find is_of_kind packets);
}
