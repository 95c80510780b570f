-- Gaps: positions of a stream whose bytes are missing.
use Rattle.std.specs.Prelude.{ℕ, ◌+◌, ◌<◌, ◌≤◌, nat_lt, nat_le, Bool, ◌&&◌, if◌then◌else◌, max, min, List, [], ◌∷◌}
use Rattle.std.specs.Prelude.{◌++◌, map, Option, None, Some}
use Rattle.std.specs.Option.{option_and_then, option_map_or}
use Rattle.std.specs.List.{list_any}
use Rattle.tcp_streams.specs.declared.gaps.Gap.{Gap}

-- the position is in the gap
abbrev pub is_in : Gap → ℕ → Bool
is_in gap p = nat_le gap.start p && nat_lt p gap.end

-- it is in one of them
abbrev pub is_missing : List Gap → ℕ → Bool
is_missing gaps p = list_any (λ gap. is_in gap p) gaps

-- gaps from a position on and up to another, in order, none of them empty, and a byte after each
abbrev pub AreGapsIn : (from to : ℕ) → List Gap → Type 0
AreGapsIn from to [] = from ≤ to
AreGapsIn from to (gap ∷ gaps) = (from ≤ gap.start) × (gap.start < gap.end) × AreGapsIn (gap.end + 1) to gaps

-- where the first gap begins, or the end of the bytes where there is none
abbrev pub first_gap_start : List Gap → (end : ℕ) → ℕ
first_gap_start [] end = end
first_gap_start (gap ∷ gaps) end = gap.start

-- gaps as in `AreGapsIn`, but one may begin where the one before it ends
abbrev pub AreRunsIn : (from to : ℕ) → List Gap → Type 0
AreRunsIn from to [] = from ≤ to
AreRunsIn from to (gap ∷ gaps) = (from ≤ gap.start) × (gap.start < gap.end) × AreRunsIn gap.end to gaps

-- the gaps of a map from their ends to their starts
abbrev pub gaps_of : List (ℕ × ℕ) → List Gap
gaps_of entries = map (λ entry. record { start = entry.1; end = entry.0 }) entries

-- gaps of which the first one may stand beside the others
abbrev pub with_first : Option Gap → List Gap → List Gap
with_first None gaps = gaps
with_first (Some gap) gaps = gap ∷ gaps

-- the first gap that ends after a position
abbrev pub gap_after : (position : ℕ) → List Gap → Option Gap
gap_after position [] = None
gap_after position (gap ∷ gaps) = (if nat_lt position gap.end then Some gap else gap_after position gaps)

-- the start of that gap, or the end of the bytes where there is none
abbrev pub gap_start_after : (position : ℕ) → List Gap → (end : ℕ) → ℕ
gap_start_after position gaps end = option_map_or (λ gap. gap.start) (gap_after position gaps) end

-- what a gap has from a position on and up to another, if it has any
abbrev pub clipped : (from to : ℕ) → Gap → Option Gap
clipped from to gap = (if nat_lt (max gap.start from) to
    then Some (record { start = max gap.start from; end = min gap.end to }) else None)

-- what the first gap that ends after a position has from it on and up to another
abbrev pub missing_from : (from to : ℕ) → List Gap → Option Gap
missing_from from to gaps = option_and_then (clipped from to) (gap_after from gaps)

-- gaps with one more after them, unless it is empty
abbrev pub with_gap : (start end : ℕ) → List Gap → List Gap
with_gap start end gaps = (if nat_lt start end then gaps ++ (record { start = start; end = end }) ∷ [] else gaps)

-- the position is in the gap, and isn't its first one
abbrev pub crosses : ℕ → Gap → Bool
crosses p gap = nat_lt gap.start p && nat_lt p gap.end

-- the position crosses one of the gaps
abbrev pub crosses_one : ℕ → List Gap → Bool
crosses_one p gaps = list_any (crosses p) gaps

-- the gap that a position crosses as two
abbrev pub split_at : ℕ → List Gap → List Gap
split_at p [] = []
split_at p (gap ∷ gaps) = (if crosses p gap
    then (record { start = gap.start; end = p }) ∷ (record { start = p; end = gap.end }) ∷ split_at p gaps
    else gap ∷ split_at p gaps)

-- the part of a gap before a position, and the part from one on
abbrev pub part_before : ℕ → Gap → List Gap
part_before p gap = (if nat_lt gap.start (min p gap.end)
    then (record { start = gap.start; end = min p gap.end }) ∷ [] else [])

abbrev pub part_from : ℕ → Gap → List Gap
part_from p gap = (if nat_lt (max p gap.start) gap.end
    then (record { start = max p gap.start; end = gap.end }) ∷ [] else [])

-- gaps without the positions from one on up to another
abbrev pub without : (start end : ℕ) → List Gap → List Gap
without start end [] = []
without start end (gap ∷ gaps) = part_before start gap ++ (part_from end gap ++ without start end gaps)
