-- Bytes of a stream, of which some are missing.
use Rattle.std.specs.Prelude.{◌≡◌, ℕ, ◌+◌, ◌-◌, ◌*◌, ◌^◌, ◌<◌, ◌≤◌, ◌==◌, if◌then◌else◌, max, min}
use Rattle.std.specs.Prelude.{Option, None, IsSome, List, [], ◌∷◌, drop, length, slice_index, slice_get, take}
use Rattle.std.specs.Option.{option_or}
use Rattle.tcp_streams.specs.declared.gaps.Gap.{Gap}
use Rattle.tcp_streams.specs.declared.conflicts.Conflicts.{Conflicts}
use Rattle.tcp_streams.specs.Gaps.{AreGapsIn, first_gap_start, gap_start_after, is_missing}
use Rattle.tcp_streams.specs.PlacedSegments.{byte_from}

-- how many bytes of the stream were taken; those after them, with 0 at each position whose byte is
-- missing; and where bytes are missing
pub record Sparse : Type 0 where
  pub taken : ℕ
  pub bytes : List ℕ
  pub gaps : List Gap

abbrev pub sparse : ℕ → List ℕ → List Gap → Sparse
sparse taken bytes gaps = record { taken = taken; bytes = bytes; gaps = gaps }

-- the position after the last byte
abbrev pub held_end : Sparse → ℕ
held_end held = held.taken + length held.bytes

-- the byte that is held at a position
abbrev pub byte_in : Sparse → ℕ → Option ℕ
byte_in held p = (if is_missing held.gaps p then None else byte_from held.taken held.bytes p)

-- a byte is held at each of so many positions from one on
abbrev pub AllHeld : (held : ℕ → Option ℕ) → (position count : ℕ) → Type 0
AllHeld held position count = (p : ℕ) → position ≤ p → p < position + count → IsSome (held p)

-- gaps are among the bytes, the last of which isn't missing; no position is greater than 2 to the 63
pub record IsSparse (held : Sparse) : Type 0 where
  pub gaps : AreGapsIn held.taken (held_end held) held.gaps
  pub short : held_end held ≤ 2 ^ 63

-- the end of the bytes that follow without a gap
abbrev pub available_end : Sparse → ℕ
available_end held = first_gap_start held.gaps (held_end held)

-- the bytes after a gap, up to the next gap or to the last byte
abbrev pub bytes_after_gap : Sparse → Gap → List ℕ
bytes_after_gap held gap = take (gap_start_after gap.end held.gaps (held_end held) - gap.end)
    (drop (gap.end - held.taken) held.bytes)

-- the end of bytes from a position on, if there are any
abbrev pub end_with : ℕ → List ℕ → ℕ
end_with position bytes = (if length bytes == 0 then 0 else position + length bytes)

-- bytes from a position on are added: those that are held stay
pub record AddsBytes (old new : Sparse) (position : ℕ) (bytes : List ℕ) : Type 0 where
  pub taken : new.taken ≡ old.taken
  pub last : held_end new ≡ max (held_end old) (end_with position bytes)
  pub held : (p : ℕ) → old.taken ≤ p → byte_in new p ≡ option_or (byte_in old p) (byte_from position bytes p)

-- where bytes may be left out up to: the end of the first gap; where there is none, the end of the bytes or a position after it
abbrev pub CanSkipTo : List Gap → (end position : ℕ) → Type 0
CanSkipTo [] end position = (end ≤ position) × (position ≤ 2 ^ 63)
CanSkipTo (gap ∷ gaps) end position = position ≡ gap.end

-- no byte before a position is held any more, and none of them is missing
pub record Skips (old new : Sparse) (position : ℕ) : Type 0 where
  pub taken : new.taken ≡ position
  pub last : held_end new ≡ max (held_end old) position
  pub held : (p : ℕ) → position ≤ p → byte_in new p ≡ byte_in old p

-- each byte that is missing is written, and no other
pub record Fills (gaps : List Gap) (position : ℕ) (old new bytes : List ℕ) : Type 0 where
  pub size : length new ≡ length old
  pub filled : (i : ℕ) → i < length old → slice_index new i
      ≡ (if is_missing gaps (position + i) then slice_index bytes i else slice_index old i)

-- how many positions there are, and the first one
abbrev pub counted : List ℕ → Conflicts
counted ps = record { count = min (length ps) (2 ^ 64 - 1); first = slice_get ps 0 }

-- how much is held: bytes, also those between them that are missing, and 16 for each gap
abbrev pub size_of : Sparse → ℕ
size_of held = min (length held.bytes + 16 * length held.gaps) (2 ^ 64 - 1)
