-- Bytes of a datagram of which some are written late.
use Rattle.std.specs.Prelude.{◌≡◌, ℕ, ◌+◌, ◌-◌, ◌≤◌, ◌<◌, ◌&&◌, Bool, false, leb, ltb, if◌then◌else◌, Option, Some, None}
use Rattle.std.specs.Prelude.{unwrap_or, List, [], ◌∷◌, ◌++◌, length, map, slice_index}
use Rattle.std.specs.List.{AllByRecursion, range_with_len}
use Rattle.std.specs.Option.{option_or}
use Rattle.std.specs.Global.{Box}

-- bytes, and for how many there is memory
pub record BytesInRoom : Type 0 where
  pub bytes : List ℕ
  pub capacity : ℕ

-- bytes that are to be written at an index
pub record Write : Type 0 where
  pub start : ℕ
  pub bytes : List ℕ

-- the byte that it writes at an index
abbrev pub byte_of_write : Write → ℕ → Option ℕ
byte_of_write w p =
    (if leb w.start p && ltb p (w.start + length w.bytes) then Some (slice_index w.bytes (p - w.start)) else None)

-- that of the last of them that writes one there
abbrev pub late_byte : List Write → ℕ → Option ℕ
late_byte [] p = None
late_byte (w ∷ ws) p = option_or (late_byte ws p) (byte_of_write w p)

-- the byte at an index once all of them are written over those that are there, 0 at a missing one
abbrev pub byte_after : List Write → (there : List ℕ) → ℕ → ℕ
byte_after ws there p = unwrap_or (late_byte ws p) (slice_index there p)

-- so many bytes, once all of them are written
abbrev pub bytes_after : List Write → (there : List ℕ) → (len : ℕ) → List ℕ
bytes_after ws there len = map (byte_after ws there) (range_with_len 0 len)

-- how many bytes they write
abbrev pub late_len : List Write → ℕ
late_len [] = 0
late_len (w ∷ ws) = length w.bytes + late_len ws

-- none ends after an index
abbrev pub EndBy : ℕ → List Write → Type 0
EndBy len ws = AllByRecursion (λ w. w.start + length w.bytes ≤ len) ws

-- what is written late, in this order; how many bytes there are then; and whether what is written
-- may reach further
pub record Late : Type 0 where
  pub writes : List Write
  pub len : ℕ
  pub cut : Bool

-- that, or else nothing over these bytes
abbrev pub late_in : Option (Box Late) → (there : List ℕ) → Late
late_in None there = record { writes = []; len = length there; cut = false }
late_in (Some late) there = late.value

-- the bytes once it is written over these
abbrev pub bytes_with : Late → (there : List ℕ) → List ℕ
bytes_with late there = bytes_after late.writes there late.len

-- one more write, after which there are so many bytes
abbrev pub with_write : Write → (len : ℕ) → Late → Late
with_write w len late = record late { writes = late.writes ++ w ∷ []; len = len }

-- no more are written than are shown, for all of which there is memory; and unless they were cut,
-- nothing is written after them later
pub record AreInRoom (late : Late) (there : List ℕ) (capacity : ℕ) : Type 0 where
  pub written : length there ≤ late.len
  pub fits : late.len ≤ capacity
  pub short : late.len ≤ 65535
  pub within : late.cut ≡ false → EndBy late.len late.writes

-- these bytes are there from an index on once all of them are written
abbrev pub HasBytesAfter : List Write → (there : List ℕ) → (start : ℕ) → (bytes : List ℕ) → Type 0
HasBytesAfter ws there start bytes = (k : ℕ) → k < length bytes
    → byte_after ws there (start + k) ≡ slice_index bytes k
