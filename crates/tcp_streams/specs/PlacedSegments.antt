-- One direction of a TCP connection, by its segments that were accepted, the oldest first (RFC 9293,
-- sections 3.4 and 3.10.7.4). Positions count bytes: the first byte of the stream has position 0.
use Rattle.std.specs.Prelude.{ℕ, zero, suc, ◌+◌, ◌-◌, ◌==◌, nat_lt, nat_le, Bool, false, not, ◌&&◌, if◌then◌else◌}
use Rattle.std.specs.Prelude.{max, is_some, Option, Some, None, List, [], ◌∷◌, ◌++◌, length, slice_index}
use Rattle.std.specs.List.{list_any}
use Rattle.std.specs.Option.{option_or}

-- a segment at its place: the position of its first byte, its bytes, whether FIN follows them, and
-- whether it resets the connection
pub record Placed : Type 0 where
  pub position : ℕ
  pub bytes : List ℕ
  pub fin : Bool
  pub reset : Bool

abbrev pub placed_segment : ℕ → List ℕ → Bool → Bool → Placed
placed_segment position bytes fin reset =
    record { position = position; bytes = bytes; fin = fin; reset = reset }

-- the position after its last byte, which is that of its FIN
abbrev pub end_of : Placed → ℕ
end_of s = s.position + length s.bytes

-- it has no byte
abbrev pub is_empty : Placed → Bool
is_empty s = length s.bytes == 0

-- of bytes from a position on, the one at another position
abbrev pub byte_from : ℕ → List ℕ → ℕ → Option ℕ
byte_from position bytes p = (if nat_le position p && nat_lt p (position + length bytes)
    then Some (slice_index bytes (p - position)) else None)

-- the byte at a position: that of the first segment that has one there
abbrev pub byte_at : List Placed → ℕ → Option ℕ
byte_at [] p = None
byte_at (s ∷ ss) p = option_or (byte_from s.position s.bytes p) (byte_at ss p)

-- the position after the last byte
abbrev pub last_end : List Placed → ℕ
last_end [] = 0
last_end (s ∷ ss) = max (if is_empty s then 0 else end_of s) (last_end ss)

-- the byte before those that follow it; where it is missing, nothing
abbrev pub with_byte : Option ℕ → List ℕ → List ℕ
with_byte None bs = []
with_byte (Some b) bs = b ∷ bs

-- bytes from a position on up to the first that is missing, at most so many
abbrev pub bytes_from : (ℕ → Option ℕ) → (position count : ℕ) → List ℕ
bytes_from byte p zero = []
bytes_from byte p (suc n) = with_byte (byte p) (bytes_from byte (p + 1) n)

-- the stream: the bytes from position 0 on up to the first gap
abbrev pub text_of : List Placed → List ℕ
text_of ss = bytes_from (byte_at ss) 0 (last_end ss)

-- the position of FIN, which is the end of the stream
abbrev pub fin_of : List Placed → Option ℕ
fin_of [] = None
fin_of (s ∷ ss) = (if s.fin then Some (end_of s) else fin_of ss)

-- one of them reset the connection
abbrev pub is_reset : List Placed → Bool
is_reset ss = list_any (λ s. s.reset) ss

-- ---- conflicts

-- there is a byte, and it is another one
abbrev pub differs : Option ℕ → ℕ → Bool
differs None b = false
differs (Some a) b = not (a == b)

-- of bytes from a position on, the positions of those that differ from one that is there
abbrev pub clashes : (ℕ → Option ℕ) → (position : ℕ) → List ℕ → List ℕ
clashes there p [] = []
clashes there p (b ∷ bs) =
    (if differs (there p) b then p ∷ clashes there (p + 1) bs else clashes there (p + 1) bs)

-- the positions at which a segment has another byte than those before it
abbrev pub conflicts_with : List Placed → Placed → List ℕ
conflicts_with ss s = clashes (byte_at ss) s.position s.bytes

-- those of each segment with the ones before it
abbrev pub conflicts_after : List Placed → List Placed → List ℕ
conflicts_after before [] = []
conflicts_after before (s ∷ ss) = conflicts_with before s ++ conflicts_after (before ++ s ∷ []) ss

abbrev pub conflicts_of : List Placed → List ℕ
conflicts_of ss = conflicts_after [] ss

-- ---- repeats

-- of so many positions from one on, how many have this
abbrev pub count_from : (ℕ → Bool) → (position count : ℕ) → ℕ
count_from has p zero = 0
count_from has p (suc n) = (if has p then 1 else 0) + count_from has (p + 1) n

-- at how many of its positions a segment repeats bytes of those before it
abbrev pub repeats_with : List Placed → Placed → ℕ
repeats_with ss s = count_from (λ p. is_some (byte_at ss p)) s.position (length s.bytes)
