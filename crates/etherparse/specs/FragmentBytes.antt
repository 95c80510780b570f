-- The bytes of the datagram that accepted fragments give, the oldest first: each byte is that of
-- the last one that covers its offset.
use Rattle.std.specs.Prelude.{◌≡◌, ℕ, ◌-◌, ◌≤◌, if◌then◌else◌, Option, Some, None, unwrap_or, List, [], ◌∷◌, ◌++◌, map}
use Rattle.std.specs.Prelude.{slice_index, Any}
use Rattle.std.specs.Option.{option_or}
use Rattle.std.specs.List.{range_with_len}
use Rattle.etherparse.specs.Fragments.{Fragment, start_of, end_of, named_end, greatest_end, holds, Holds, Covered}

-- the byte at an offset: that of the last fragment that covers it
abbrev pub byte_at : List Fragment → ℕ → Option ℕ
byte_at [] p = None
byte_at (f ∷ fs) p = option_or (byte_at fs p)
    (if holds f p then Some (slice_index f.bytes (p - start_of f)) else None)

-- each byte is that of the last fragment that covers its offset
abbrev pub LastByteCounts : Type 0
LastByteCounts = (before following : List Fragment) (f : Fragment) (p : ℕ) → Holds f p
    → (Covered following p → ⊥) → byte_at (before ++ f ∷ following) p
    ≡ Some (slice_index f.bytes (p - start_of f))

-- an offset that none covers has no byte
abbrev pub UncoveredHasNone : Type 0
UncoveredHasNone = (fs : List Fragment) (p : ℕ) → (Covered fs p → ⊥) → byte_at fs p ≡ None

-- the datagram: the bytes below its end, with 0 at each offset that no fragment covers
abbrev pub text_of : List Fragment → List ℕ
text_of fs = map (λ p. unwrap_or (byte_at fs p) 0) (range_with_len 0 (unwrap_or (named_end fs) 0))

-- the bytes that are kept: those of the datagram, and up to the greatest end while its end isn't
-- named
abbrev pub kept_bytes : List Fragment → List ℕ
kept_bytes fs = map (λ p. unwrap_or (byte_at fs p) 0)
    (range_with_len 0 (unwrap_or (named_end fs) (greatest_end fs)))

-- the number lies between start and end of a fragment, both included
abbrev pub Touched : List Fragment → ℕ → Type 0
Touched fs n = Any (λ f. (start_of f ≤ n) × (n ≤ end_of f)) fs
