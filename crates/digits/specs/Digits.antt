-- What a lane's value says of a digit, and which bytes the digits encode.
use Rattle.std.specs.Prelude.{◌≡◌, ℕ, ◌+◌, ◌*◌, ◌<◌, nat_lt, if◌then◌else◌, List, slice_index, Some, None, Ok}
use Rattle.hex.specs.Hex.{hex_digit_value, pair_value}

-- a value below 16 is that of the digit c, and any other says that c is no digit
abbrev pub Reads : ℕ → ℕ → Type 0
Reads c value = hex_digit_value c ≡ (if nat_lt value 16 then Some value else None)

-- each of the 32 lanes holds the value of a digit
abbrev pub AreDigitValues : List ℕ → Type 0
AreDigitValues values = (i : ℕ) → i < 32 → slice_index values i < 16

-- each of the first n bytes is that of its two digits
abbrev pub AreDecoded : ℕ → List ℕ → List ℕ → Type 0
AreDecoded n digits bytes = (k : ℕ) → k < n
    → (i : ℕ) → pair_value (slice_index digits (2 * k)) (slice_index digits (2 * k + 1)) i
    ≡ Ok (slice_index bytes k)
