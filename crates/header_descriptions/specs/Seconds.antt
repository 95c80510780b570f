-- Times as text: seconds in decimal, a point, and digits of the fraction.
use Rattle.std.specs.Prelude.{ℕ, ◌+◌, ◌-◌, ◌/◌, ◌%◌, ◌==◌, nat_le, if◌then◌else◌, List, [], ◌∷◌, ◌++◌, codes, decimal}

-- the decimal digit of a number that counts this unit, a power of ten
abbrev pub digit_at : (unit n : ℕ) → ℕ
digit_at unit n = 48 + n / unit % 10

-- so many nanoseconds: the whole seconds, and six digits of the rest. What is less than a microsecond
-- is left out
abbrev pub seconds_text : ℕ → List ℕ
seconds_text n = decimal (n / 1000000000) ++ codes "." ++ (digit_at 100000000 n ∷ digit_at 10000000 n
    ∷ digit_at 1000000 n ∷ digit_at 100000 n ∷ digit_at 10000 n ∷ digit_at 1000 n ∷ [])

-- all of it: three digits more, where there is less than a microsecond beside the others
abbrev pub exact_text : ℕ → List ℕ
exact_text n = seconds_text n
    ++ (if n % 1000 == 0 then [] else digit_at 100 n ∷ digit_at 10 n ∷ digit_at 1 n ∷ [])

-- what is between two times, after a sign where the second one is earlier by a microsecond or more
abbrev pub between_text : (from to : ℕ) → List ℕ
between_text from to = (if nat_le (to + 1000) from then codes "-" else [])
    ++ seconds_text ((from - to) + (to - from))
