-- Ranges of numbers, which describe the sections of a datagram.
use Rattle.std.specs.Prelude.{ℕ, ◌<◌, ◌≤◌, ◌==◌, Bool, false, ◌||◌, ◌&&◌, if◌then◌else◌, min, max, nat_eq, nat_le}
use Rattle.std.specs.Prelude.{Option, Some, None, List, [], ◌∷◌, ◌⊎◌, ⊤, ◌↔◌, Any, take, drop}
use Rattle.std.specs.Ordering.{on, eq_of_both}
use Rattle.std.specs.List.{AllByRecursion}
use Rattle.etherparse.specs.declared.defrag.ip_frag_range.IpFragRange.{IpFragRange}

-- the number lies in the closed range
abbrev pub has_number : IpFragRange → ℕ → Bool
has_number r n = nat_le r.start n && nat_le n r.end

-- the least start and the greatest end
abbrev pub hull : IpFragRange → IpFragRange → IpFragRange
hull r s = record { start = min r.start s.start; end = max r.end s.end }

-- whether start or end of one lies in the other
abbrev pub touches : IpFragRange → IpFragRange → Bool
touches r s = (has_number r s.start || has_number r s.end)
    || (has_number s r.start || has_number s r.end)

-- both as one, where they touch
abbrev pub merge_of : IpFragRange → IpFragRange → Option IpFragRange
merge_of r s = (if touches r s then Some (hull r s) else None)

-- both fields are equal
abbrev pub same_range : IpFragRange → IpFragRange → Bool
same_range = eq_of_both (on (λ r. r.start) nat_eq) (on (λ r. r.end) nat_eq)

-- a number of the closed range
abbrev pub HasNumber : IpFragRange → ℕ → Type 0
HasNumber r n = (r.start ≤ n) × (n ≤ r.end)

-- an offset of the range, which its end is not
abbrev pub HasOffset : IpFragRange → ℕ → Type 0
HasOffset r p = (r.start ≤ p) × (p < r.end)

-- no number is in both
abbrev pub Apart : IpFragRange → IpFragRange → Type 0
Apart r s = (r.end < s.start) ⊎ (s.end < r.start)

-- none ends before it starts, and no two share a number
abbrev pub AreApart : List IpFragRange → Type 0
AreApart [] = ⊤
AreApart (r ∷ rs) = (r.start ≤ r.end) × AllByRecursion (Apart r) rs × AreApart rs

-- an offset of the range is one of some range of the list, too
abbrev pub SharesWith : List IpFragRange → IpFragRange → Type 0
SharesWith rs r = (p : ℕ) × HasOffset r p × Any (λ s. HasOffset s p) rs

-- there is one range, and it starts at 0
abbrev pub is_one_from_zero : List IpFragRange → Bool
is_one_from_zero [] = false
is_one_from_zero (r ∷ []) = r.start == 0
is_one_from_zero (r ∷ s ∷ rs) = false

-- sections with a range added: they stay apart, and have its numbers and offsets besides their own
pub record AddsRange (old new : List IpFragRange) (r : IpFragRange) : Type 0 where
  pub apart : AreApart new
  pub numbers : (n : ℕ) → Any (λ s. HasNumber s n) new
      ↔ (Any (λ s. HasNumber s n) old ⊎ HasNumber r n)
  pub offsets : (p : ℕ) → Any (λ s. HasOffset s p) new ↔ (Any (λ s. HasOffset s p) old ⊎ HasOffset r p)

-- in order: none ends before it starts, and each one's numbers lie below those of all after it
abbrev pub AreOrdered : List IpFragRange → Type 0
AreOrdered [] = ⊤
AreOrdered (r ∷ rs) = (r.start ≤ r.end) × AllByRecursion (λ s. r.end < s.start) rs × AreOrdered rs

-- so many sections end before a number, and no others
abbrev pub EndBefore : List IpFragRange → ℕ → ℕ → Type 0
EndBefore rs n count = AllByRecursion (λ s. s.end < n) (take count rs)
    × AllByRecursion (λ s. n ≤ s.end) (drop count rs)

-- so many sections start at a number at most, and no others
abbrev pub StartBy : List IpFragRange → ℕ → ℕ → Type 0
StartBy rs n count = AllByRecursion (λ s. s.start ≤ n) (take count rs)
    × AllByRecursion (λ s. n < s.start) (drop count rs)
