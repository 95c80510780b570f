-- Prefixes and suffixes of bytes are bytes.
use Rattle.std.proofs.Common.{ℕ, zero, suc, ◌<◌, arith, List, [], ◌∷◌, ◌++◌, take, drop}
use Rattle.std.specs.List.{AllByRecursion}
use Rattle.hex.specs.Hex.{IsBytes}

abbrev pub Bytes : List ℕ → Type 0
Bytes xs = AllByRecursion (λ b. b < 256) xs

pub bytes_by : (xs : List ℕ) → IsBytes xs → Bytes xs
bytes_by [] all = tt
bytes_by (x ∷ xs) all = (all 0, bytes_by xs (λ i. all (suc i)))

pub bytes_at : (xs : List ℕ) → Bytes xs → IsBytes xs
bytes_at [] all i = omega arith
bytes_at (x ∷ xs) all zero = all.0
bytes_at (x ∷ xs) all (suc i) = bytes_at xs all.1 i

pub bytes_drop : (n : ℕ) (xs : List ℕ) → Bytes xs → Bytes (drop n xs)
bytes_drop zero xs all = all
bytes_drop (suc n) [] all = tt
bytes_drop (suc n) (x ∷ xs) all = bytes_drop n xs all.1

pub bytes_take : (n : ℕ) (xs : List ℕ) → Bytes xs → Bytes (take n xs)
bytes_take zero xs all = tt
bytes_take (suc n) [] all = tt
bytes_take (suc n) (x ∷ xs) all = (all.0, bytes_take n xs all.1)

pub bytes_prefix : (xs ys : List ℕ) → Bytes (xs ++ ys) → Bytes xs
bytes_prefix [] ys all = tt
bytes_prefix (x ∷ xs) ys all = (all.0, bytes_prefix xs ys all.1)

pub bytes_back : (xs ys : List ℕ) → Bytes (xs ++ ys) → Bytes ys
bytes_back [] ys all = all
bytes_back (x ∷ xs) ys all = bytes_back xs ys all.1
