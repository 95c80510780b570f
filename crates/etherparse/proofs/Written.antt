-- Bytes written at an index.
use Rattle.std.proofs.Common.{◌≡◌, ℕ, ◌+◌, ◌-◌, ◌≤◌, List, ◌++◌, length, take, drop, replicate, max, get_or, arith}
use Rattle.std.proofs.lemmas.List.{take_at, take_all, get_or_past, length-append, length-replicate}
use Rattle.std.proofs.lemmas.Grind.{elements}
use Rattle.etherparse.specs.IpDefragBuf.{Writes}

-- zeros after a list read as nothing does
padded : (old new : List ℕ) (n : ℕ) → length old ≤ n
    → new ≡ take n old ++ replicate (n - length old) 0 → (p : ℕ) → get_or new p 0 ≡ get_or old p 0
padded old new n le e p = rw (e, take_all n old le) (grind (arith, elements, get_or_past))

-- a copy into the middle
copied : (d b : List ℕ) (start k : ℕ) → k ≡ length b → start + k ≤ length d
    → Writes d (take start d ++ (b ++ drop k (drop start d))) start b
copied d b start k e fits = record {
  size = grind (arith, elements);
  written = λ p l h. grind (arith, elements);
  kept = λ p h. grind (arith, elements);
}

-- a copy into the middle of a list that was made long enough
pub written : (old d b items : List ℕ) (n start k : ℕ) → n ≡ max (length old) (start + length b)
    → items ≡ take n old ++ replicate (n - length old) 0 → d ≡ items → k ≡ length b
    → let whole = take start d ++ (b ++ drop k (drop start d)) in
    Writes old (take n (whole ++ drop (length whole) items)) start b
written old d b items n start k size is same e =
    grind (arith, take_all, length-append, length-replicate, copied, padded, take_at)
