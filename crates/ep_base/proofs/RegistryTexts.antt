-- What IANA's registry has for a number, found among its rows and at an index.
use Rattle.std.proofs.Common.{◌≡◌, ℕ, ◌+◌, ◌<◌, ◌≤◌, ◌==◌, nat_lt, ◌||◌, ◌&&◌, Bool, true, false, List, [], ◌∷◌, ◌++◌}
use Rattle.std.proofs.Common.{Option, Some, None, is_none, find, length, map, take, drop, slice_index_or, unwrap_or}
use Rattle.std.proofs.Common.{zero, suc, arith, refl, sym}
use Rattle.std.specs.List.{list_all}
use Rattle.std.specs.Option.{option_and_then}
use Rattle.ep_base.specs.IpRegistry.{Assignment, registry, text_at, texts_of, unless_empty}

abbrev is_filled : Option (List ℕ) → Bool
is_filled None = true
is_filled (Some []) = false
is_filled (Some (code ∷ codes)) = true

abbrev are_numbered : ℕ → List Assignment → Bool
are_numbered k [] = true
are_numbered k (row ∷ rows) = (row.number == k) && are_numbered (suc k) rows

filled : (text : Option (List ℕ)) → is_filled text ≡ true → unless_empty (unwrap_or text []) ≡ text
filled None is = refl
filled (Some []) is = grind arith
filled (Some (code ∷ codes)) is = refl

module _ (text : Assignment → Option (List ℕ)) where
  found : (k i n : ℕ) (rows others : List Assignment) → are_numbered k rows ≡ true
      → list_all (λ row. is_filled (text row)) rows ≡ true → i < length rows → n ≡ k + i
      → text_at (map (λ row. unwrap_or (text row) []) rows) i
      ≡ option_and_then text (find (λ row. row.number == n) (rows ++ others))
  found k i n [] others order all within is = grind arith
  found k zero n (row ∷ rows) others order all within is = grind (arith, filled (text row))
  found k (suc i) n (row ∷ rows) others order all within is =
      grind (arith, found (suc k) i n rows others)

  none : (low high n : ℕ) (rows : List Assignment) → low ≤ n → n ≤ high
      → list_all (λ row. nat_lt row.number low || nat_lt high row.number || is_none (text row)) rows
      ≡ true
      → option_and_then text (find (λ row. row.number == n) rows) ≡ None
  none low high n [] above below all = refl
  none low high n (row ∷ rows) above below all =
      grind (arith, none low high n rows above below)

  pub assigned : (n : ℕ) → list_all (λ row. is_filled (text row)) (take 145 registry) ≡ true
      → n < 145
      → text_at (texts_of text) n ≡ option_and_then text (find (λ row. row.number == n) registry)
  assigned n all within =
      found 0 n n (take 145 registry) (drop 145 registry) refl all within (omega arith)

  -- from low to high
  pub without : (low high n : ℕ) → low ≤ n → n ≤ high
      → list_all (λ row. nat_lt row.number low || nat_lt high row.number || is_none (text row)) registry
      ≡ true
      → None ≡ option_and_then text (find (λ row. row.number == n) registry)
  without low high n above below all = sym (none low high n registry above below all)
