-- What the first value of a list has that passes a test.
use Rattle.std.proofs.Common.{◌≡◌, Bool, true, false, cond, Option, Some, unwrap_or, List, [], ◌∷◌, find, refl}

pick : {A : Type 0} (P : A → Type 0) (b : Bool) (x d : A) (rest : Option A) → (b ≡ true → P x)
    → P (unwrap_or rest d) → P (unwrap_or (cond b (Some x) rest) d)
pick P true x d rest h e = h refl
pick P false x d rest h e = e

-- what each value that passes has, and so has the default
pub found_passes : {A : Type 0} (p : A → Bool) (P : A → Type 0) (xs : List A) (d : A)
    → ((x : A) → p x ≡ true → P x) → P d → P (unwrap_or (find p xs) d)
found_passes p P [] d h e = e
found_passes p P (x ∷ xs) d h e = pick P (p x) x d (find p xs) (h x) (found_passes p P xs d h e)

-- P of each value of a list
abbrev pub Each : {A : Type 0} → (A → Type 0) → List A → Type 0
Each P [] = Unit {0}
Each P (x ∷ xs) = P x × Each P xs

-- what each value of the list has, and so has the default
pub found_among : {A : Type 0} (p : A → Bool) (P : A → Type 0) (xs : List A) (d : A) → Each P xs
    → P d → P (unwrap_or (find p xs) d)
found_among p P [] d each e = e
found_among p P (x ∷ xs) d each e =
    pick P (p x) x d (find p xs) (λ _. each.0) (found_among p P xs d each.1 e)
