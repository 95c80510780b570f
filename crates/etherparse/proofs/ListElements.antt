-- Elements of lists, by recursion.
use Rattle.std.proofs.Common.{zero, suc, ◌⊎◌, inl, inr, List, [], ◌∷◌, ◌++◌, arith, refl, sym, subst}
use Rattle.std.specs.List.{Any, AllByRecursion}

-- P holds of an element
abbrev pub AnyOf : {X : Type 0} → (X → Type 0) → List X → Type 0
AnyOf P [] = ⊥
AnyOf P (x ∷ xs) = P x ⊎ AnyOf P xs

pub AnyOf-from_Any : {X : Type 0} (P : X → Type 0) (xs : List X) → Any P xs → AnyOf P xs
AnyOf-from_Any P [] h = let below = h.2 in absurd (omega arith)
AnyOf-from_Any P (x ∷ xs) (zero, y, below, is, p) = inl (subst P (sym is) p)
AnyOf-from_Any P (x ∷ xs) (suc k, y, below, is, p) =
    inr (AnyOf-from_Any P xs (k, y, omega arith, is, p))

pub Any-from_AnyOf : {X : Type 0} (P : X → Type 0) (xs : List X) → AnyOf P xs → Any P xs
Any-from_AnyOf P [] h = absurd h
Any-from_AnyOf P (x ∷ xs) (inl h) = (0, x, omega arith, refl, h)
Any-from_AnyOf P (x ∷ xs) (inr h) = let rest = Any-from_AnyOf P xs h in
    (suc rest.0, rest.1, omega (arith, rest.2), rest.3, rest.4)

pub AnyOf-append : {X : Type 0} (P : X → Type 0) (xs ys : List X) → AnyOf P (xs ++ ys)
    → AnyOf P xs ⊎ AnyOf P ys
AnyOf-append P [] ys h = inr h
AnyOf-append P (x ∷ xs) ys (inl h) = inl (inl h)
AnyOf-append P (x ∷ xs) ys (inr h) =
    elim (AnyOf-append P xs ys h) [ inl a ↦ inl (inr a) | inr b ↦ inr b ]

pub AnyOf-left : {X : Type 0} (P : X → Type 0) (xs ys : List X) → AnyOf P xs → AnyOf P (xs ++ ys)
AnyOf-left P [] ys h = absurd h
AnyOf-left P (x ∷ xs) ys (inl h) = inl h
AnyOf-left P (x ∷ xs) ys (inr h) = inr (AnyOf-left P xs ys h)

pub AnyOf-right : {X : Type 0} (P : X → Type 0) (xs ys : List X) → AnyOf P ys → AnyOf P (xs ++ ys)
AnyOf-right P [] ys h = h
AnyOf-right P (x ∷ xs) ys h = inr (AnyOf-right P xs ys h)

-- of a list with one more at its end
pub AnyOf-push : {X : Type 0} (P : X → Type 0) (xs : List X) (x : X)
    → AnyOf P (xs ++ x ∷ []) → AnyOf P xs ⊎ P x
AnyOf-push P xs x h = elim (AnyOf-append P xs (x ∷ []) h)
    [ inl k ↦ inl k | inr k ↦ elim k [ inl m ↦ inr m | inr m ↦ absurd m ] ]

pub push-AnyOf : {X : Type 0} (P : X → Type 0) (xs : List X) (x : X) → AnyOf P xs ⊎ P x
    → AnyOf P (xs ++ x ∷ [])
push-AnyOf P xs x (inl h) = AnyOf-left P xs (x ∷ []) h
push-AnyOf P xs x (inr h) = AnyOf-right P xs (x ∷ []) (inl h)

pub AllByRecursion-push : {X : Type 0} (Q : X → Type 0) (xs : List X) (x : X) → AllByRecursion Q xs
    → Q x → AllByRecursion Q (xs ++ x ∷ [])
AllByRecursion-push Q [] x h q = (q, tt)
AllByRecursion-push Q (y ∷ xs) x h q = (h.0, AllByRecursion-push Q xs x h.1 q)
