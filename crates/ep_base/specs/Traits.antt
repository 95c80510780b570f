-- What `Clone`, `PartialEq`, `Ord`, `Hash` and `Default` of a type mean: laws of the relations that
-- its impls name.
use Rattle.std.specs.Prelude.{◌≡◌, ℕ, Bool, IsTrue, ◌↔◌, List, ◌++◌, pos}
use Rattle.std.specs.Hash as fed
use Rattle.std.specs.Ordering.{nat_cmp}
use Rattle.std.specs.declared.cmp.Ordering.{Ordering}

-- a copy is the value
abbrev pub CopyIsValue : {T : Type 0} → (T → T → Type 0) → Type 0
CopyIsValue is_clone = (value copy : _) → is_clone value copy → copy ≡ value

-- no copy fails
abbrev pub CopyNeverFails : {T : Type 0} → (T → Type 0) → Type 0
CopyNeverFails is_infallible = (value : _) → is_infallible value

-- equal are the values that are the same, all fields of them
abbrev pub EqualIsSame : {T : Type 0} → (T → T → Bool) → Type 0
EqualIsSame eq = (a b : _) → IsTrue (eq a b) ↔ (a ≡ b)

-- a copy is the value and doesn't fail, and equal are the values that are the same
abbrev pub IsPlainData : {T : Type 0} →
    record { eq : T → T → Bool; is_clone : T → T → Type 0; is_infallible : T → Type 0 } → Type 0
IsPlainData type = record {
  copies : CopyIsValue type.is_clone;
  never_fails : CopyNeverFails type.is_infallible;
  equals : EqualIsSame type.eq;
}

-- the order is that of these numbers
abbrev pub OrderIsOf : {T : Type 0} → (T → ℕ) → (T → T → Ordering) → Type 0
OrderIsOf number cmp = (a b : _) → cmp a b ≡ nat_cmp (number a) (number b)

-- a hasher is fed this
abbrev pub HashIsOf : {T : Type 0} → (T → List (List ℕ)) → (T → List (List ℕ)) → Type 0
HashIsOf feed hash_input = (value : _) → hash_input value ≡ feed value

-- a hasher is fed which variant it is, by its index among them
abbrev pub HashIsOfIndex : {T : Type 0} → (T → ℕ) → (T → List (List ℕ)) → Type 0
HashIsOfIndex position hash_input = HashIsOf (λ variant. fed.isize (pos (position variant))) hash_input

-- a variant feeds it its index, and then what the value that it holds does
abbrev pub VariantFeeds : {T U : Type 0} → (T → List (List ℕ)) → ℕ → (U → T)
    → (U → List (List ℕ)) → Type 0
VariantFeeds hash_input position variant feed =
    (held : _) → hash_input (variant held) ≡ fed.isize (pos position) ++ feed held

-- the default is this value
abbrev pub DefaultIs : {T : Type 0} → T → (T → Type 0) → Type 0
DefaultIs value is_default = (given : _) → is_default given → given ≡ value
