-- A prefix of some bytes that is a header: how it is taken, and how its fields are read.
use Rattle.std.specs.Prelude.{◌≡◌, ℕ, List, ◌++◌, length, Result, Ok, IfOk}

abbrev pub IsOfLength : ℕ → List ℕ → Type 0
IsOfLength n prefix = length prefix ≡ n

-- what is taken is such a prefix of the bytes, and a prefix of that kind is taken
pub record TakesPrefix {E : Type 0} (IsPrefix : List ℕ → Type 0) (bytes : List ℕ)
    (taken : Result (List ℕ) E) : Type 0 where
  pub found : IfOk taken (λ prefix. IsPrefix prefix × ((rest : List ℕ) × (bytes ≡ prefix ++ rest)))
  pub only : (prefix rest : List ℕ) → IsPrefix prefix → bytes ≡ prefix ++ rest → taken ≡ Ok prefix

-- the bytes are a header with these fields, which encode what is kept of it, and the rest
pub record IsReadAs {H : Type 0} (IsHeader : List ℕ → Type 0) (header_of : List ℕ → H) (encoding : H
    → List ℕ) (kept : List ℕ → List ℕ)
    (bytes : List ℕ) (h : H) (rest : List ℕ) : Type 0 where
  pub prefix : List ℕ
  pub header : IsHeader prefix
  pub position : bytes ≡ prefix ++ rest
  pub fields : h ≡ header_of prefix
  pub again : encoding h ≡ kept prefix
