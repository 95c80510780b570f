-- The first bytes of a list.
use Rattle.std.proofs.Common.{◌≡◌, ◌∙◌, ap, refl, ℕ, zero, suc, ◌+◌, ◌-◌, ◌≤◌, List, [], ◌∷◌, ◌++◌, length, take, drop, arith}
use Rattle.std.proofs.Math.Seq.{take-append-add}
use Rattle.std.proofs.lemmas.List.{drop-take}
use Rattle.ep_base.specs.Bytes.{IsContinued}

-- where others continue them
pub take_continued : (n : ℕ) (bytes more : List ℕ) → IsContinued (take n bytes) (take n (bytes ++ more))
take_continued zero bytes more = ([], refl)
take_continued (suc n) [] more = (take (suc n) more, refl)
take_continued (suc n) (b ∷ bytes) more =
    let inner = take_continued n bytes more in
    (inner.0, ap (λ (xs : List ℕ). b ∷ xs) inner.1)

-- of a header and what follows it
pub take_after : (n : ℕ) (xs ys : List ℕ) → length xs ≤ n → take n (xs ++ ys) ≡ xs ++ take (n - length xs) ys
take_after n xs ys fits =
    let all : n ≡ length xs + (n - length xs) = omega (arith, fits) in
    ap (λ (k : ℕ). take k (xs ++ ys)) all ∙ take-append-add xs ys (n - length xs)

pub drop_in : (k n : ℕ) (bytes : List ℕ) → k ≤ n → drop k (take n bytes) ≡ take (n - k) (drop k bytes)
drop_in k n bytes fits =
    let all : n ≡ k + (n - k) = omega (arith, fits) in
    ap (λ (m : ℕ). drop k (take m bytes)) all ∙ drop-take k (n - k) bytes

-- of a payload that other bytes follow, as far as both are there
pub payload_prefix : (n : ℕ) (payload beyond : List ℕ)
    → take (length payload) (take n (payload ++ beyond)) ≡ take n payload
payload_prefix zero [] beyond = refl
payload_prefix zero (b ∷ payload) beyond = refl
payload_prefix (suc n) [] beyond = refl
payload_prefix (suc n) (b ∷ payload) beyond = ap (λ (xs : List ℕ). b ∷ xs) (payload_prefix n payload beyond)
