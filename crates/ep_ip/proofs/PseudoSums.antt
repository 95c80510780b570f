-- Sums of pseudo headers, built up chunk by chunk.
use Rattle.std.proofs.Common.{◌≡◌, refl, ℕ, ◌%◌, List, ◌∷◌, ◌++◌, length, append_assoc, length-append, arith, []}
use Rattle.std.specs.Int.{w16, w32, to_be_bytes}
use Rattle.ep_base.specs.Sum.{AddsText, fold, total}
use Rattle.ep_base.specs.MessageSum.{SumsWords}
use Rattle.ep_ip.specs.Pseudo.{pseudo_v4, pseudo_v6}

-- a chunk of whole words is added after a text of whole words
more_words : (sum next : ℕ) (text chunk : List ℕ) → SumsWords sum text → length chunk % 2 ≡ 0
    → AddsText sum chunk next
    → SumsWords next (text ++ chunk)
more_words sum next text chunk sums even adds = grind (arith, length-append)

even_4 : (chunk : List ℕ) → length chunk ≡ 4 → length chunk % 2 ≡ 0
even_4 chunk len = omega arith

even_16 : (chunk : List ℕ) → length chunk ≡ 16 → length chunk % 2 ≡ 0
even_16 chunk len = omega arith

pub pseudo_v4_sums : (source destination : List ℕ) (number len a b c d e : ℕ) → length source ≡ 4
    → length destination ≡ 4
    → a ≡ fold (total []) → AddsText a source b → AddsText b destination c
    → AddsText c (0 ∷ number ∷ []) d → AddsText d (to_be_bytes w16 len) e
    → SumsWords e (pseudo_v4 source destination number len)
pseudo_v4_sums source destination number len a b c d e p q none s t u v =
    let started : SumsWords a [] = record { whole = refl; folded = none } in
    let first = more_words a b [] source started (even_4 source p) s in
    let second = more_words b c source destination first (even_4 destination q) t in
    let third = more_words c d (source ++ destination) (0 ∷ number ∷ []) second refl u in
    let all = more_words d e (source ++ destination ++ 0 ∷ number ∷ [])
    (to_be_bytes w16 len) third refl v in
    grind (arith, append_assoc)

pub pseudo_v6_sums : (source destination : List ℕ) (number len a b c d e : ℕ) → length source ≡ 16
    → length destination ≡ 16
    → a ≡ fold (total []) → AddsText a source b → AddsText b destination c
    → AddsText c (to_be_bytes w32 len) d → AddsText d (0 ∷ 0 ∷ 0 ∷ number ∷ []) e
    → SumsWords e (pseudo_v6 source destination number len)
pseudo_v6_sums source destination number len a b c d e p q none s t u v =
    let started : SumsWords a [] = record { whole = refl; folded = none } in
    let first = more_words a b [] source started (even_16 source p) s in
    let second = more_words b c source destination first (even_16 destination q) t in
    let third = more_words c d (source ++ destination) (to_be_bytes w32 len) second refl u in
    more_words d e (source ++ destination ++ to_be_bytes w32 len)
    (0 ∷ 0 ∷ 0 ∷ number ∷ []) third refl v
