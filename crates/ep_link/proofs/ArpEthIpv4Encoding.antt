-- The bytes of an ARP packet between Ethernet and IPv4 addresses.
use Rattle.std.proofs.Common.{◌≡◌, ℕ, List, ◌∷◌, ◌++◌, length, sym}
use Rattle.ep_base.proofs.Cells.{as_cells, cells}

-- the list that the code makes
pub put_together : (a b c d : List ℕ) (high low : ℕ) → length a ≡ 6 → length b ≡ 4 → length c ≡ 6
    → length d ≡ 4 →
    0 ∷ 1 ∷ 8 ∷ 0 ∷ 6 ∷ 4 ∷ high ∷ low ∷
    (cells 6 0 a ++ (cells 4 0 b ++ (cells 6 0 c ++ cells 4 0 d)))
    ≡ 0 ∷ 1 ∷ 8 ∷ 0 ∷ length a ∷ length b ∷ high ∷ low ∷ (a ++ (b ++ (c ++ d)))
put_together a b c d high low ha hb hc hd =
    let a_is = as_cells 6 a ha in
    let b_is = as_cells 4 b hb in
    let c_is = as_cells 6 c hc in
    let d_is = as_cells 4 d hd in
    sym (λ i. 0 ∷ 1 ∷ 8 ∷ 0 ∷ ha i ∷ hb i ∷ high ∷ low ∷ (a_is i ++ (b_is i ++ (c_is i ++ d_is i))))
