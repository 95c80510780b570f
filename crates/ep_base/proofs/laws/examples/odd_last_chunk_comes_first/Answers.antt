use Rattle.std.proofs.Common.{[], ◌∷◌, refl}
use Rattle.std.proofs.lemmas.List.Sorted.{IsPermutation-append_comm}
use Rattle.ep_base.proofs.laws.examples.odd_last_chunk_comes_first.Goals as goal

pub returns : goal.returns
returns c =
    c.fold_of_pieces.ensures (1 ∷ 2 ∷ 3 ∷ 4 ∷ 5 ∷ []) ((1 ∷ 2 ∷ []) ∷ (3 ∷ 4 ∷ 5 ∷ []) ∷ [])
    ((3 ∷ 4 ∷ 5 ∷ []) ∷ (1 ∷ 2 ∷ []) ∷ []) refl (refl, tt)
    (IsPermutation-append_comm ((1 ∷ 2 ∷ []) ∷ []) ((3 ∷ 4 ∷ 5 ∷ []) ∷ []))
