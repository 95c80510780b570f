-- Sums of chunks of a text, each filled up to whole words.
use Rattle.std.proofs.Common.{append-nil, ◌≡◌, ℕ, ◌+◌, ◌<◌, List, ◌∷◌, ◌++◌, length, take, [], get_or, sym, ap, ◌∙◌}
use Rattle.std.proofs.Common.{refl, arith, length-append}
use Rattle.std.specs.List.{sum_by, flat_map}
use Rattle.std.proofs.lemmas.List.Concat.{flat_map-cons, concat_is}
use Rattle.std.proofs.lemmas.List.Sorted.{sum_by-IsPermutation}
use Rattle.std.proofs.lemmas.List.Sums.{sum_by-cons, sum_by_more}
use Rattle.std.proofs.lemmas.Simd.{length-replicate}
use Rattle.ep_base.specs.Sum.{fold, total, whole_words, IsCutAtWords, FoldOfChunks}
use Rattle.ep_base.proofs.Folds.{fold_add}
use Rattle.ep_base.proofs.Totals.{total-append, total-whole_words}

-- one chunk more, in a sum that is a fold
pub chunk_more : {X : Type 0} (f : X → ℕ) (sum next : ℕ) (xs : List X) (i : ℕ) (d : X)
    → i < length xs
    → sum ≡ fold (sum_by f (take i xs)) → next ≡ fold (sum + f (get_or xs i d))
    → next ≡ fold (sum_by f (take (i + 1) xs))
chunk_more f sum next xs i d h so step =
    step ∙ ap (λ n. fold (n + f (get_or xs i d))) so
    ∙ fold_add (sum_by f (take i xs)) (f (get_or xs i d))
    ∙ ap fold (sym (sum_by_more f xs i d h))

total-whole_words_before : (chunk rest : List ℕ)
    → total (whole_words chunk ++ rest) ≡ total chunk + total rest
total-whole_words_before chunk rest =
    grind (arith, length-append, length-replicate, total-append, total-whole_words)

pub total-chunks : {X : Type 0} (f : X → List ℕ) (xs : List X)
    → total (flat_map (λ x. whole_words (f x)) xs) ≡ sum_by (λ x. total (f x)) xs
unfolding total
total-chunks f [] = refl
total-chunks f (x ∷ xs) =
    ap total (flat_map-cons (λ y. whole_words (f y)) x xs)
    ∙ total-whole_words_before (f x) (flat_map (λ y. whole_words (f y)) xs)
    ∙ ap (λ n. total (f x) + n) (total-chunks f xs)
    ∙ sym (sum_by-cons (λ y. total (f y)) x xs)

total-concat : (chunks : List (List ℕ)) → IsCutAtWords chunks
    → total (flat_map (λ x. x) chunks) ≡ sum_by total chunks
unfolding total
total-concat [] h = refl
total-concat (p ∷ []) h = grind (arith, flat_map-cons, append-nil, sum_by-cons)
total-concat (p ∷ q ∷ rest) h =
    ap total (flat_map-cons (λ x. x) p (q ∷ rest))
    ∙ total-append p (flat_map (λ x. x) (q ∷ rest)) h.0
    ∙ ap (λ n. total p + n) (total-concat (q ∷ rest) h.1)
    ∙ sym (sum_by-cons total p (q ∷ rest))

pub fold_of_pieces : FoldOfChunks
fold_of_pieces text chunks order whole cut moved =
    let parts = total-chunks (λ x. x) order in
    let same = sum_by-IsPermutation total chunks order moved in
    grind (arith, total-concat, concat_is)
