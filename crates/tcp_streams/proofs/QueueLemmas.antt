-- Bytes of a vector after the dropped ones.
use Rattle.std.proofs.Common.{◌≡◌, ◌-◌, ◌≤◌, ◌++◌, ◌∙◌, ℕ, List, [], length, take, drop, arith}
use Rattle.std.proofs.lemmas.List.{append-nil, drop_all, drop_at, length-append, length-drop, length-take}
use Rattle.std.proofs.lemmas.List.{with_items_is}
use Rattle.std.specs.declared.vec.Vec.{Vec}
use Rattle.std.specs.Vec.{with_items}

pub kept_view : {Z : Type 0} (v : Vec ℕ Z) (xs new : List ℕ) (k : ℕ) → k ≤ length xs → length xs ≡ v.len
    → length new ≡ length (take (length xs - k) (drop k xs))
    → drop k (with_items v (take k xs ++ (new ++ drop (length xs - k) (drop k xs)))).items ≡ new
kept_view v xs new k fits size same =
    let rest : drop (length xs - k) (drop k xs) ≡ [] =
    drop_all (length xs - k) (drop k xs) (simp length-drop (omega arith)) in
    let new_size : length new ≡ length xs - k = same ∙ length-take (length xs - k) (drop k xs)
    ∙ simp length-drop (omega arith) in
    let prefix : length (take k xs) ≡ k = simp length-take (omega arith) in
    let whole : length (take k xs ++ new) ≡ v.len = simp length-append (omega arith) in
    rw (rest, append-nil, with_items_is v (take k xs ++ new) whole, drop_at (take k xs) new k prefix)
