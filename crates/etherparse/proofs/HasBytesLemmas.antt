-- Bytes that a list holds from an index on.
use Rattle.std.proofs.Common.{◌≡◌, ℕ, ◌≤◌, Bool, ◌↔◌, nat_eq, List, ◌++◌, length, take, drop, arith, ap, ◌∙◌}
use Rattle.std.proofs.lemmas.Bool.Decides.{Decides-eqb}
use Rattle.std.proofs.lemmas.List.{get_or-drop, length-drop, length-take, get_or-take, take-append-drop}
use Rattle.std.proofs.lemmas.List.{get_or_append_left}
use Rattle.std.proofs.lemmas.Grind.{same_number_lists}
use Rattle.std.proofs.lemmas.Slice.Eq.{starts_is}
use Rattle.std.specs.List.{starts_with}
use Rattle.std.specs.Prelude.{IsTrue}
use Rattle.etherparse.specs.StoredFragment.{HasBytes}

starts_by_bytes : (there bytes : List ℕ) (start : ℕ) → start ≤ length there
    → HasBytes there start bytes
    → drop start there ≡ bytes ++ drop (length bytes) (drop start there)
starts_by_bytes there bytes start within h =
    let rest = drop start there in
    let n = length bytes in
    let prefix : take n rest ≡ bytes =
    grind (arith, same_number_lists, length-take, length-drop, get_or-take, get_or-drop) in
    grind (arith, take-append-drop)

pub has_bytes_is : (there bytes rest : List ℕ) (start : ℕ) (test : Bool) → start ≤ length there
    → rest ≡ drop start there → (IsTrue test → length bytes ≤ length rest)
    → test ≡ starts_with nat_eq rest bytes → IsTrue test ↔ HasBytes there start bytes
has_bytes_is there bytes rest start test within rest_is bound is =
    let starts = starts_is Decides-eqb rest bytes test is in
    let long = ap length rest_is ∙ length-drop start there in
    grind (arith, get_or-drop, get_or_append_left, starts_by_bytes)
