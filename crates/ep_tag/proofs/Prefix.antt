-- The prefix of some bytes of the length that a layer needs.
use Rattle.std.proofs.Common.{◌≡◌, ℕ, ◌≤◌, List, ◌++◌, length, take, drop, Result, Ok, arith, sym}
use Rattle.std.proofs.lemmas.Bool.{le-ltb, ltb-false}
use Rattle.std.proofs.lemmas.List.{length-take-le, take-append-drop, take_at, length-append}
use Rattle.ep_base.specs.Prefixes.{IsOfLength, TakesPrefix}
use Rattle.ep_base.specs.declared.err.layer.Layer.{Layer}
use Rattle.ep_base.specs.declared.err.len_error.LenError.{LenError}
use Rattle.ep_base.proofs.Prefixes.{guard_ok, ok_same, takes}
use Rattle.ep_tag.specs.Prefix.{prefix_at}

-- what is taken has the layer's length, and is a prefix of the bytes
prefix_takes : (layer : Layer) (n : ℕ) (bytes prefix : List ℕ) → prefix_at layer n bytes ≡ Ok prefix
    → IsOfLength n prefix × ((rest : List ℕ) × (bytes ≡ prefix ++ rest))
prefix_takes layer n bytes prefix e =
    let least = guard_ok _ _ _ _ e in
    let fits : n ≤ length bytes = ltb-false (length bytes) n least.0 in
    let same : take n bytes ≡ prefix = ok_same _ _ least.1 in
    rw (← same) (length-take-le n bytes fits, (drop n bytes, sym (take-append-drop n bytes)))

-- a prefix of the layer's length is taken, whatever follows it
prefix_again : (layer : Layer) (n : ℕ) (prefix rest : List ℕ) → IsOfLength n prefix
    → prefix_at layer n (prefix ++ rest) ≡ Ok prefix
prefix_again layer n prefix rest whole = grind (arith, length-append, le-ltb, take_at)

pub takes_prefix : (layer : Layer) (n : ℕ) (bytes : List ℕ) (taken : Result (List ℕ) LenError)
    → taken ≡ prefix_at layer n bytes → TakesPrefix (IsOfLength n) bytes taken
takes_prefix layer n = grind (arith, takes, prefix_takes, prefix_again)
