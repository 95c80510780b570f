-- The input buffer of a run: what a read puts after the bytes that are left, and these bytes, moved
-- to the start.
use Rattle.std.proofs.Common.{◌≡◌, ◌∙◌, sym, ap, ℕ, ◌+◌, ◌-◌, ◌<◌, ◌≤◌, arith, List, ◌++◌, length, take, drop}
use Rattle.std.proofs.Common.{length-append, append-nil, zero-add, add-zero}
use Rattle.std.proofs.Math.Seq.{take-append-add, drop-append_seam}
use Rattle.std.proofs.lemmas.List.{take-append-le, length-take-le, length-drop, drop-take}
use Rattle.std.proofs.lemmas.List.Edits.{take-paste}
use Rattle.std.specs.List.{copy_within}
use borrow.Rule.Slice.PartMut.{put_mid}
use Rattle.captures.specs.declared.limits.TheConstants.{INPUT_CAPACITY}

-- after a read of n bytes into the k bytes after those that are left
pub read_prefix : (input buf : List ℕ) (left k n : ℕ) → left ≤ length input → n ≤ length buf
    → take (left + n) (put_mid left k input buf) ≡ take left input ++ take n buf
read_prefix input buf left k n fits few =
    grind (arith, length-take-le, take-append-add, take-append-le)

-- after a read of some bytes
pub record SomeRead (input buf : List ℕ) (left k n : ℕ) : Type 0 where
  pub size : length (take n buf) ≤ INPUT_CAPACITY
  pub some : 0 < length (take n buf)
  pub prefix : take (left + n) (put_mid left k input buf) ≡ take left input ++ take n buf

pub some_read : (input buf : List ℕ) (left k n : ℕ) → left ≤ length input → length buf ≡ k
    → k ≤ INPUT_CAPACITY → n ≤ length buf → 0 < n → SomeRead input buf left k n
some_read input buf left k n fits held room few some = grind (arith, length-take-le, read_prefix)

-- after a read of none
pub read_nothing : (input buf : List ℕ) (left k : ℕ) → left ≤ length input
    → take left (put_mid left k input buf) ≡ take left input
read_nothing input buf left k fits =
    ap (λ n. take n (put_mid left k input buf)) (sym (add-zero left))
    ∙ read_prefix input buf left k 0 fits (omega arith) ∙ append-nil (take left input)

-- the bytes that are left, moved to the start
pub moved_to_start : (input moved prefix rest : List ℕ) (n : ℕ) → n ≤ length input
    → take n input ≡ prefix ++ rest → moved ≡ copy_within input (n - length rest) n 0
    → take (length rest) moved ≡ rest
moved_to_start input moved prefix rest n fits parts is =
    let k : ℕ = length rest in
    let sizes = ap length parts in
    let both = length-append prefix rest in
    let whole = length-take-le n input fits in
    let i : ℕ = n - k in
    let seam : i ≡ length prefix = omega arith in
    let all : i + k ≡ n = omega arith in
    let count : n - i ≡ k = omega arith in
    let long : k ≤ length (drop i input) = omega (arith, length-drop i input) in
    let rest_is : take k (drop i input) ≡ rest =
    cc (drop-take i k input, all, parts, seam, drop-append_seam prefix rest) in
    cc (is, count, zero-add k, take-paste input 0 (drop i input) k (omega arith) long, rest_is)
