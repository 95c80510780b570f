-- What is held of a buffer.
use Rattle.std.proofs.Common.{◌≡◌, ◌∙◌, sym, ap, ℕ, ◌+◌, ◌-◌, ◌<◌, ◌≤◌, arith, List, ◌++◌, length, take, drop}
use Rattle.std.proofs.Common.{length-drop, Option, Result, Ok, Err}
use Rattle.std.proofs.lemmas.List.{drop-take, length-take-le}
use lib.Seq.{drop-drop, take-add, take-take}
use Rattle.std.proofs.Math.Seq.{take-append_seam}
use Rattle.std.specs.Io.{ReadsAtMost}
use Rattle.std.specs.Io.KnownBytes.{Consumes, IsAtEnd, Keeps, ReadConsumes}
use Rattle.std.specs.List.{copy_within}
use Rattle.std.specs.Prelude.{IfOk, OnErr}
use borrow.Rule.Slice.PartMut.{put_mid}
use Rattle.captures.specs.Dropped.{last_of}
use Rattle.captures.proofs.BufferLemmas.{moved_to_start, read_prefix, read_nothing}

pub held_len : (input : List ℕ) (start end : ℕ) → start ≤ end → end ≤ length input
    → length (take (end - start) (drop start input)) ≡ end - start
held_len input start end ordered fits = grind (arith, length-take-le, length-drop)

tail_is : (input : List ℕ) (start end left : ℕ) → start ≤ end → end ≤ length input
    → left ≤ end - start
    → take left (drop (end - left) input) ≡ last_of left (take (end - start) (drop start input))
tail_is input start end left ordered fits few =
    let n : ℕ = end - start - left in
    let size = held_len input start end ordered fits in
    let whole : end - start ≡ n + left = omega arith in
    let at : start + n ≡ end - left = omega arith in
    let skip : length (take (end - start) (drop start input)) - left ≡ n = omega arith in
    cc (at, drop-drop n start input, drop-take n left (drop start input), whole, skip)

-- no more than the last bytes are held
pub held_last : (input : List ℕ) (start end left : ℕ) → start ≤ end → end ≤ length input
    → left ≤ end - start
    → take (end - (end - left)) (drop (end - left) input)
    ≡ last_of left (take (end - start) (drop start input))
held_last input start end left ordered fits few = grind (arith, tail_is)

-- some of the last bytes are marked
pub marked_last : (input : List ℕ) (start end from len : ℕ) → start ≤ end → end ≤ length input
    → from ≤ end - start → len ≤ from
    → take len (drop (end - from) input)
    ≡ take len (last_of from (take (end - start) (drop start input)))
marked_last input start end from len ordered fits few short =
    sym (take-take len from (drop (end - from) input) short)
    ∙ ap (λ (l : List ℕ). take len l) (tail_is input start end from ordered fits few)

-- ---- a read after what is held, which is moved to the start

moved_held : (input moved : List ℕ) (start end : ℕ) → start ≤ end → end ≤ length input
    → moved ≡ copy_within input start end 0
    → take (end - start) moved ≡ take (end - start) (drop start input)
moved_held input moved start end ordered fits is =
    let held = take (end - start) (drop start input) in
    let size = held_len input start end ordered fits in
    let whole : start + (end - start) ≡ end = omega arith in
    let at : end - length held ≡ start = omega arith in
    ap (λ (k : ℕ). take k moved) (sym size)
    ∙ moved_to_start input moved (take start input) held end fits
    (ap (λ (k : ℕ). take k input) (sym whole) ∙ take-add start (end - start) input)
    (is ∙ ap (λ (k : ℕ). copy_within input k end 0) (sym at))

module _ (input moved buf : List ℕ) (start end : ℕ) (ordered : start ≤ end)
    (fits : end ≤ length input) (same : length moved ≡ length input)
    (is : moved ≡ copy_within input start end 0)
    (size : length buf ≡ length moved - (end - start)) where
  pub filled : {E : Type 0} (r : Result ℕ E) (a b : Option (List ℕ)) → end - start < length input
      → ReadsAtMost r buf → ReadConsumes a b r buf
      → IfOk r (λ given. (chunk : List ℕ)
      × (take (end - start + given) (put_mid (end - start) (length moved - (end - start)) moved buf)
      ≡ take (end - start) (drop start input) ++ chunk)
      × (length chunk ≡ given) × Consumes a b chunk × (given ≡ 0 → IsAtEnd b))
  filled (Ok given) a b room bound reads = (
    take given buf,
    read_prefix moved buf (end - start) (length moved - (end - start)) given (omega arith) bound.0
        ∙ ap (λ (l : List ℕ). l ++ take given buf)
        (moved_held input moved start end ordered fits is),
    length-take-le given buf bound.0,
    reads.0,
    λ none. reads.1 none (omega arith),
  )
  filled (Err e) a b room bound reads = tt

  pub filled_none : {E : Type 0} (r : Result ℕ E) (a b : Option (List ℕ))
      → ReadConsumes a b r buf
      → OnErr r ((take (end - start)
      (put_mid (end - start) (length moved - (end - start)) moved buf)
      ≡ take (end - start) (drop start input)) × Keeps a b)
  filled_none (Ok given) a b reads = tt
  filled_none (Err e) a b reads = (
    read_nothing moved buf (end - start) (length moved - (end - start)) (omega arith)
        ∙ moved_held input moved start end ordered fits is,
    reads,
  )

  pub filled_bound : {E : Type 0} (r : Result ℕ E) → ReadsAtMost r buf
      → IfOk r (λ given. end - start + given ≤ length input)
  filled_bound (Ok given) bound = let few = bound.0 in omega arith
  filled_bound (Err e) bound = tt

-- all of a vector is written
pub all_written : (new old : List ℕ) (len : ℕ) → length new ≡ len
    → take len (new ++ drop (length new) old) ≡ new
all_written new old len size = grind (arith, take-append_seam)
