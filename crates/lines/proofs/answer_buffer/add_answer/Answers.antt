use Rattle.std.proofs.Common.{◌≡◌, ◌≤◌, ◌+◌, ◌++◌, ◌∙◌, ap, ℕ, List, length, take, arith, length-take}
use Rattle.std.proofs.lemmas.List.{take-append-le}
use Rattle.std.proofs.Math.Seq.{take-append-add}
use Rattle.lines.proofs.answer_buffer.add_answer.Goals as goal

-- what is put after a prefix
put_after : (a n : ℕ) (xs ys post : List ℕ) → a ≤ length xs → n ≤ length ys
    → take (a + n) (take a xs ++ (ys ++ post)) ≡ take a xs ++ take n ys
put_after a n xs ys post fits le =
    let len : a ≡ length (take a xs) = omega (arith, length-take a xs) in
    ap (λ k. take (k + n) (take a xs ++ (ys ++ post))) len
    ∙ take-append-add (take a xs) (ys ++ post) n
    ∙ ap (λ l. take a xs ++ l) (take-append-le n ys post le)

pub returns-clause-answers : goal.returns-clause-answers
returns-clause-answers g c earlier line shows numbered =
    let end_reported = c.in_ok-len.ensures.answers earlier line shows numbered in
    let used = c.args.used in
    let output = c.args.output.now in
    let out = c.end.new.out in
    let fits : used ≤ length output = omega (arith, c.requires) in (
      put_after used c.in_ok-len.len output out _ fits c.in_ok-len.ensures.fits
          ∙ ap (λ (l : List ℕ). take used output ++ l) end_reported.0,
      end_reported.1,
    )
