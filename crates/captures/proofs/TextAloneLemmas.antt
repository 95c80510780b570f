-- The frames of a text of lines are determined by its bytes.
use Rattle.std.proofs.Common.{◌≡◌, ◌∙◌, sym, ap, refl, ℕ, false, true, arith, List, [], ◌∷◌, ◌++◌, length, drop}
use Rattle.std.proofs.Common.{append-nil, length-append}
use Rattle.std.specs.Prelude.{slice_index}
use Rattle.captures.specs.CapturedFrames.{CapturedFrame}
use Rattle.captures.specs.Texts.{is_newline, with_line_ends, GiveFrames, IsText}
use Rattle.lines.specs.Lines.{HasNoNewline}

tail_same : (a b : ℕ) (xs ys : List ℕ) → a ∷ xs ≡ b ∷ ys → xs ≡ ys
tail_same a b xs ys same = ap (λ (l : List ℕ). drop 1 l) same

head_same : (a b : ℕ) (xs ys : List ℕ) → a ∷ xs ≡ b ∷ ys → a ≡ b
head_same a b xs ys same = ap (λ (l : List ℕ). slice_index l 0) same

no_end : (b : ℕ) → 10 ≡ b → is_newline b ≡ false → ⊥
no_end b same none = let e : true ≡ false = ap is_newline same ∙ none in absurd (cc)

-- a line ends at the first 0a
line_same : (l m xs ys : List ℕ) → HasNoNewline l → HasNoNewline m
    → l ++ 10 ∷ xs ≡ m ++ 10 ∷ ys → (l ≡ m) × (xs ≡ ys)
line_same [] [] xs ys p q same = (refl, tail_same 10 10 xs ys same)
line_same [] (b ∷ m) xs ys p q same = absurd (no_end b (head_same 10 b xs (m ++ 10 ∷ ys) same) q.0)
line_same (a ∷ l) [] xs ys p q same = grind arith
line_same (a ∷ l) (b ∷ m) xs ys p q same =
    grind (arith, line_same l m xs ys p.1 q.1 (tail_same a b (l ++ 10 ∷ xs) (m ++ 10 ∷ ys) same))

lines_alone : (ls ms : List (List ℕ)) (fs gs : List CapturedFrame) → GiveFrames ls fs → GiveFrames ms gs
    → with_line_ends ls ≡ with_line_ends ms → fs ≡ gs
lines_alone [] [] fs gs p q same = p ∙ sym q
lines_alone [] (m ∷ ms) fs gs p q same = let sizes = ap length same in
    absurd (omega (arith, length-append m (10 ∷ with_line_ends ms)))
lines_alone (l ∷ ls) [] fs gs p q same = let sizes = ap length same in
    absurd (omega (arith, length-append l (10 ∷ with_line_ends ls)))
lines_alone (l ∷ ls) (m ∷ ms) fs gs p q same =
    let split = line_same l m (with_line_ends ls) (with_line_ends ms) p.2 q.2 same in
    let first : p.0 ≡ q.0 = grind arith in
    let later = lines_alone ls ms p.1 q.1 p.4 q.4 split.1 in
    grind arith

pub text_alone : (bytes : List ℕ) (frames frames' : List CapturedFrame) → IsText bytes frames
    → IsText bytes frames' → frames ≡ frames'
text_alone bytes frames frames' p q = grind (arith, append-nil, lines_alone)
