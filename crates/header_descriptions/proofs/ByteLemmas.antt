-- Columns and lines of bytes, one by one.
use Rattle.std.proofs.Common.{◌≡◌, ◌∙◌, ℕ, zero, suc, ◌+◌, ◌-◌, ◌*◌, ◌<◌, ◌≤◌, List, ◌++◌, length, take, drop, ap, sym, refl, arith, append_assoc, append-nil}
use Rattle.std.specs.Prelude.{min}
use Rattle.std.proofs.lemmas.List.{take_min, drop_min, drop-drop}
use Rattle.header_descriptions.specs.ByteLines.{byte_line, column, lines_from, pair_columns}

-- what is left of so many columns, of which one is written
next_column : (count : ℕ) (bytes : List ℕ) (more : ℕ) → count ≡ suc more
    → pair_columns count bytes ≡ column bytes ++ pair_columns more (drop 2 bytes)
unfolding pair_columns
next_column count bytes more one = rw one refl

pub column_more : (count at : ℕ) (bytes rest out out' whole : List ℕ) → at < count
    → out ++ pair_columns (count - at) bytes ≡ whole
    → out' ≡ out ++ column bytes → rest ≡ drop 1 (drop 1 bytes)
    → out' ++ pair_columns (count - (at + 1)) rest ≡ whole
column_more count at bytes rest out out' whole lt before written left =
    let one : count - at ≡ suc (count - (at + 1)) = omega arith in
    ap (λ l. l ++ pair_columns (count - (at + 1)) rest) written
    ∙ ap (λ l. (out ++ column bytes) ++ pair_columns (count - (at + 1)) l) (left ∙ drop-drop 1 1 bytes)
    ∙ append_assoc out (column bytes) _
    ∙ ap (λ l. out ++ l) (sym (next_column (count - at) bytes (count - (at + 1)) one))
    ∙ before

pub columns_end : (count at : ℕ) (bytes out whole : List ℕ) → count ≤ at
    → out ++ pair_columns (count - at) bytes ≡ whole → out ≡ whole
unfolding pair_columns
columns_end count at bytes out whole le before =
    let none : count - at ≡ zero = omega arith in
    sym (append-nil out) ∙ ap (λ n. out ++ pair_columns n bytes) (sym none) ∙ before

-- what is left of so many lines, of which one is written
next_line : (count offset : ℕ) (bytes : List ℕ) (more : ℕ) → count ≡ suc more
    → lines_from count offset bytes ≡ byte_line offset (take 16 bytes) ++ lines_from more (offset + 16) (drop 16 bytes)
unfolding lines_from
next_line count offset bytes more one = rw one refl

pub line_more : (count line : ℕ) (bytes first rest out out' whole : List ℕ) → line < count
    → out ++ lines_from (count - line) (16 * line) bytes ≡ whole
    → first ≡ take (min 16 (length bytes)) bytes → rest ≡ drop (min 16 (length bytes)) bytes
    → out' ≡ out ++ byte_line (16 * line) first
    → out' ++ lines_from (count - (line + 1)) (16 * (line + 1)) rest ≡ whole
line_more count line bytes first rest out out' whole lt before front back written =
    let one : count - line ≡ suc (count - (line + 1)) = omega arith in
    let next : 16 * (line + 1) ≡ 16 * line + 16 = omega arith in
    let more = count - (line + 1) in
    ap (λ l. l ++ lines_from more (16 * (line + 1)) rest) (written ∙ ap (λ l. out ++ byte_line (16 * line) l) (front ∙ take_min 16 bytes))
    ∙ ap (λ n. (out ++ byte_line (16 * line) (take 16 bytes)) ++ lines_from more n rest) next
    ∙ ap (λ l. (out ++ byte_line (16 * line) (take 16 bytes)) ++ lines_from more (16 * line + 16) l) (back ∙ drop_min 16 bytes)
    ∙ append_assoc out (byte_line (16 * line) (take 16 bytes)) _
    ∙ ap (λ l. out ++ l) (sym (next_line (count - line) (16 * line) bytes more one))
    ∙ before

pub lines_end : (count line offset : ℕ) (bytes out whole : List ℕ) → count ≤ line
    → out ++ lines_from (count - line) offset bytes ≡ whole → out ≡ whole
unfolding lines_from
lines_end count line offset bytes out whole le before =
    let none : count - line ≡ zero = omega arith in
    sym (append-nil out) ∙ ap (λ n. out ++ lines_from n offset bytes) (sym none) ∙ before
