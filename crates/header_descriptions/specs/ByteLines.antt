-- Bytes as text, 16 a line, as they are written by `tcpdump -X`.
use Rattle.std.specs.Prelude.{ℕ, ◌+◌, ◌/◌, ◌%◌, ◌&&◌, nat_le, nat_lt, if◌then◌else◌, false, List, [], ◌∷◌, ◌++◌, codes, drop}
use Rattle.std.specs.Prelude.{length, map, take, zero, suc}
use Rattle.std.specs.Int.{div_ceil}
use Rattle.std.specs.Fmt.{digits}

-- the digit of the lowest four bits of a number, `0` to `9` and `a` to `f`
abbrev pub digit_of : ℕ → ℕ
digit_of n = if nat_lt (n % 16) 10 then 48 + n % 16 else 87 + n % 16

-- the two digits of a byte
abbrev pub digits_of : ℕ → List ℕ
digits_of byte = digit_of (byte / 16) ∷ digit_of byte ∷ []

-- all digits of an offset, four at least, as `%04x` writes them
abbrev pub offset_text : ℕ → List ℕ
offset_text offset =
    if nat_lt offset 65536
    then digit_of (offset / 4096) ∷ digit_of (offset / 256) ∷ digit_of (offset / 16) ∷ digit_of offset
    ∷ []
    else digits 16 false offset

-- the digits of the first byte, or two spaces where there is none
abbrev pub first_digits : List ℕ → List ℕ
first_digits [] = 32 ∷ 32 ∷ []
first_digits (byte ∷ bytes) = digits_of byte

-- a space and the digits of the first two bytes
abbrev pub column : List ℕ → List ℕ
column bytes = (32 ∷ first_digits bytes) ++ first_digits (drop 1 bytes)

-- so many columns
unfoldable pub pair_columns : (count : ℕ) → List ℕ → List ℕ
pair_columns zero bytes = []
pair_columns (suc count) bytes = column bytes ++ pair_columns count (drop 2 bytes)

-- a byte that is a visible character of ASCII stands for itself, any other is a dot
abbrev pub letter_of : ℕ → ℕ
letter_of byte = if nat_le 33 byte && nat_le byte 126 then byte else 46

-- the line of at most 16 bytes, the first of which has this offset
abbrev pub byte_line : (offset : ℕ) → List ℕ → List ℕ
byte_line offset bytes = (9 ∷ codes "0x") ++ offset_text offset ++ codes ": " ++ pair_columns 8 bytes
    ++ codes "  " ++ map letter_of bytes ++ 10 ∷ []

-- so many lines, the first of which begins at this offset
unfoldable pub lines_from : (count offset : ℕ) → List ℕ → List ℕ
lines_from zero offset bytes = []
lines_from (suc count) offset bytes = byte_line offset (take 16 bytes)
    ++ lines_from count (offset + 16) (drop 16 bytes)

-- the lines of all bytes
abbrev pub byte_lines : List ℕ → List ℕ
byte_lines bytes = lines_from (div_ceil (length bytes) 16) 0 bytes
