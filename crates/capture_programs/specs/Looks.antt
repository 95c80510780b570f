-- What an input looks like by its first bytes: the magic numbers of compressed files (RFC 1952, RFC
-- 8878, the formats of xz and bzip2) and of captures.
use Rattle.std.specs.Prelude.{ℕ, ◌==◌, ◌&&◌, ◌||◌, nat_eq, nat_le, Bool, not, if◌then◌else◌, List, [], ◌∷◌, length}
use Rattle.std.specs.Prelude.{codes}
use Rattle.std.specs.List.{starts_with, list_all}
use Rattle.capture_programs.specs.declared.looks.Look.{Look}
use Rattle.capture_programs.specs.declared.looks.Look.TheVariants.{Empty, Gzip, Zstd, Xz, Bzip2, Capture, Text, Other}

abbrev pub begins : List ℕ → List ℕ → Bool
begins prefix magic = starts_with nat_eq prefix magic

-- classic captures in both byte orders and time units, and a section header
abbrev pub begins_capture : List ℕ → Bool
begins_capture prefix =
    begins prefix (0xa1 ∷ 0xb2 ∷ 0xc3 ∷ 0xd4 ∷ []) || begins prefix (0xd4 ∷ 0xc3 ∷ 0xb2 ∷ 0xa1 ∷ [])
    || begins prefix (0xa1 ∷ 0xb2 ∷ 0x3c ∷ 0x4d ∷ [])
    || begins prefix (0x4d ∷ 0x3c ∷ 0xb2 ∷ 0xa1 ∷ [])
    || begins prefix (0x0a ∷ 0x0d ∷ 0x0d ∷ 0x0a ∷ [])

-- tabs, ends of lines, and all that UTF-8 has but control characters
abbrev pub is_text : ℕ → Bool
is_text byte = (byte == 9) || (byte == 10) || (byte == 13)
    || (nat_le 32 byte && not (byte == 127))

abbrev pub look_of : List ℕ → Look
look_of prefix =
    if length prefix == 0 then Empty
    else if begins prefix (0x1f ∷ 0x8b ∷ []) then Gzip
    else if begins prefix (0x28 ∷ 0xb5 ∷ 0x2f ∷ 0xfd ∷ []) then Zstd
    else if begins prefix (0xfd ∷ 0x37 ∷ 0x7a ∷ 0x58 ∷ 0x5a ∷ 0x00 ∷ []) then Xz
    else if begins prefix (codes "BZh") then Bzip2
    else if begins_capture prefix then Capture
    else if list_all is_text prefix then Text
    else Other
