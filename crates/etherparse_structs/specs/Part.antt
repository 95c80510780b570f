-- Offset and length of bytes.
use Rattle.std.specs.Prelude.{ℕ, ◌+◌, ◌-◌, ◌^◌, ◌&&◌, nat_lt, if◌then◌else◌, List, length, take, drop}
use Rattle.etherparse_structs.specs.declared.part.EpPart.{EpPart}

-- these bytes, from an offset on
abbrev pub part_at : ℕ → List ℕ → EpPart
part_at offset bytes = record { offset = offset; len = length bytes }

abbrev pub no_part : EpPart
no_part = record { offset = 0; len = 0 }

-- the bytes of a part, as far as these bytes have it
abbrev pub part_bytes : List ℕ → EpPart → List ℕ
part_bytes bytes part = take part.len (drop part.offset bytes)

-- what is left of a part after its first n bytes
abbrev pub part_after : ℕ → EpPart → EpPart
part_after n part = record { offset = part.offset + n; len = part.len - n }

-- what a header has after its first n bytes, where it has more and their offset is a number of 64 bits
abbrev pub options_part : ℕ → EpPart → EpPart
options_part n header = if nat_lt n header.len && nat_lt (header.offset + n) (2 ^ 64)
    then part_after n header else no_part
