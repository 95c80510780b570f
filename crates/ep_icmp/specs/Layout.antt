-- How an ICMP message is laid out in bytes (RFC 792; RFC 4443, section 2.1): a type, a code and a
-- checksum of 2 bytes, high byte first, and after them what the type and code say.
use Rattle.std.specs.Prelude.{ℕ, ◌+◌, List, [], ◌∷◌, ◌++◌, length, replicate, slice_range, take}
use Rattle.std.specs.Int.{w16, to_be_bytes}

-- what follows the checksum, from byte 4 on, counted from 0: a field, with unused bytes before it
-- and after it
pub record Fields : Type 0 where
  pub before : ℕ
  pub field : List ℕ
  pub after : ℕ

-- four unused bytes
abbrev pub nothing : Fields
nothing = record { before = 4; field = []; after = 0 }

-- these bytes, and none unused
abbrev pub used_bytes : List ℕ → Fields
used_bytes bytes = record { before = 0; field = bytes; after = 0 }

-- a line of a table of kinds
pub record Layout : Type 0 where
  pub type_u8 : ℕ
  pub code_u8 : ℕ
  pub fields : Fields

abbrev pub layout : ℕ → ℕ → Fields → Layout
layout type_u8 code_u8 fields = record { type_u8 = type_u8; code_u8 = code_u8; fields = fields }

-- the bytes of the fields, unused ones as 0
abbrev pub bytes_of_fields : Fields → List ℕ
bytes_of_fields fields = replicate fields.before 0 ++ fields.field ++ replicate fields.after 0

-- the first eight bytes of the header, with this checksum
abbrev pub prefix : Layout → ℕ → List ℕ
prefix l checksum = l.type_u8 ∷ l.code_u8 ∷ to_be_bytes w16 checksum ++ take 4 (bytes_of_fields
    l.fields)

-- the header with this checksum
abbrev pub bytes_of_layout : Layout → ℕ → List ℕ
bytes_of_layout l checksum = l.type_u8 ∷ l.code_u8 ∷ to_be_bytes w16 checksum ++ bytes_of_fields
    l.fields

-- the bytes of a header of this layout, unused ones as 0
abbrev pub with_unused_bytes_zero : Layout → List ℕ → List ℕ
with_unused_bytes_zero l bytes =
    take 4 bytes ++ (replicate l.fields.before 0
    ++ slice_range bytes (4 + l.fields.before) (4 + l.fields.before + length l.fields.field)
    ++ replicate l.fields.after 0)
