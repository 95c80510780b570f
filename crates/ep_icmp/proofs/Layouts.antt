-- The bytes of fields.
use Rattle.std.proofs.Common.{◌≡◌, ℕ, ◌+◌, List, ◌++◌, length, take, drop, arith, []}
use Rattle.std.proofs.lemmas.List.{append-nil, drop_at, length-append}
use Rattle.ep_base.proofs.Cells.{cells, take-drop-cells}
use Rattle.ep_icmp.specs.Layout.{Fields, used_bytes, bytes_of_fields}

pub bytes_of_fields-used_bytes : (bytes : List ℕ) → bytes_of_fields (used_bytes bytes) ≡ bytes
bytes_of_fields-used_bytes bytes = append-nil bytes

pub four_cells : (bytes : List ℕ) → length bytes ≡ 4
    → cells 4 0 bytes ≡ take 4 (bytes_of_fields (used_bytes bytes))
four_cells bytes four = grind (arith, bytes_of_fields-used_bytes, take-drop-cells)

-- fields of four bytes, where nothing follows them
pub written_four : (fields : Fields) → drop 4 (bytes_of_fields fields) ≡ []
    → bytes_of_fields fields ≡ take 4 (bytes_of_fields fields)
written_four fields none = grind arith

-- a prefix of n bytes and what follows it
pub prefix_of : (n : ℕ) (slice prefix rest : List ℕ) → slice ≡ prefix ++ rest → length prefix ≡ n
    → (length slice ≡ n + length rest) × (drop n slice ≡ rest)
prefix_of n slice prefix rest slice_is len = grind (arith, length-append, drop_at)
