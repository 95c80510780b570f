-- Numbers in either byte order, and counts.
use Rattle.std.specs.Prelude.{ℕ, ◌+◌, ◌-◌, ◌*◌, ◌^◌, min, List, slice_index}
use Rattle.ep_base.specs.Bytes.{num}
use Rattle.captures.specs.declared.byte_order.ByteOrder.{ByteOrder}
use Rattle.captures.specs.declared.byte_order.ByteOrder.TheVariants.{Big, Little}

-- the number that the two bytes at an offset encode
abbrev pub half : ByteOrder → List ℕ → ℕ → ℕ
half Big bytes p = num bytes p 2
half Little bytes p = slice_index bytes p + 256 * slice_index bytes (p + 1)

-- the number that the four bytes at an offset encode
abbrev pub word : ByteOrder → List ℕ → ℕ → ℕ
word Big bytes p = num bytes p 4
word Little bytes p = slice_index bytes p + 256 *
    (slice_index bytes (p + 1) + 256 *
    (slice_index bytes (p + 2) + 256 * slice_index bytes (p + 3)))

-- a count of 64 bits, which stops at the greatest
abbrev pub capped : ℕ → ℕ
capped n = min n (2 ^ 64 - 1)
