-- Why bytes do not begin with the header of a Linux cooked capture.
use Rattle.std.specs.Prelude.{ℕ, ◌<◌, ◌≤◌, ◌≡◌, List, length, take, nat_lt, Result, Ok, Err, ◌∷◌, []}
use Rattle.ep_base.specs.LenError.{too_few_bytes}
use Rattle.ep_base.specs.Refusals.{unless_refused}
use Rattle.ep_base.specs.declared.err.layer.Layer.TheVariants as layer
use Rattle.ep_base.specs.declared.err.slice_error.SliceError.{SliceError}
use Rattle.ep_base.specs.declared.err.slice_error.SliceError.TheVariants.{Len, Content}
use Rattle.ep_link.specs.declared.err.linux_sll.header_error.HeaderError.{HeaderError}
use Rattle.ep_link.specs.declared.err.linux_sll.header_error.HeaderError.TheVariants.{UnsupportedPacketTypeField}
use Rattle.ep_link.specs.Sll.{greatest_packet_type, packet_type_of, sll_len}

-- `Ok` of a packet type that is one of the five, and else an error with it
abbrev pub IsPacketType : ℕ → Result ℕ HeaderError → Type 0
IsPacketType n (Ok m) = (n ≤ greatest_packet_type) × (m ≡ n)
IsPacketType n (Err e) = (greatest_packet_type < n) × (e ≡ UnsupportedPacketTypeField n)

-- what is given where the bytes begin with a header, and else the first fault: 16 bytes, packet
-- type
abbrev pub unless_fault : List ℕ → List ℕ → Result (List ℕ) (SliceError HeaderError)
unless_fault bytes = unless_refused ((
  nat_lt (length bytes) sll_len,
  Len (too_few_bytes layer.LinuxSllHeader sll_len (length bytes)),
)
    ∷ (
      nat_lt greatest_packet_type (packet_type_of bytes),
      Content (UnsupportedPacketTypeField (packet_type_of bytes)),
    )
    ∷ [])

-- the header at the start of the bytes
abbrev pub header_at : List ℕ → Result (List ℕ) (SliceError HeaderError)
header_at bytes = unless_fault bytes (take sll_len bytes)

-- all bytes, which begin with a header
abbrev pub whole_at : List ℕ → Result (List ℕ) (SliceError HeaderError)
whole_at bytes = unless_fault bytes bytes
