-- An Ethernet II frame (RFC 894), with a frame check sequence or without (IEEE 802.3, section 3.2.9).
use Rattle.std.specs.Prelude.{ℕ, ◌-◌, Bool, true, false, if◌then◌else◌, List, ◌∷◌, length, take, drop, nat_eq, nat_lt}
use Rattle.std.specs.Prelude.{Option, Some, None, Result, Ok, Err}
use Rattle.std.specs.Cmp.Lexicographic.{pointwise}
use Rattle.std.specs.Int.{w32, to_le_bytes}
use Rattle.ep_base.specs.LenError.{too_few_bytes}
use Rattle.ep_base.specs.declared.err.layer.Layer.TheVariants.{Ethernet2Header}
use Rattle.ep_base.specs.declared.err.len_error.LenError.{LenError}
use Rattle.ep_link.specs.Crc32.{crc32}
use Rattle.ep_link.specs.Ethernet.{ethernet_len}

-- all bytes of a frame, and whether the last four are its frame check sequence
pub record EthernetFrame : Type 0 where
  pub bytes : List ℕ
  pub has_fcs : Bool

abbrev pub fcs_len : ℕ
fcs_len = 4

-- the frame of these bytes, none of which are a frame check sequence
abbrev pub without_fcs : List ℕ → EthernetFrame
without_fcs bytes = record { bytes = bytes; has_fcs = false }

-- the frame of these bytes, the last four of which are its frame check sequence
abbrev pub with_fcs : List ℕ → EthernetFrame
with_fcs bytes = record { bytes = bytes; has_fcs = true }

-- header and payload
abbrev pub before_fcs : EthernetFrame → List ℕ
before_fcs frame =
    if frame.has_fcs then take (length frame.bytes - fcs_len) frame.bytes else frame.bytes

-- the frame check sequence, where it is there
abbrev pub fcs_of : EthernetFrame → Option (List ℕ)
fcs_of frame =
    if frame.has_fcs then Some (drop (length frame.bytes - fcs_len) frame.bytes) else None

-- the sequence is that of these bytes: their CRC-32, least significant byte first
abbrev pub fcs_is_right : List ℕ → List ℕ → Bool
fcs_is_right bytes fcs = pointwise nat_eq (to_le_bytes w32 (crc32 bytes)) fcs

-- the header, and the sequence where it is there
abbrev pub least_len : Bool → ℕ
least_len has_fcs = if has_fcs then 18 else ethernet_len

-- the frame of these bytes, or how many of them are missing
abbrev pub frame_at : List ℕ → Result EthernetFrame LenError
frame_at bytes = if nat_lt (length bytes) ethernet_len
    then Err (too_few_bytes Ethernet2Header ethernet_len (length bytes)) else Ok (without_fcs bytes)

abbrev pub frame_with_fcs_at : List ℕ → Result EthernetFrame LenError
frame_with_fcs_at bytes = if nat_lt (length bytes) 18
    then Err (too_few_bytes Ethernet2Header 18 (length bytes)) else Ok (with_fcs bytes)

-- whether there is a sequence, and all bytes
abbrev pub compared_as : EthernetFrame → List ℕ
compared_as frame = (if frame.has_fcs then 1 else 0) ∷ frame.bytes
