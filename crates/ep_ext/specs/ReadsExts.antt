-- Extension headers in a row that are read from a reader.
use Rattle.std.specs.Prelude.{◌≡◌, ◌≢◌, ℕ, ◌≤◌, List, [], ◌∷◌, length, IsSome, Option, Some, None}
use Rattle.std.specs.Io.KnownBytes.{Consumes}
use Rattle.ep_base.specs.declared.err.layer.Layer.{Layer}
use Rattle.ep_base.specs.declared.err.layer.Layer.TheVariants.{Ipv6ExtHeader, Ipv6FragHeader, IpAuthHeader}
use Rattle.ep_base.specs.declared.net.ip_number.IpNumber.{IpNumber}
use Rattle.ep_ext.specs.Chain.{Row}
use Rattle.ep_ext.specs.Slot.{slot_of}
use Rattle.ep_ext.specs.Auth.{auth_len}
use Rattle.ep_ext.specs.Limited.{Limited, at_next_layer, Takes, Refuses}
use Rattle.ep_ext.specs.Raw.{raw_len}
use Rattle.ep_ext.specs.Reads.{HasContentFault, RefusesHeader}
use Rattle.ep_ext.specs.Value.{Piece, slots, bytes_of, value_of}
use Rattle.ep_ext.specs.declared.err.ip_auth.header_limited_read_error.HeaderLimitedReadError.{HeaderLimitedReadError as AuthLimitedReadError}
use Rattle.ep_ext.specs.declared.err.ip_auth.header_limited_read_error.HeaderLimitedReadError.TheVariants as auth_limited
use Rattle.ep_ext.specs.declared.err.ipv6_exts.header_error.HeaderError.TheVariants.{HopByHopNotAtStart, IpAuth}
use Rattle.ep_ext.specs.declared.err.io.limited_read_error.LimitedReadError.{LimitedReadError}
use Rattle.ep_ext.specs.declared.err.io.limited_read_error.LimitedReadError.TheVariants as bytes_fault
use Rattle.ep_ext.specs.declared.err.ipv6_exts.header_limited_read_error.HeaderLimitedReadError.{HeaderLimitedReadError}
use Rattle.ep_ext.specs.declared.err.ipv6_exts.header_limited_read_error.HeaderLimitedReadError.TheVariants as limited
use Rattle.ep_ext.specs.declared.err.ipv6_exts.header_read_error.HeaderReadError.{HeaderReadError}
use Rattle.ep_ext.specs.declared.err.ipv6_exts.header_read_error.HeaderReadError.TheVariants.{Io, Content}
use Rattle.ep_ext.specs.declared.net.ipv6_ext_slot.Ipv6ExtSlot.{Ipv6ExtSlot}
use Rattle.ep_ext.specs.declared.net.ipv6_ext_slot.Ipv6ExtSlot.TheVariants.{HopByHop, Destination, Routing, Fragment}
use Rattle.ep_ext.specs.declared.net.ipv6_ext_slot.Ipv6ExtSlot.TheVariants.{Authentication, FinalDestination}
use Rattle.ep_ext.specs.declared.net.ipv6_extensions.Ipv6Extensions.{Ipv6Extensions}

-- headers in a row, no more than six, of which the value holds each in its slot, and a number that
-- has no slot after them and is not that of hop-by-hop options
pub record IsWholeRow (first : ℕ) (pieces : List Piece) (last : ℕ) : Type 0 where
  pub row : Row slot_of [] first pieces last
  pub most : length pieces ≤ 6
  pub closed : slot_of (slots pieces) last ≡ None
  pub number : last ≢ 0

-- a reader whose known bytes went from old to new gave these headers
abbrev pub ReadsRow : ℕ → Option (List ℕ) → Option (List ℕ) → Ipv6Extensions × IpNumber → Type 0
ReadsRow first old new answer = (pieces : List Piece) × IsWholeRow first pieces answer.1.0
    × Consumes old new (bytes_of pieces) × (answer.0 ≡ value_of pieces)

-- the header of this slot was not read: a read failed, or what was read is no authentication
-- header; or hop-by-hop options are not the first header, and nothing was read
abbrev pub RefusesExt : Option Ipv6ExtSlot → ℕ → Option (List ℕ) → HeaderReadError
    → Option (List ℕ) → Type 0
RefusesExt slot number old (Io e) new = IsSome slot
RefusesExt slot number old (Content HopByHopNotAtStart) new = (slot ≡ None)
    × (number ≡ 0) × (new ≡ old)
RefusesExt slot number old (Content (IpAuth e)) new =
    (slot ≡ Some Authentication)
    × ((prefix : List ℕ) × HasContentFault prefix e × Consumes old new prefix)

-- the reader gave headers in a row, and the next was not read
abbrev pub RefusesRow : ℕ → Option (List ℕ) → HeaderReadError → Option (List ℕ) → Type 0
RefusesRow first old e new = (pieces : List Piece) × (number : ℕ) × (between : Option (List ℕ))
    × Row slot_of [] first pieces number × (length pieces ≤ 6)
    × Consumes old between (bytes_of pieces)
    × RefusesExt (slot_of (slots pieces) number) number between e new

abbrev pub IsExtsIo : HeaderReadError → Type 0
IsExtsIo (Io e) = Unit {0}
IsExtsIo (Content e) = ⊥

-- the layer that a header is when it is read with a limit
abbrev pub read_layer : Ipv6ExtSlot → Layer
read_layer HopByHop = Ipv6ExtHeader
read_layer Destination = Ipv6ExtHeader
read_layer Routing = Ipv6ExtHeader
read_layer Fragment = Ipv6FragHeader
read_layer Authentication = IpAuthHeader
read_layer FinalDestination = Ipv6ExtHeader

-- a reader gave these headers within its limit, each as a layer
abbrev pub TakesRow : {T : Type 0} → (T → Option (List ℕ)) → Limited T
    → List Piece → Limited T → Type 0
TakesRow remaining old [] new = new ≡ old
TakesRow {T = T} remaining old (piece ∷ pieces) new = (between : Limited T)
    × Takes remaining (at_next_layer old (read_layer piece.0)) piece.1 between
    × TakesRow remaining between pieces new

abbrev pub ReadsRowWithin : {T : Type 0} → (T → Option (List ℕ)) → ℕ → Limited T → Limited T
    → Ipv6Extensions × IpNumber → Type 0
ReadsRowWithin remaining first old new answer = (pieces : List Piece)
    × IsWholeRow first pieces answer.1.0
    × TakesRow remaining old pieces new × (answer.0 ≡ value_of pieces)

-- the bytes of the header of this slot were not read: a read failed, or they go beyond the limit
abbrev pub RefusesBytes : {T : Type 0} → (T → Option (List ℕ)) → Ipv6ExtSlot → Limited T
    → LimitedReadError → Limited T → Type 0
RefusesBytes remaining HopByHop start e new = RefusesHeader remaining 8 raw_len start e new
RefusesBytes remaining Destination start e new = RefusesHeader remaining 8 raw_len start e new
RefusesBytes remaining Routing start e new = RefusesHeader remaining 8 raw_len start e new
RefusesBytes remaining Fragment start e new = Refuses start 8 e new
RefusesBytes remaining Authentication start e new = RefusesHeader remaining 12 auth_len start e new
RefusesBytes remaining FinalDestination start e new = RefusesHeader remaining 8 raw_len start e new

-- the header of this slot was not read: its bytes were not, or they are no authentication header;
-- or hop-by-hop options are not the first header, and nothing was read
abbrev pub RefusesExtWithin : {T : Type 0} → (T → Option (List ℕ)) → Option Ipv6ExtSlot → ℕ
    → Limited T → HeaderLimitedReadError → Limited T → Type 0
RefusesExtWithin remaining slot number old (limited.Io e) new =
    (at : Ipv6ExtSlot) × (slot ≡ Some at)
    × RefusesBytes remaining at (at_next_layer old (read_layer at)) (bytes_fault.Io e) new
RefusesExtWithin remaining slot number old (limited.Len e) new =
    (at : Ipv6ExtSlot) × (slot ≡ Some at)
    × RefusesBytes remaining at (at_next_layer old (read_layer at)) (bytes_fault.Len e) new
RefusesExtWithin remaining slot number old (limited.Content HopByHopNotAtStart) new =
    (slot ≡ None) × (number ≡ 0) × (new ≡ old)
RefusesExtWithin remaining slot number old (limited.Content (IpAuth e)) new =
    (slot ≡ Some Authentication)
    × ((prefix : List ℕ) × HasContentFault prefix e
    × Takes remaining (at_next_layer old IpAuthHeader) prefix new)

-- the reader gave headers in a row within its limit, and the next was not read
abbrev pub RefusesRowWithin : {T : Type 0} → (T → Option (List ℕ)) → ℕ → Limited T
    → HeaderLimitedReadError → Limited T → Type 0
RefusesRowWithin {T = T} remaining first old e new = (pieces : List Piece) × (number : ℕ)
    × (between : Limited T)
    × Row slot_of [] first pieces number × (length pieces ≤ 6)
    × TakesRow remaining old pieces between
    × RefusesExtWithin remaining (slot_of (slots pieces) number) number between e new

abbrev pub IsExtsLimitedIo : HeaderLimitedReadError → Type 0
IsExtsLimitedIo (limited.Io e) = Unit {0}
IsExtsLimitedIo (limited.Len e) = ⊥
IsExtsLimitedIo (limited.Content e) = ⊥

-- the same error, of one header's bytes and of an authentication header
abbrev pub bytes_error : LimitedReadError → HeaderLimitedReadError
bytes_error (bytes_fault.Io e) = limited.Io e
bytes_error (bytes_fault.Len e) = limited.Len e

abbrev pub auth_exts_error : AuthLimitedReadError → HeaderLimitedReadError
auth_exts_error (auth_limited.Io e) = limited.Io e
auth_exts_error (auth_limited.Len e) = limited.Len e
auth_exts_error (auth_limited.Content e) = limited.Content (IpAuth e)
