-- Headers that are read from a reader.
use Rattle.std.specs.Prelude.{◌≡◌, ℕ, ◌-◌, ◌⊎◌, ⊤, List, length, Option, Err}
use Rattle.std.specs.Io.KnownBytes.{Consumes}
use Rattle.ep_ext.specs.Auth.{auth_at, auth_len}
use Rattle.ep_ext.specs.Limited.{Limited, Takes, Refuses}
use Rattle.ep_ext.specs.declared.err.io.limited_read_error.LimitedReadError.{LimitedReadError}
use Rattle.ep_ext.specs.declared.err.io.limited_read_error.LimitedReadError.TheVariants as limited
use Rattle.ep_ext.specs.declared.err.ip_auth.header_error.HeaderError.{HeaderError}
use Rattle.ep_ext.specs.declared.err.ip_auth.header_limited_read_error.HeaderLimitedReadError.{HeaderLimitedReadError}
use Rattle.ep_ext.specs.declared.err.ip_auth.header_limited_read_error.HeaderLimitedReadError.TheVariants as auth_limited
use Rattle.ep_ext.specs.declared.err.ip_auth.header_read_error.HeaderReadError.{HeaderReadError}
use Rattle.ep_ext.specs.declared.err.ip_auth.header_read_error.HeaderReadError.TheVariants as auth_read
use Rattle.ep_base.specs.declared.err.slice_error.SliceError.TheVariants as slice_error

-- a read failed
abbrev pub IsIo : LimitedReadError → Type 0
IsIo (limited.Io e) = ⊤
IsIo (limited.Len e) = ⊥

abbrev pub IsAuthIo : HeaderReadError → Type 0
IsAuthIo (auth_read.Io e) = ⊤
IsAuthIo (auth_read.Content e) = ⊥

abbrev pub IsAuthLimitedIo : HeaderLimitedReadError → Type 0
IsAuthLimitedIo (auth_limited.Io e) = ⊤
IsAuthLimitedIo (auth_limited.Len e) = ⊥
IsAuthLimitedIo (auth_limited.Content e) = ⊥

-- a header was not read whole: a read of its first bytes (so many), or of those after them that its
-- length field counts, failed or went beyond the limit
abbrev pub RefusesHeader : {T : Type 0} → (T → Option (List ℕ)) → ℕ → (List ℕ → ℕ) → Limited T
    → LimitedReadError → Limited T → Type 0
RefusesHeader {T = T} remaining least size start e new =
    Refuses start least e new
    ⊎ ((prefix : List ℕ) × (middle : Limited T) × (length prefix ≡ least)
    × Takes remaining start prefix middle × Refuses middle (size prefix - least) e new)

-- the same error, of an authentication header
abbrev pub auth_error : LimitedReadError → HeaderLimitedReadError
auth_error (limited.Io e) = auth_limited.Io e
auth_error (limited.Len e) = auth_limited.Len e

-- 12 bytes of which no header can be made
pub record HasContentFault (prefix : List ℕ) (e : HeaderError) : Type 0 where
  pub whole : length prefix ≡ 12
  pub fault : auth_at prefix ≡ Err (slice_error.Content e)

-- a read failed, or what was read is no header
abbrev pub RefusesAuth : Option (List ℕ) → HeaderReadError → Option (List ℕ) → Type 0
RefusesAuth old (auth_read.Io e) new = ⊤
RefusesAuth old (auth_read.Content e) new = (prefix : List ℕ) × HasContentFault prefix e
    × Consumes old new prefix

abbrev pub RefusesAuthWithin : {T : Type 0} → (T → Option (List ℕ)) → Limited T
    → HeaderLimitedReadError → Limited T → Type 0
RefusesAuthWithin remaining start (auth_limited.Io e) new =
    RefusesHeader remaining 12 auth_len start (limited.Io e) new
RefusesAuthWithin remaining start (auth_limited.Len e) new =
    RefusesHeader remaining 12 auth_len start (limited.Len e) new
RefusesAuthWithin remaining start (auth_limited.Content e) new = (prefix : List ℕ)
    × HasContentFault prefix e × Takes remaining start prefix new
