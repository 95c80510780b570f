-- A reader with a limit.
use Rattle.std.specs.Prelude.{◌≡◌, ℕ, ◌+◌, ◌-◌, ◌^◌, ◌<◌, ◌≤◌, min, List, length, Option}
use Rattle.std.specs.Io.KnownBytes.{Consumes}
use Rattle.ep_base.specs.declared.err.layer.Layer.{Layer}
use Rattle.ep_base.specs.declared.err.len_error.LenError.{LenError}
use Rattle.ep_base.specs.declared.len_source.LenSource.{LenSource}
use Rattle.ep_ext.specs.declared.err.io.limited_read_error.LimitedReadError.{LimitedReadError}
use Rattle.ep_ext.specs.declared.err.io.limited_read_error.LimitedReadError.TheVariants.{Io, Len}

-- what is read of a layer: its offset, how many bytes it may have and why, and how many were read
pub record Limited (T : Type 0) : Type 0 where
  pub reader : T
  pub max_len : ℕ
  pub len_source : LenSource
  pub layer : Layer
  pub layer_offset : ℕ
  pub read_len : ℕ

-- a layer starts after what was read
abbrev pub at_next_layer : {T : Type 0} → Limited T → Layer → Limited T
at_next_layer r layer =
    record r {
      max_len = r.max_len - r.read_len;
      layer = layer;
      layer_offset = r.layer_offset + r.read_len;
      read_len = 0;
    }

-- the error of a layer that would need so many bytes more than were read of it
abbrev pub beyond_limit : {T : Type 0} → Limited T → ℕ → LenError
beyond_limit r more =
    record {
      required_len = min (r.read_len + more) (2 ^ 64 - 1);
      len = r.max_len;
      len_source = r.len_source;
      layer = r.layer;
      layer_start_offset = r.layer_offset;
    }

-- these bytes are within the limit, the reader gave them, and they count as read
pub record Takes {T : Type 0} (remaining : T → Option (List ℕ)) (old : Limited T) (bytes : List ℕ)
    (new : Limited T) : Type 0 where
  pub within : old.read_len + length bytes ≤ old.max_len
  pub consumed : Consumes (remaining old.reader) (remaining new.reader) bytes
  pub counted : new ≡ record old { reader = new.reader; read_len = old.read_len + length bytes }

-- so many bytes were not read: a read failed, or they go beyond the limit and nothing was read
abbrev pub Refuses : {T : Type 0} → Limited T → ℕ → LimitedReadError → Limited T → Type 0
Refuses old more (Io e) new = (old.read_len + more ≤ old.max_len)
    × (new ≡ record old { reader = new.reader })
Refuses old more (Len e) new = (old.max_len < old.read_len + more)
    × (e ≡ beyond_limit old more) × (new ≡ old)
