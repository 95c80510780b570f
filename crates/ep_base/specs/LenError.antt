-- Errors of too few bytes: of a slice, and seen from a slice that begins earlier.
use Rattle.std.specs.Prelude.{ℕ, ◌+◌, ◌<◌, ◌^◌}
use Rattle.ep_base.specs.declared.err.layer.Layer.{Layer}
use Rattle.ep_base.specs.declared.err.len_error.LenError.{LenError}
use Rattle.ep_base.specs.declared.len_source.LenSource.TheVariants.{Slice}

-- the layer at the start of a slice needs so many bytes, and fewer are there
abbrev pub too_few_bytes : Layer → ℕ → ℕ → LenError
too_few_bytes layer required found =
    record {
      required_len = required;
      len = found;
      len_source = Slice;
      layer = layer;
      layer_start_offset = 0;
    }

-- the offset n bytes further on fits a `usize`
abbrev pub CanMove : LenError → ℕ → Type 0
CanMove e n = e.layer_start_offset + n < 2 ^ 64

-- the same error, n bytes further on
abbrev pub offset_by : LenError → ℕ → LenError
offset_by e n = record e { layer_start_offset = e.layer_start_offset + n }
