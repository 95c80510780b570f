-- The first bytes of a slice, or how many of them are missing.
use Rattle.std.specs.Prelude.{ℕ, List, length, take, nat_lt, if◌then◌else◌, Result, Ok, Err}
use Rattle.ep_base.specs.LenError.{too_few_bytes}
use Rattle.ep_base.specs.declared.err.layer.Layer.{Layer}
use Rattle.ep_base.specs.declared.err.len_error.LenError.{LenError}

-- the first n bytes, which are the layer's header
abbrev pub prefix_at : Layer → ℕ → List ℕ → Result (List ℕ) LenError
prefix_at layer n bytes = if nat_lt (length bytes) n then Err (too_few_bytes layer n (length bytes))
    else Ok (take n bytes)

-- all bytes, which begin with the layer's header of n bytes
abbrev pub whole_at : Layer → ℕ → List ℕ → Result (List ℕ) LenError
whole_at layer n bytes = if nat_lt (length bytes) n
    then Err (too_few_bytes layer n (length bytes)) else Ok bytes
