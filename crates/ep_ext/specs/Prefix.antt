-- The prefix of some bytes, or the error of too few.
use Rattle.std.specs.Prelude.{ℕ, List, length, take, nat_lt, Result, ◌∷◌, []}
use Rattle.ep_base.specs.LenError.{too_few_bytes}
use Rattle.ep_base.specs.Refusals.{unless_refused}
use Rattle.ep_base.specs.declared.err.layer.Layer.{Layer}
use Rattle.ep_base.specs.declared.err.len_error.LenError.{LenError}

-- the prefix of this size, after the test that the least size is there
abbrev pub prefix_at : Layer → ℕ → ℕ → List ℕ → Result (List ℕ) LenError
prefix_at layer least size bytes = unless_refused (
    (nat_lt (length bytes) least, too_few_bytes layer least (length bytes))
    ∷ (nat_lt (length bytes) size, too_few_bytes layer size (length bytes)) ∷ [])
    (take size bytes)
