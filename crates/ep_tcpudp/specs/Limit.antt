-- Values that exist only up to a greatest length.
use Rattle.std.specs.Prelude.{ℕ, nat_lt, if◌then◌else◌, Result, Ok, Err}
use Rattle.ep_base.specs.Bounded.{too_big}
use Rattle.ep_base.specs.declared.err.value_too_big_error.ValueTooBigError.{ValueTooBigError}
use Rattle.ep_base.specs.declared.err.value_type.ValueType.{ValueType}

-- the value where n is at most max, and else the error that names both
abbrev pub value_up_to : {A : Type 0} → ValueType → (max n : ℕ) → A → Result A (ValueTooBigError ℕ)
value_up_to kind max n value = if nat_lt max n then Err (too_big kind max n) else Ok value
