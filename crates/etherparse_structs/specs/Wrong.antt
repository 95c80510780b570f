-- What is at fault in a plan.
use Rattle.std.specs.Prelude.{ℕ, nat_lt, if◌then◌else◌, Option, Some, None, Result, Ok, Err}
use Rattle.etherparse_structs.specs.declared.plan.PlanField.{PlanField}

-- a number above the greatest is at fault
abbrev pub wrong_above : (most number : ℕ) → PlanField → Option PlanField
wrong_above most number f = if nat_lt most number then Some f else None

-- a value, unless a field is at fault
abbrev pub unless : {A : Type 0} → Option PlanField → A → Result A PlanField
unless None x = Ok x
unless (Some f) x = Err f
