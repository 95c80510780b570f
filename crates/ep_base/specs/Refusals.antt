-- Refusals in their order: of several that apply, the first is returned.
use Rattle.std.specs.Prelude.{Bool, List, [], ◌∷◌, Option, None, Some, Result, Ok, Err, if◌then◌else◌}

-- a value, or the first of these refusals whose condition holds
abbrev pub unless_refused : {A E : Type 0} → List (Bool × E) → A → Result A E
unless_refused [] value = Ok value
unless_refused ((holds, refusal) ∷ later) value =
    if holds then Err refusal else unless_refused later value

-- the first of these refusals whose condition holds, if one does
abbrev pub first_refusal : {E : Type 0} → List (Bool × E) → Option E
first_refusal [] = None
first_refusal ((holds, refusal) ∷ later) = if holds then Some refusal else first_refusal later
