-- A writer whose reader may go away.
use Rattle.std.specs.Prelude.{◌≡◌, ◌⊎◌, ◌↔◌, Bool, IsErrAnd, IsTrue, Result}
use Rattle.std.specs.IoError.{error_kind}
use Rattle.std.specs.declared.io.Error.{Error}
use Rattle.std.specs.declared.io.ErrorKind.TheVariants.{BrokenPipe}

-- a call failed since nobody reads the pipe
abbrev pub IsBrokenPipe : {A : Type 0} → Result A Error → Type 0
IsBrokenPipe done = IsErrAnd done (λ error. error_kind error ≡ BrokenPipe)

-- what is remembered after a call: that it, or one before it, found the pipe closed
abbrev pub RemembersClosed : {A : Type 0} → Bool → Result A Error → Bool → Type 0
RemembersClosed old done new = IsTrue new ↔ (IsTrue old ⊎ IsBrokenPipe done)
