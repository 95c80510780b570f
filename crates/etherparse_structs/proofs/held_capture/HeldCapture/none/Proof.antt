-- `none` makes a handle of nothing.
use Rattle.c_handles.proofs.HandleProofs.{none_meets}
use Rattle.etherparse_structs.proofs.HeldCaptureValues.{handle}
use Rattle.etherparse_structs.specs.contracts.held_capture.HeldCapture.none.Key.{name}
use Rattle.etherparse_structs.proofs.held_capture.HeldCapture.none.Code.{unfolded}
use Rattle.etherparse_structs.proofs.held_capture.HeldCapture.none.Statement.{statement}

pub none_spec : {M : Type 1} → statement M
none_spec 𝓤 𝓛 𝓜 𝓡 wired = none_meets handle 𝓤 𝓛 𝓜 𝓡 name (unfolded 𝓤 𝓛.H 𝓜 𝓡 wired)
