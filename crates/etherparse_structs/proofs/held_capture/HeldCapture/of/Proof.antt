-- `of` moves the pointer to a handle.
use Rattle.c_handles.proofs.HandleProofs.{of_meets}
use Rattle.etherparse_structs.proofs.HeldCaptureValues.{handle}
use Rattle.etherparse_structs.specs.contracts.held_capture.HeldCapture.of.Key.{name}
use Rattle.etherparse_structs.proofs.held_capture.HeldCapture.of.Code.{unfolded}
use Rattle.etherparse_structs.proofs.held_capture.HeldCapture.of.Statement.{statement}

pub of_spec : {M : Type 1} → statement M
of_spec 𝓤 𝓛 𝓜 𝓡 wired = of_meets handle 𝓤 𝓛 𝓜 𝓡 name (unfolded 𝓤 𝓛.H 𝓜 𝓡 wired)
