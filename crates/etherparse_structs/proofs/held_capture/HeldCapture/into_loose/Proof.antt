-- `into_loose` takes the pointer out of a handle.
use Rattle.c_handles.proofs.HandleProofs.{into_loose_meets}
use Rattle.etherparse_structs.proofs.HeldCaptureValues.{handle}
use Rattle.etherparse_structs.specs.contracts.held_capture.HeldCapture.into_loose.Key.{name}
use Rattle.etherparse_structs.proofs.held_capture.HeldCapture.into_loose.Code.{unfolded}
use Rattle.etherparse_structs.proofs.held_capture.HeldCapture.into_loose.Statement.{statement}

pub into_loose_spec : {M : Type 1} → statement M
into_loose_spec 𝓤 𝓛 𝓜 𝓡 wired = into_loose_meets handle 𝓤 𝓛 𝓜 𝓡 name (unfolded 𝓤 𝓛.H 𝓜 𝓡 wired)
