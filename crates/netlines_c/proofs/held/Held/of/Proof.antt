-- `of` moves the pointer to a handle.
use Rattle.c_handles.proofs.HandleProofs.{of_meets}
use Rattle.netlines_c.proofs.HeldValues.{handle}
use Rattle.netlines_c.specs.contracts.held.Held.of.Key.{name}
use Rattle.netlines_c.proofs.held.Held.of.Code.{unfolded}
use Rattle.netlines_c.proofs.held.Held.of.Statement.{statement}

pub of_spec : {M : Type 1} → statement M
of_spec 𝓤 𝓛 𝓜 𝓡 wired = of_meets handle 𝓤 𝓛 𝓜 𝓡 name (unfolded 𝓤 𝓛.H 𝓜 𝓡 wired)
