-- `none` makes a handle of nothing.
use Rattle.c_handles.proofs.HandleProofs.{none_meets}
use Rattle.netlines_c.proofs.HeldValues.{handle}
use Rattle.netlines_c.specs.contracts.held.Held.none.Key.{name}
use Rattle.netlines_c.proofs.held.Held.none.Code.{unfolded}
use Rattle.netlines_c.proofs.held.Held.none.Statement.{statement}

pub none_spec : {M : Type 1} → statement M
none_spec 𝓤 𝓛 𝓜 𝓡 wired = none_meets handle 𝓤 𝓛 𝓜 𝓡 name (unfolded 𝓤 𝓛.H 𝓜 𝓡 wired)
