-- The memory of a pool after a fragment, by what is made of the bytes that are returned.
use Rattle.std.proofs.Common.{ℕ, Option, Some, None, Ok, Err}
use Rattle.etherparse.specs.declared.defrag.ip_defrag_error.IpDefragError.{IpDefragError}
use Rattle.etherparse.specs.declared.defrag.reassembly.Reassembly.{Reassembly}
use Rattle.etherparse.specs.Memory.{KeepsMemory, Memory}

module _ {T X Y : Type 0} (m m' : Memory) (n : ℕ) where
  pub keeps_returned : (old new : Option (Reassembly T)) (x : X) (y : Y)
      → KeepsMemory (Ok (Some x)) old new m m' n → KeepsMemory (Ok (Some y)) old new m m' n
  keeps_returned None new x y h =
      record { bytes = h.bytes; sections = h.sections; reassembly = h.reassembly; slot = h.slot }
  keeps_returned (Some s) new x y h =
      record { bytes = h.bytes; sections = h.sections; reassembly = h.reassembly; slot = h.slot }

  pub keeps_nothing : (old new : Option (Reassembly T)) → KeepsMemory {X = X} (Ok None) old new m m' n
      → KeepsMemory {X = Y} (Ok None) old new m m' n
  keeps_nothing None new h =
      record { bytes = h.bytes; sections = h.sections; reassembly = h.reassembly; slot = λ some. cc }
  keeps_nothing (Some s) new h =
      record { bytes = h.bytes; sections = h.sections; reassembly = h.reassembly; slot = λ some. cc }

  pub keeps_error : (old new : Option (Reassembly T)) (e : IpDefragError)
      → KeepsMemory {X = X} (Err e) old new m m' n → KeepsMemory {X = Y} (Err e) old new m m' n
  keeps_error old new e h =
      record { bytes = h.bytes; sections = h.sections; reassembly = h.reassembly; slot = h.slot }
