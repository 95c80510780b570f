-- What is read of bytes, and the offsets of faults, lie within them, so that the length of what comes
-- before the bytes can be added to an offset.
use Rattle.std.specs.Prelude.{ℕ, ◌+◌, ◌≤◌, ◌<◌, ◌^◌, Option, IfSome, length}
use Rattle.ep_packet.specs.LaxTags.{LaxTagged, Stop}
use Rattle.ep_packet.specs.SliceFault.{fault_offset}

-- the offset of a fault lies within so many bytes
abbrev pub StopFits : ℕ → Option Stop → Type 0
StopFits size stop = IfSome stop (λ s. fault_offset s.0 ≤ size)

-- tags in so many bytes
pub record TagsFit (size : ℕ) (t : LaxTagged) : Type 0 where
  pub tags : t.len ≤ size
  pub last : IfSome t.last (λ p. t.len + length p.payload ≤ size)
  pub stop : StopFits size t.stop

-- what comes before bytes of this length can be added to the offset of a fault in them
abbrev pub Moves : ℕ → Stop → Type 0
Moves size stop = (n : ℕ) → size + n < 2 ^ 64 → fault_offset stop.0 + n < 2 ^ 64
