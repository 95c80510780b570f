-- Reads of bytes that are known.
use Rattle.std.proofs.Common.{List, ℕ, Option, Some, None, [], refl}
use Rattle.std.specs.Io.KnownBytes.{Consumes}

-- no read takes nothing
pub consumes_none : (known : Option (List ℕ)) → Consumes known known []
consumes_none None = tt
consumes_none (Some bytes) = refl
