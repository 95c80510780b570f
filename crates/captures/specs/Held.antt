-- What is held of the bytes that were read.
use Rattle.std.specs.Prelude.{ℕ, List}

-- bytes that are held, and some that are marked
pub record HeldBytes : Type 0 where
  pub held : List ℕ
  pub marked : List ℕ
