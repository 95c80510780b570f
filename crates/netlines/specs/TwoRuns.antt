-- Two runs over two inputs.
use Rattle.std.specs.Prelude.{◌≡◌, ℕ, List, Option}
use Rattle.std.specs.Io.KnownBytes.{Appends}
use Rattle.etherparse.specs.packet.Class.{FragmentName}
use Rattle.lines.specs.Lines.{lines_of}
use Rattle.netlines.specs.Alone.{lines_that_matter, texts_that_matter}

-- runs over these inputs wrote lines to two outputs; the lines of a message whose fragments are in
-- both inputs at the same line numbers, with the same `forget` lines, have the same answers
pub record AreIsolated (input other : List ℕ) (old new other_old other_new : Option (List ℕ))
    : Type 0 where
  pub written : List ℕ
  pub other_written : List ℕ
  pub appended : Appends old new written
  pub other_appended : Appends other_old other_new other_written
  pub answered : (name : FragmentName) (channel : ℕ)
      → lines_that_matter name channel (lines_of input)
      ≡ lines_that_matter name channel (lines_of other)
      → texts_that_matter name channel (lines_of input) (lines_of written)
      ≡ texts_that_matter name channel (lines_of other) (lines_of other_written)
