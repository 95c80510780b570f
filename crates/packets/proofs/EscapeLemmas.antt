-- Texts come back from their escaped form.
use Rattle.std.proofs.Common.{◌≡◌, ℕ, suc, List, [], ◌∷◌, ◌++◌, length, refl, ap, arith}
use Rattle.std.proofs.lemmas.Bool.Decides.{nat_tests}
use Rattle.packets.specs.Escaped.{escaped, read_within, reference_of}

-- one character more
module _ (rest : List ℕ) (most : ℕ) (text : List ℕ) (same : read_within most rest ≡ text) where
  one_read : (byte : ℕ) → read_within (suc most) (reference_of byte ++ rest) ≡ byte ∷ text
  one_read byte = grind (arith, nat_tests)

pub escaped-read : (text : List ℕ) → read_within (length text) (escaped text) ≡ text
escaped-read [] = refl
escaped-read (byte ∷ text) = one_read (escaped text) (length text) text (escaped-read text) byte
