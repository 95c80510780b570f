use Rattle.std.proofs.Common.{ap, arith, codes, ◌++◌, ◌∷◌, [], List, ℕ}
use Rattle.std.proofs.lemmas.Fmt.{decimal_digit}
use Rattle.hex.proofs.OnLiterals.{hex_on_literals}
use Rattle.hex.specs.Hex.{encode_lower}
use Rattle.captures.proofs.laws.worked_line.Goals as goal

pub returns : goal.returns
unfolding hex_on_literals
returns c =
    ap (λ (number : List ℕ). codes "frame " ++ number ++ codes " "
    ++ encode_lower (0x0a ∷ 0xff ∷ []) ++ 10 ∷ []) (decimal_digit 7 (omega arith))
