use Rattle.std.proofs.Common.{◌++◌, ◌∷◌, [], arith, codes, refl}
use Rattle.std.proofs.lemmas.Fmt.{decimal_digit}
use Rattle.hex.proofs.OnLiterals.{hex_on_literals}
use Rattle.hex.specs.Hex.{decode_pairs, encode_lower}
use Rattle.line_grammar.specs.Commands.{command_of}
use Rattle.line_grammar.specs.TimedLines.{timed_frame_of}
use Rattle.line_grammar.proofs.laws.worked_lines.Goals as goal

pub returns-clause-frame : goal.returns-clause-frame
unfolding hex_on_literals
returns-clause-frame c = λ i. codes "frame " ++ decimal_digit 7 (omega arith) i ++ codes " "
    ++ encode_lower (0x0a ∷ 0xff ∷ [])

pub returns-clause-timed : goal.returns-clause-timed
unfolding hex_on_literals
returns-clause-timed c = λ i. codes "frame " ++ decimal_digit 7 (omega arith) i ++ codes " "
    ++ encode_lower (0x0a ∷ 0xff ∷ []) ++ (codes " " ++ decimal_digit 5 (omega arith) i
    ++ codes " " ++ decimal_digit 0 (omega arith) i ++ [])

pub returns-clause-nanoseconds : goal.returns-clause-nanoseconds
unfolding hex_on_literals
returns-clause-nanoseconds c = λ i. codes "frame " ++ decimal_digit 7 (omega arith) i ++ codes " "
    ++ encode_lower (0x0a ∷ 0xff ∷ []) ++ (codes " " ++ decimal_digit 5 (omega arith) i
    ++ codes " " ++ decimal_digit 4 (omega arith) i
    ++ (codes " " ++ decimal_digit 3 (omega arith) i))

pub returns-clause-forget : goal.returns-clause-forget
returns-clause-forget c = λ i. codes "forget " ++ decimal_digit 8 (omega arith) i

pub returns-clause-read : goal.returns-clause-read
unfolding timed_frame_of command_of decode_pairs
returns-clause-read c = refl
