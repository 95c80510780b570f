use Rattle.std.proofs.Common.{◌++◌, ◌∷◌, [], arith, codes, decimal, length-append}
use Rattle.std.proofs.lemmas.Fmt.{length-decimal-le}
use Rattle.hex.proofs.HexLemmas.{length-encode_with}
use Rattle.hex.specs.Hex.{encode_lower, lower_digits}
use Rattle.captures.proofs.laws.lines_are_short.Goals as goal

pub returns : goal.returns
returns c packet channel frame =
    let digits = length-encode_with lower_digits packet.frame in
    let number = length-decimal-le 10 packet.origin.channel (omega arith) (omega arith) (omega arith) in
    let a = length-append (codes "frame ") (decimal packet.origin.channel) in
    let b = length-append (codes "frame " ++ decimal packet.origin.channel) (codes " ") in
    let c' = length-append ((codes "frame " ++ decimal packet.origin.channel) ++ codes " ")
    (encode_lower packet.frame) in
    let d = length-append (((codes "frame " ++ decimal packet.origin.channel) ++ codes " ")
    ++ encode_lower packet.frame) (10 ∷ []) in
    omega arith
