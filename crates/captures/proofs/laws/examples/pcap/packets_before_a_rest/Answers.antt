use Rattle.std.proofs.Common.{◌≡◌, ◌++◌, ◌∷◌, [], ap, arith, codes, inl, refl, sym, List, ℕ}
use Rattle.std.proofs.lemmas.Fmt.{decimal_digit}
use Rattle.hex.proofs.OnLiterals.{hex_on_literals}
use Rattle.hex.specs.Hex.{encode_lower}
use Rattle.captures.specs.Examples.{packet_at}
use Rattle.captures.specs.Lines.{blank, lines_from}
use Rattle.captures.specs.declared.extra.Extra.TheVariants.{Nothing}
use Rattle.captures.proofs.ExampleRecords.{passes_record}
use Rattle.captures.proofs.laws.examples.pcap.packets_before_a_rest.Goals as goal

line : lines_from (blank Nothing) (packet_at 1700000000250000000 1494 ∷ [])
    ≡ codes "frame 0 000000000000020000000001080045\n"
unfolding hex_on_literals
line =
    ap (λ (number : List ℕ). (codes "frame " ++ number ++ codes " "
    ++ encode_lower (packet_at 1700000000250000000 1494).frame ++ 10 ∷ []) ++ []) (decimal_digit 0 (omega arith))

pub returns : goal.returns
returns c = record {
  packets = packet_at 1700000000250000000 1494 ∷ [];
  passes = passes_record (0x65 ∷ 0x53 ∷ 0xf1 ∷ 0 ∷ 0x0e ∷ []);
  reported = sym line;
  left = inl (omega arith);
  come = refl;
}
