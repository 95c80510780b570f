use Rattle.std.proofs.Common.{refl, ◌∷◌, ◌++◌, []}
use Rattle.std.specs.Prelude.{replicate}
use Rattle.captures.proofs.laws.examples.pcap.packet_records.Goals as goal

pub returns-clause-is_record : goal.returns-clause-is_record
returns-clause-is_record c = record {
  head = replicate 8 0 ++ (2 ∷ 0 ∷ 0 ∷ 0 ∷ 0xdc ∷ 5 ∷ 0 ∷ 0 ∷ []);
  parts = refl;
  size = refl;
  captured = refl;
}
