use Rattle.std.proofs.Common.{◌≡◌, refl, sym, subst, arith, List, ℕ}
use Rattle.captures.specs.Pcap.{IsFileHeader}
use Rattle.captures.proofs.OffsetLemmas.{stands_empty}
use Rattle.captures.proofs.UnitLemmas.{prefix_is}
use Rattle.captures.proofs.pcap.unit.file_header.Goals as goal

pub returns-in_default-clause-refused : goal.returns-in_default-clause-refused
returns-in_default-clause-refused c = (
  (
    omega arith,
    (
      λ order header rest parts is_header.
          let same : c.split_at.result.0.now ≡ header =
          prefix_is c.args.bytes.now header rest c.split_at.result.0.now 24 parts
          c.split_at.ensures.front is_header.size in
          c.in_default.ensures order
          (subst (λ (h : List ℕ). IsFileHeader order h) (sym same) is_header),
      λ long begins. c.requires.other begins,
    ),
  ),
  refl,
)

pub returns-clause-at : goal.returns-clause-at
returns-clause-at c = stands_empty _ _ _ refl c.of.ensures
