use Rattle.std.proofs.Common.{arith, inl, inr}
use Rattle.captures.proofs.laws.examples.pcapng.greatest_blocks.Goals as goal

pub returns-clause-read : goal.returns-clause-read
returns-clause-read c order block kind = (
  inl (omega arith),
  λ taken. elim taken [
    | inl few ↦ absurd (omega arith)
    | inr skipped ↦ skipped.1.2 kind
  ],
)

pub returns-clause-custom : goal.returns-clause-custom
returns-clause-custom c order block kind other = inr (
  other,
  (
    λ e. absurd (omega arith),
    λ e. absurd (omega arith),
    λ e. absurd (omega arith),
    λ e. absurd (omega arith),
    λ e. absurd (omega arith),
  ),
)
