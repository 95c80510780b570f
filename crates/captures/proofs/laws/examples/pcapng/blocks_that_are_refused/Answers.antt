use Rattle.std.proofs.Common.{◌≡◌, ◌∷◌, [], arith, inl, refl, List, ℕ}
use Rattle.captures.specs.Examples.{cooked_packet, described_section, enhanced_block, origin_at}
use Rattle.captures.specs.Times.{usual_clock}
use Rattle.captures.specs.declared.byte_order.ByteOrder.TheVariants.{Little}
use Rattle.captures.specs.declared.link.kind.Link.TheVariants.{Other}
use Rattle.captures.proofs.LengthLemmas.{description_is_short}
use Rattle.captures.proofs.laws.examples.pcapng.blocks_that_are_refused.Goals as goal

pub returns-clause-link : goal.returns-clause-link
returns-clause-link c = record {
  order = Little;
  block = enhanced_block;
  rest = [];
  parts = refl;
  fits = inl (omega arith);
  has_order = inl (λ e. let same : 0x06000000 ≡ 0x0a0d0d0a = e in absurd (omega arith), refl);
  is_block = record { size = omega arith; words = refl; prefix = refl; back = refl };
  refused = (
    origin_at 1700000000250000000 1514,
    Other 9,
    cooked_packet,
    inl (
      refl,
      record {
        size = omega arith;
        described = omega arith;
        number = refl;
        fits = omega arith;
        time = refl;
        over = refl;
        wire = refl;
        captured = refl;
        bytes = refl;
      },
    ),
    refl,
  );
}

pub returns-clause-limit : goal.returns-clause-limit
returns-clause-limit c = record {
  order = Little;
  block = 1 ∷ 0 ∷ 0 ∷ 0 ∷ 20 ∷ 0 ∷ 0 ∷ 0 ∷ 101 ∷ 0 ∷ 0 ∷ 0 ∷ 0 ∷ 0 ∷ 4 ∷ 0 ∷ 20 ∷ 0 ∷ 0 ∷ 0 ∷ [];
  rest = 5 ∷ [];
  parts = refl;
  fits = inl (omega arith);
  has_order = inl (λ e. let same : 0x01000000 ≡ 0x0a0d0d0a = e in absurd (omega arith), refl);
  is_block = record { size = omega arith; words = refl; prefix = refl; back = refl };
  refused = (262144, usual_clock, (refl, omega arith, refl, refl, refl, omega arith), refl);
}

abbrev short_block : List ℕ
short_block = 1 ∷ 0 ∷ 0 ∷ 0 ∷ 16 ∷ 0 ∷ 0 ∷ 0 ∷ 1 ∷ 0 ∷ 0 ∷ 0 ∷ 16 ∷ 0 ∷ 0 ∷ 0 ∷ []

pub returns-clause-bad : goal.returns-clause-bad
returns-clause-bad c = record {
  order = Little;
  block = short_block;
  rest = [];
  parts = refl;
  fits = inl (omega arith);
  has_order = inl (λ e. let same : 0x01000000 ≡ 0x0a0d0d0a = e in absurd (omega arith), refl);
  is_block = record { size = omega arith; words = refl; prefix = refl; back = refl };
  refused = (description_is_short described_section Little short_block refl (omega arith)).0;
}
