use Rattle.std.proofs.Common.{◌≡◌, ◌∷◌, [], arith, inl, inr, refl}
use Rattle.captures.specs.declared.byte_order.ByteOrder.TheVariants.{Little}
use Rattle.captures.specs.Units.{HasOtherBack}
use Rattle.captures.proofs.laws.examples.pcapng.lengths_that_stop.Goals as goal

pub returns-clause-cut_off : goal.returns-clause-cut_off
returns-clause-cut_off c = record {
  order = Little;
  has_order = inr (refl, refl);
  size = omega arith;
  words = refl;
  short = omega arith;
  fits = inl (omega arith);
}

back : HasOtherBack Little (5 ∷ 0 ∷ 0 ∷ 0 ∷ 12 ∷ 0 ∷ 0 ∷ 0 ∷ 16 ∷ 0 ∷ 0 ∷ 0 ∷ [])
back = record {
  block = 5 ∷ 0 ∷ 0 ∷ 0 ∷ 12 ∷ 0 ∷ 0 ∷ 0 ∷ 16 ∷ 0 ∷ 0 ∷ 0 ∷ [];
  rest = [];
  parts = refl;
  size = refl;
  fits = inl (omega arith);
  other = λ e. let same : 16 ≡ 12 = e in absurd (omega arith);
}

pub returns-clause-other_back : goal.returns-clause-other_back
returns-clause-other_back c = back

pub returns-clause-bad_back : goal.returns-clause-bad_back
returns-clause-bad_back c = record {
  order = Little;
  has_order = inl (λ e. let same : 0x05000000 ≡ 0x0a0d0d0a = e in absurd (omega arith), refl);
  bad = inr (inr back);
}

pub returns-clause-too_short : goal.returns-clause-too_short
returns-clause-too_short c = record {
  order = Little;
  has_order = inl (λ e. let same : 0x05000000 ≡ 0x0a0d0d0a = e in absurd (omega arith), refl);
  bad = inl (omega arith);
}

pub returns-clause-no_words : goal.returns-clause-no_words
returns-clause-no_words c = record {
  order = Little;
  has_order = inl (λ e. let same : 0x05000000 ≡ 0x0a0d0d0a = e in absurd (omega arith), refl);
  bad = inr (inl (λ e. let same : 2 ≡ 0 = e in absurd (omega arith)));
}

pub returns-clause-too_long : goal.returns-clause-too_long
returns-clause-too_long c = record {
  order = Little;
  has_order = inl (λ e. let same : 0x06000000 ≡ 0x0a0d0d0a = e in absurd (omega arith), refl);
  reported = refl;
  words = refl;
  long = λ taken. elim taken [
    | inl few ↦ absurd (omega arith)
    | inr skipped ↦ skipped.1.2 refl
  ];
}
