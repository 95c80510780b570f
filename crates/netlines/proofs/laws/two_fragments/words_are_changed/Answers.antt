use Rattle.std.proofs.Common.{refl, inl, inr, lit<, [], ◌∷◌, arith}
use Rattle.etherparse.specs.base.Sum.{total}
use Rattle.netlines.proofs.TwoFragmentLemmas.{one_byte, two_bytes}
use Rattle.netlines.proofs.laws.two_fragments.words_are_changed.Goals as goal

pub returns-clause-fragment : goal.returns-clause-fragment
unfolding total
returns-clause-fragment c = record {
  offset = refl;
  more = refl;
  words = record {
    prefix = 1 ∷ 2 ∷ 3 ∷ 4 ∷ 5 ∷ 6 ∷ [];
    old_word = 7 ∷ 8 ∷ [];
    new_word = 7 ∷ 9 ∷ [];
    rest = [];
    old_is = refl;
    new_is = refl;
    aligned = refl;
    size = inl refl;
    same_size = refl;
    old_bytes = two_bytes 7 8 (lit< tt) (lit< tt);
    new_bytes = two_bytes 7 9 (lit< tt) (lit< tt);
    differ = λ same. omega arith;
  };
}

pub returns-clause-odd : goal.returns-clause-odd
unfolding total
returns-clause-odd c = record {
  prefix = [];
  old_word = 1 ∷ [];
  new_word = 2 ∷ [];
  rest = [];
  old_is = refl;
  new_is = refl;
  aligned = refl;
  size = inr (refl, refl);
  same_size = refl;
  old_bytes = one_byte 1 (lit< tt);
  new_bytes = one_byte 2 (lit< tt);
  differ = λ same. omega arith;
}
