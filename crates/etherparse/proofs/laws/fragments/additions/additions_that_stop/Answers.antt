use Rattle.std.proofs.Common.{ap, arith, false, length, refl, replicate, sym, true, ◌∙◌, [], ◌∷◌}
use Rattle.etherparse.specs.Fragments.{fragment}
use Rattle.etherparse.proofs.Literals.{stops_at_only, stops_nowhere}
use Rattle.etherparse.proofs.laws.fragments.additions.additions_that_stop.Goals as goal

pub returns-clause-first : goal.returns-clause-first
returns-clause-first c buf shows = record {
  before = [];
  next = fragment 1 true (replicate 8 1);
  following = [];
  in_order = refl;
  shown = shows;
  unrefused = refl;
  memory = refl;
}

pub returns-clause-second : goal.returns-clause-second
returns-clause-second c buf shows = record {
  before = fragment 0 true (replicate 8 1) ∷ [];
  next = fragment 1 true (replicate 8 2);
  following = fragment 2 false [] ∷ [];
  in_order = refl;
  shown = shows;
  unrefused = refl;
  memory = refl;
}

pub returns-clause-after_refused : goal.returns-clause-after_refused
returns-clause-after_refused c buf shows = record {
  before = fragment 1 true (replicate 7 2) ∷ [];
  next = fragment 1 false (replicate 8 2);
  following = [];
  in_order = refl;
  shown = shows;
  unrefused = refl;
  memory = refl;
}

pub returns-clause-other_end : goal.returns-clause-other_end
returns-clause-other_end c buf h = let reported = (stops_at_only _ _ _ _ _ h).memory in cc

pub returns-clause-refused : goal.returns-clause-refused
returns-clause-refused c buf error h = let taken = (stops_at_only _ _ _ _ _ h).unrefused in cc

pub returns-clause-none : goal.returns-clause-none
returns-clause-none c rule fs buf error h = stops_nowhere rule fs buf error h

pub returns-clause-other_fragments : goal.returns-clause-other_fragments
returns-clause-other_fragments c buf error shows h =
    let bytes = sym shows.kept ∙ (stops_at_only _ _ _ _ _ h).shown.kept in
    let long = ap length bytes in omega arith
