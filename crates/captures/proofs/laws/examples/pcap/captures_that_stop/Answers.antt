use Rattle.std.proofs.Common.{◌++◌, ◌∷◌, [], arith, refl, List, ℕ}
use Rattle.std.specs.Prelude.{replicate}
use Rattle.captures.proofs.laws.examples.pcap.captures_that_stop.Goals as goal

pub returns-clause-link : goal.returns-clause-link
returns-clause-link c = record { size = omega arith; other = refl }

pub returns-clause-cut_off : goal.returns-clause-cut_off
returns-clause-cut_off c = record {
  head = replicate 8 0 ++ (2 ∷ 0 ∷ 0 ∷ 0 ∷ 0xdc ∷ 5 ∷ 0 ∷ 0 ∷ []);
  body = 7 ∷ [];
  parts = refl;
  size = refl;
  short = omega arith;
  read = refl;
  fits = omega arith;
}

pub returns-clause-too_long : goal.returns-clause-too_long
returns-clause-too_long c = record {
  head = replicate 8 0 ++ (0 ∷ 1 ∷ 0x86 ∷ 0x98 ∷ 0 ∷ 1 ∷ 0x86 ∷ 0x98 ∷ []);
  rest = [];
  parts = refl;
  size = refl;
  reported = refl;
  read = refl;
  long = omega arith;
}

abbrev head : List ℕ
head = replicate 8 0 ++ (0 ∷ 0 ∷ 0 ∷ 2 ∷ 0 ∷ 0 ∷ 5 ∷ 0xdc ∷ [])

pub returns-clause-no_frame : goal.returns-clause-no_frame
returns-clause-no_frame c = record {
  unit = head ++ 0x50 ∷ 0 ∷ [];
  packet = 0x50 ∷ 0 ∷ [];
  rest = [];
  parts = refl;
  is_record = record { head = head; parts = refl; size = refl; captured = refl };
  read = refl;
  fits = omega arith;
  none = refl;
}
