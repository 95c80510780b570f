-- Bytes are written where they are missing.
use Rattle.std.proofs.Common.{◌≡◌, ℕ, ◌+◌, ◌-◌, ◌<◌, ◌≤◌, cond, List, ◌++◌, length, take, drop, get_or, ltb, leb, ◌&&◌}
use Rattle.std.proofs.Common.{inl, inr, arith, refl, sym}
use Rattle.std.proofs.lemmas.Bool.{cases_lt}
use Rattle.std.proofs.lemmas.Bool.Decides.{nat_tests}
use Rattle.std.proofs.lemmas.Grind.{elements}
use Rattle.tcp_streams.specs.declared.gaps.Gap.{Gap}
use Rattle.tcp_streams.specs.Gaps.{is_missing}
use Rattle.tcp_streams.specs.SparseBytes.{Fills}
use Rattle.tcp_streams.proofs.RunLemmas.{IsMissingFrom, NoneMissing}

-- each byte before a position that is missing is written, and no other
pub record FillsTo (gs : List Gap) (position written : ℕ) (old new bytes : List ℕ) : Type 0 where
  pub size : length new ≡ length old
  pub filled : (i : ℕ) → i < length old → get_or new i 0
      ≡ cond (is_missing gs (position + i) && ltb (position + i) written) (get_or bytes i 0) (get_or old i 0)

pub fills_none : (gs : List Gap) (position : ℕ) (old bytes : List ℕ) → FillsTo gs position position old old bytes
fills_none gs position old bytes = record { size = refl; filled = λ i h. grind (arith, nat_tests) }

fills_at : (gs : List Gap) (position written : ℕ) (old mid bytes : List ℕ) (from size : ℕ)
    → FillsTo gs position written old mid bytes → length bytes ≡ length old → from + size ≤ length old
    → (i : ℕ) → i < length old
    → get_or (take from mid ++ (take size (drop from bytes) ++ drop size (drop from mid))) i 0
    ≡ cond (leb from i && ltb i (from + size)) (get_or bytes i 0) (get_or mid i 0)
fills_at gs position written old mid bytes from size f same fits i within =
    let filled = f.size in grind (arith, elements, nat_tests)

pub fills_more : (gs : List Gap) (g : Gap) (position written : ℕ) (old mid new bytes : List ℕ) (from size : ℕ)
    → FillsTo gs position written old mid bytes → length bytes ≡ length old
    → position ≤ written → IsMissingFrom gs written (position + length bytes) g
    → from ≡ g.start - position → size ≡ g.end - position - from
    → new ≡ take from mid ++ (take size (drop from bytes) ++ drop size (drop from mid))
    → FillsTo gs position g.end old new bytes
fills_more gs g position written old mid new bytes from size f same low is from_is size_is new_is =
    let start = is.start in
    let some = is.some in
    let end = is.end in
    let filled = f.size in record {
      size = rw new_is (grind (arith, elements));
      filled = λ i h.
          let at = fills_at gs position written old mid bytes from size f same (omega arith) i h in
          let was = f.filled i h in
          rw (new_is, at, was) (elim (cases_lt (position + i) g.start) [
            | inl below ↦ elim (cases_lt (position + i) written) [
              | inl done ↦ grind (arith, nat_tests)
              | inr next ↦
                  let none = is.before (position + i) next below in grind (arith, nat_tests)
            ]
            | inr above ↦ elim (cases_lt (position + i) g.end) [
              | inl here ↦
                  let missing = is.missing (position + i) above here in grind (arith, nat_tests)
              | inr past ↦ grind (arith, nat_tests)
            ]
          ]);
    }

-- the same by what is put there
pub fills_put : (gs : List Gap) (g : Gap) (position written : ℕ) (old mid put bytes : List ℕ) (from size : ℕ)
    → FillsTo gs position written old mid bytes → length old ≡ length bytes
    → position ≤ written → IsMissingFrom gs written (position + length bytes) g
    → from ≡ g.start - position → size ≡ g.end - position - from → put ≡ take size (drop from bytes)
    → FillsTo gs position g.end old (take from mid ++ (put ++ drop size (drop from mid))) bytes
fills_put gs g position written old mid put bytes from size f same low is from_is size_is put_is =
    rw put_is (fills_more gs g position written old mid _ bytes from size f (sym same) low is from_is size_is refl)

-- where no others are missing
pub fills_rest : (gs : List Gap) (position written : ℕ) (old new bytes : List ℕ)
    → FillsTo gs position written old new bytes → length bytes ≡ length old
    → NoneMissing gs written (position + length bytes) → Fills gs position old new bytes
fills_rest gs position written old new bytes f same none = record {
  size = f.size;
  filled = λ i h.
      let was = f.filled i h in
      elim (cases_lt (position + i) written) [
        | inl done ↦ grind (arith, nat_tests)
        | inr next ↦ let here = none (position + i) next (omega arith) in grind (arith, nat_tests)
      ];
}

-- where all are written
pub fills_all : (gs : List Gap) (position written : ℕ) (old new bytes : List ℕ)
    → FillsTo gs position written old new bytes → position + length old ≤ written → Fills gs position old new bytes
fills_all gs position written old new bytes f all = record {
  size = f.size;
  filled = λ i h. let was = f.filled i h in grind (arith, nat_tests);
}
