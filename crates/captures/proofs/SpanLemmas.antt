-- Which spans of packet time pass, and what they drop.
use Rattle.std.proofs.Common.{◌≡◌, sym, subst, ℕ, ◌+◌, ◌*◌, ◌<◌, ◌≤◌, ◌⊎◌, ◌++◌, arith, Bool, true, false, cond, List}
use Rattle.std.proofs.Common.{[], ◌∷◌, inl, inr, append_assoc}
use Rattle.std.specs.List.{AllByRecursion}
use Rattle.captures.specs.Spans.{Drops, Mark, SpansDrop, SpansKeep, have_passed, passed_spans}

-- a span has passed, or not
pub has_or_not : (seconds begin time : ℕ)
    → ((have_passed seconds begin time ≡ true) × (begin + 1000000000 * seconds ≤ time))
    ⊎ ((have_passed seconds begin time ≡ false) × (time < begin + 1000000000 * seconds))
has_or_not seconds begin time = grind arith

module _ (seconds : ℕ) where
  abbrev Reports : ℕ → Mark → Mark → List Mark → Bool → Type 0
  Reports own span packet packets b = Drops own (cond b
      (span.number ∷ passed_spans seconds packet packets) (passed_spans seconds span packets))

  -- no span passes that began later than a fragment came
  never : (time own : ℕ) (span : Mark) (packets : List Mark) → time < span.time
      → AllByRecursion (λ p. p.time < time + 1000000000 * seconds) packets
      → Drops own (passed_spans seconds span packets) → ⊥
  never time own span [] later all drops = drops
  never time own span (packet ∷ packets) later all drops =
      grind (arith, never time own span packets later all.1)

  -- and of the one that it came in what came before is dropped
  keeps : (time own : ℕ) (span : Mark) (packets : List Mark) → span.number ≤ own
      → time < span.time + 1000000000 * seconds
      → AllByRecursion (λ p. p.time < time + 1000000000 * seconds) packets
      → Drops own (passed_spans seconds span packets) → ⊥
  keeps time own span [] first near all drops = drops
  keeps time own span (packet ∷ packets) first near all drops =
      elim (has_or_not seconds span.time packet.time) [
        | inl passed ↦ elim (subst (Reports own span packet packets) passed.0 drops) [
          | inl less ↦ absurd (omega (arith, less, first))
          | inr after ↦ never time own packet packets (omega (arith, near, passed.1)) all.1 after
        ]
        | inr more ↦ grind (arith, keeps time own span packets first near all.1)
      ]

  -- a span with a greater number drops the reassembly once it passes,
  goes_by : (own : ℕ) (span : Mark) (packets : List Mark) (last : Mark) → own < span.number
      → span.time + 1000000000 * seconds ≤ last.time
      → Drops own (passed_spans seconds span (packets ++ last ∷ []))
  goes_by own span [] last ahead long = grind arith
  goes_by own span (packet ∷ packets) last ahead long =
      grind (arith, goes_by own span packets last ahead long)

  -- and one begins in time
  goes : (time own : ℕ) (span : Mark) (between : List Mark) (next : Mark) (later : List Mark)
      (last : Mark) → span.time ≤ time → time + 1000000000 * seconds ≤ next.time
      → own < next.number → AllByRecursion (λ p. (own < p.number) ⊎ (p.time ≤ time)) between
      → AllByRecursion (λ p. p.time + 1000000000 * seconds ≤ last.time) (between ++ next ∷ [])
      → Drops own (passed_spans seconds span ((between ++ next ∷ []) ++ (later ++ last ∷ [])))
  goes time own span [] next later last low long ahead all after =
      elim (has_or_not seconds span.time next.time) [
        | inl passed ↦ subst (Reports own span next (later ++ last ∷ [])) (sym passed.0)
            (inr (goes_by own next later last ahead after.0))
        | inr more ↦ absurd (omega (arith, low, long, more.1))
      ]
  goes time own span (packet ∷ between) next later last low long ahead all after =
      let rest = (between ++ next ∷ []) ++ (later ++ last ∷ []) in
      elim (has_or_not seconds span.time packet.time) [
        | inl passed ↦ subst (Reports own span packet rest) (sym passed.0) (inr (elim all.0 [
          | inl greater ↦ subst (λ (ps : List Mark). Drops own (passed_spans seconds packet ps))
              (append_assoc (between ++ next ∷ []) later (last ∷ []))
              (goes_by own packet ((between ++ next ∷ []) ++ later) last greater after.0)
          | inr early ↦ goes time own packet between next later last early long ahead all.1 after.1
        ]))
        | inr more ↦
            grind (arith, goes time own span between next later last low long ahead all.1 after.1)
      ]

pub spans_keep : SpansKeep
spans_keep seconds time own span later first near all drops =
    keeps seconds time own span later first near all drops

pub spans_drop : SpansDrop
spans_drop seconds time own span between next later last low long ahead all after =
    goes seconds time own span between next later last low long ahead all after
