-- Packets counted in spans of time: spans that are doubled, and one packet more.
use Rattle.std.proofs.Common.{◌≡◌, ◌≢◌, ℕ, zero, suc, ◌+◌, ◌-◌, ◌*◌, ◌/◌, ◌^◌, ◌<◌, ◌≤◌, ◌==◌, ◌⊎◌, inl, inr, Bool}
use Rattle.std.proofs.Common.{true, false, cond, List, [], ◌∷◌, ◌++◌, length, nat_lt, Option, Some, unwrap_or}
use Rattle.std.proofs.Common.{replicate, refl, ap, sym, ◌∙◌, ◌||◌, subst, arith, get_or-set_other, get_or-set_same}
use Rattle.std.specs.List.{All, list_any, slice_index, slice_index_or, slice_set, sum_by}
use Rattle.std.proofs.Math.Bool.{or-true}
use Rattle.std.proofs.lemmas.Bool.{true≢false}
use Rattle.std.proofs.lemmas.Bool.Decides.{eqb_tells, nat_tests}
use Rattle.std.proofs.lemmas.List.Elements.{All-append}
use Rattle.std.proofs.lemmas.List.Folds.{list_any-append}
use Rattle.std.proofs.lemmas.List.Sums.{sum_by-cons}
use Rattle.std.proofs.Math.Nat.{div-div-eq-div-mul, mul-div-le, mul-le-mul_left, pow-suc}
use Rattle.captures.specs.Numbers.{capped}
use Rattle.packets.specs.Rate.{CountsBySpan, CountsSpans, count_at, is_past_spans, span_at, start_of}
use Rattle.packets.specs.declared.outline.Outline.{Outline}
use Rattle.packets.specs.declared.summary.rate.Rate.{Rate}
use Rattle.packets.proofs.TallyLemmas.{sum_by-end}

halved : (x p n : ℕ) → ◌≡◌ {A = ℕ} (cond (x / 2 == p) n 0)
    (cond (x == 2 * p) n 0 + cond (x == 2 * p + 1) n 0)
halved x p n = grind (arith, nat_tests)

twice : (span start time : ℕ) → span_at (span * 2) start time ≡ span_at span start time / 2
twice span start time = sym (div-div-eq-div-mul (time - start) span 2)

tail-of : {X : Type 0} (P : X → Type 0) (x : X) (xs : List X) → All P (x ∷ xs) → All P xs
tail-of P x xs all k d lt = all (suc k) d (omega arith)

zero-of : (x p n : ℕ) → x < 64 → 32 ≤ p → ◌≡◌ {A = ℕ} (cond (x / 2 == p) n 0) 0
zero-of x p n low far = grind (arith, nat_tests)

capped-sum : (a b : ℕ) → capped (capped a + capped b) ≡ capped (a + b)
capped-sum a b = omega arith

pub within-doubled : (span start : ℕ) (packets : List Outline)
    → All (λ (q : Outline). span_at span start q.time < 64) packets
    → All (λ (q : Outline). span_at (span * 2) start q.time < 64) packets
within-doubled span start packets all k d lt =
    let low : span_at span start (slice_index_or packets k d).time < 64 = all k d lt in
    let e = twice span start (slice_index_or packets k d).time in
    omega (arith, low, e)

twofold : (times : ℕ) → 1953125 * 2 ^ times * 2 ≡ 1953125 * 2 ^ suc times
twofold times = let e : 2 ^ suc times ≡ 2 ^ times * 2 = pow-suc 2 times in omega (arith, e)

pub zeros-at : (n k : ℕ) → slice_index (replicate n 0) k ≡ 0
zeros-at zero zero = refl
zeros-at zero (suc k) = refl
zeros-at (suc n) zero = refl
zeros-at (suc n) (suc k) = zeros-at n k

within-added : (span start position : ℕ) (packets : List Outline) (packet : Outline)
    → position ≡ span_at span start packet.time → position < 64
    → All (λ (q : Outline). span_at span start q.time < 64) packets
    → All (λ (q : Outline). span_at span start q.time < 64) (packets ++ packet ∷ [])
within-added span start position packets packet here small all =
    All-append (λ (q : Outline). span_at span start q.time < 64) packets (packet ∷ []) all (alone
    here small)
  where
    alone : position ≡ span_at span start packet.time → position < 64
        → All (λ (q : Outline). span_at span start q.time < 64) (packet ∷ [])
    alone here small zero d lt = omega (arith, here, small)
    alone here small (suc k) d lt = absurd (omega arith)

pub started : (found : Option ℕ) (time start : ℕ) → found ≡ Some start → unwrap_or found time ≡ start
started found time start e = ap (λ o. unwrap_or o time) e

any-first : {X : Type 0} (p : X → Bool) (xs ys : List X) → list_any p xs ≡ true
    → list_any p (xs ++ ys) ≡ true
any-first p xs ys h = list_any-append p xs ys ∙ ap (λ b. b || list_any p ys) h

any-last : {X : Type 0} (p : X → Bool) (xs : List X) (x : X) → p x ≡ true
    → list_any p (xs ++ x ∷ []) ≡ true
any-last p [] x h = ap (λ b. b || false) h
any-last p (y ∷ ys) x h = ap (λ b. p y || b) (any-last p ys x h) ∙ or-true (p y)

beyond : (span start : ℕ) (packet : Outline) → 64 ≤ span_at span start packet.time
    → is_past_spans span start packet ≡ true
beyond span start packet far = grind (arith, nat_tests)

-- twice a span that was too short
pub half-short : (since span : ℕ) → 64 ≤ since / span → 64 ≤ since / (2 * span / 2)
half-short since span far = let e : 2 * span / 2 ≡ span = omega arith in
    subst (λ n. 64 ≤ since / n) (sym e) far

-- a span of which more than 64 have passed can be doubled, and fewer have passed then
pub span-fits : (since span : ℕ) → since < 2 ^ 64 → 64 ≤ since / span → span < 2 ^ 63
span-fits since span fits far =
    let below : span * (since / span) ≤ since = mul-div-le since span in
    let some : span * 64 ≤ span * (since / span) = mul-le-mul_left span far in
    omega (arith, below, some)

pub span-fewer : (since span : ℕ) → 64 ≤ since / span → since / (2 * span) < since / span
span-fewer since span far =
    let e : since / span / 2 ≡ since / (span * 2) = div-div-eq-div-mul since span 2 in
    let c : since / (2 * span) ≡ since / (span * 2) = ap (λ n. since / n) (omega arith) in
    omega (arith, e, c)

-- one place of a list of counts is set, where a packet of this span counts so much
set-added : (counts : List ℕ) (position v d x n sum more : ℕ) → position < length counts
    → position ≡ x → v ≡ capped (slice_index counts position + n)
    → slice_index counts d ≡ capped sum → more ≡ capped (capped sum + cond (x == d) n 0)
    → slice_index (slice_set counts position v) d ≡ more
set-added counts position v d x n sum more within here ev before end =
    grind (arith, eqb_tells, nat_tests, get_or-set_same, get_or-set_other)

-- so much is counted of each packet
module _ (count_of : Outline → ℕ) where
  counts-twice : (span start p : ℕ) (packets : List Outline)
      → sum_by (count_at count_of (span * 2) start p) packets
      ≡ sum_by (count_at count_of span start (2 * p)) packets
      + sum_by (count_at count_of span start (2 * p + 1)) packets
  counts-twice span start p [] = refl
  counts-twice span start p (q ∷ qs) =
      let all = sum_by-cons (count_at count_of (span * 2) start p) q qs in
      let even = sum_by-cons (count_at count_of span start (2 * p)) q qs in
      let odd = sum_by-cons (count_at count_of span start (2 * p + 1)) q qs in
      let here : count_at count_of (span * 2) start p q
      ≡ count_at count_of span start (2 * p) q + count_at count_of span start (2 * p + 1) q =
      ap (λ x. cond (x == p) (count_of q) 0) (twice span start q.time)
      ∙ halved (span_at span start q.time) p (count_of q) in
      omega (arith, here, all, even, odd, counts-twice span start p qs)

  counts-none : (span start p : ℕ) (packets : List Outline) → 32 ≤ p
      → All (λ (q : Outline). span_at span start q.time < 64) packets
      → sum_by (count_at count_of (span * 2) start p) packets ≡ 0
  counts-none span start p [] far all = refl
  counts-none span start p (q ∷ qs) far all =
      let low : span_at span start q.time < 64 = all 0 q (omega arith) in
      let here : count_at count_of (span * 2) start p q ≡ 0 =
      ap (λ x. cond (x == p) (count_of q) 0) (twice span start q.time)
      ∙ zero-of (span_at span start q.time) p (count_of q) low far in
      let first = sum_by-cons (count_at count_of (span * 2) start p) q qs in
      let rest = counts-none span start p qs far
      (tail-of (λ (q : Outline). span_at span start q.time < 64) q qs all) in
      omega (arith, here, first, rest)

  -- the counts of doubled spans
  pub counts-doubled : (span start : ℕ) (counts counts' : List ℕ) (packets : List Outline)
      → ((p : ℕ) → p < 64 → slice_index counts p
      ≡ capped (sum_by (count_at count_of span start p) packets))
      → All (λ (q : Outline). span_at span start q.time < 64) packets
      → ((k : ℕ) → k < 32 → slice_index counts' k
      ≡ capped (slice_index counts (2 * k) + slice_index counts (2 * k + 1)))
      → ((k : ℕ) → 32 ≤ k → slice_index counts' k ≡ 0)
      → (p : ℕ) → p < 64 → slice_index counts' p
      ≡ capped (sum_by (count_at count_of (span * 2) start p) packets)
  counts-doubled span start counts counts' packets counted all low high p small =
      elim (nat_lt p 32) as (λ b. nat_lt p 32 ≡ b → slice_index counts' p
      ≡ capped (sum_by (count_at count_of (span * 2) start p) packets)) [
        | true ↦ λ e.
            let near : p < 32 = grind (arith, nat_tests) in
            low p near
            ∙ ap (λ n. capped (n + slice_index counts (2 * p + 1))) (counted (2 * p) (omega arith))
            ∙ ap (λ n. capped (capped (sum_by (count_at count_of span start (2 * p)) packets) + n))
            (counted (2 * p + 1) (omega arith))
            ∙ capped-sum (sum_by (count_at count_of span start (2 * p)) packets)
            (sum_by (count_at count_of span start (2 * p + 1)) packets)
            ∙ ap capped (sym (counts-twice span start p packets))
        | false ↦ λ e.
            let far : 32 ≤ p = grind (arith, nat_tests) in
            high p far ∙ ap capped (sym (counts-none span start p packets far all))
      ] refl

  -- the packets are counted in doubled spans
  pub spans-doubled : (rate rate' : Rate) (packets : List Outline) → CountsBySpan count_of rate packets
      → rate'.begin ≡ rate.begin → rate'.span ≡ rate.span * 2
      → ((k : ℕ) → k < 32 → slice_index rate'.counts k
      ≡ capped (slice_index rate.counts (2 * k) + slice_index rate.counts (2 * k + 1)))
      → ((k : ℕ) → 32 ≤ k → slice_index rate'.counts k ≡ 0)
      → CountsBySpan count_of rate' packets
  spans-doubled rate rate' packets old eb es low high = record {
    begin = eb ∙ old.begin;
    doubled = (suc old.doubled.0, es ∙ ap (λ n. n * 2) old.doubled.1 ∙ twofold old.doubled.0);
    counted = subst (λ n. (position : ℕ) → position < 64 → slice_index rate'.counts position ≡ capped
        (sum_by (count_at count_of n (start_of packets) position) packets)) (sym es)
        (counts-doubled rate.span (start_of packets) rate.counts rate'.counts packets old.counted
        old.within low high);
    within = subst (λ n. All (λ (q : Outline). span_at n (start_of packets) q.time < 64) packets)
        (sym es)
        (within-doubled rate.span (start_of packets) packets old.within);
  }

  counts-added : (span start position v : ℕ) (counts : List ℕ) (packets : List Outline) (packet : Outline)
      → length counts ≡ 64
      → ((d : ℕ) → d < 64 → slice_index counts d
      ≡ capped (sum_by (count_at count_of span start d) packets))
      → position ≡ span_at span start packet.time → position < 64
      → v ≡ capped (slice_index counts position + count_of packet) → (d : ℕ) → d < 64
      → slice_index (slice_set counts position v) d
      ≡ capped (sum_by (count_at count_of span start d) (packets ++ packet ∷ []))
  counts-added span start position v counts packets packet size counted here small ev d low =
      let end = sum_by-end (count_at count_of span start d) packets packet in
      let before = counted d low in
      let within : position < length counts = omega (arith, size, small) in
      set-added counts position v d (span_at span start packet.time) (count_of packet)
      (sum_by (count_at count_of span start d) packets) _ within here ev before end

  -- the packets are counted with one more
  pub spans-added : (rate rate' : Rate) (packets : List Outline) (packet : Outline) (begin position v
      : ℕ)
      → length rate.counts ≡ 64 → CountsBySpan count_of rate packets
      → begin ≡ unwrap_or rate.begin packet.time → position ≡ span_at rate.span begin packet.time
      → position < 64 → v ≡ capped (slice_index rate.counts position + count_of packet)
      → rate'.begin ≡ Some begin → rate'.span ≡ rate.span
      → rate'.counts ≡ slice_set rate.counts position v
      → CountsBySpan count_of rate' (packets ++ packet ∷ [])
  spans-added rate rate' [] packet begin position v size old eb ep small ev eb' es ec =
      let first : begin ≡ packet.time = eb ∙ ap (λ o. unwrap_or o packet.time) old.begin in
      let here : position ≡ span_at rate'.span packet.time packet.time =
      ep ∙ ap (λ b. span_at rate.span b packet.time) first
      ∙ ap (λ s. span_at s packet.time packet.time) (sym es) in
      record {
        begin = eb' ∙ ap Some first;
        doubled = (old.doubled.0, es ∙ old.doubled.1);
        counted = subst (λ cs. (d : ℕ) → d < 64 → slice_index cs d ≡ capped (sum_by (count_at count_of rate'.span packet.time d) (packet ∷ []))) (sym ec)
            (counts-added rate'.span packet.time position v rate.counts [] packet size old.counted
            here small ev);
        within = within-added rate'.span packet.time position [] packet here small
            (λ k d lt. absurd (omega arith));
      }
  spans-added rate rate' (q ∷ qs) packet begin position v size old eb ep small ev eb' es ec =
      let first : begin ≡ q.time = eb ∙ started rate.begin packet.time q.time old.begin in
      let here : position ≡ span_at rate'.span q.time packet.time =
      ep ∙ ap (λ b. span_at rate.span b packet.time) first
      ∙ ap (λ s. span_at s q.time packet.time) (sym es) in
      let before : (d : ℕ) → d < 64 → slice_index rate.counts d ≡ capped (sum_by (count_at count_of rate'.span q.time d) (q ∷ qs)) =
      subst (λ s. (d : ℕ) → d < 64 → slice_index rate.counts d ≡ capped (sum_by (count_at count_of s q.time d) (q ∷ qs))) (sym es) old.counted in
      let around : All (λ (p : Outline). span_at rate'.span q.time p.time < 64) (q ∷ qs) =
      subst (λ s. All (λ (p : Outline). span_at s q.time p.time < 64) (q ∷ qs)) (sym es) old.within in
      record {
        begin = eb' ∙ ap Some first;
        doubled = (old.doubled.0, es ∙ old.doubled.1);
        counted = subst (λ cs. (d : ℕ) → d < 64 → slice_index cs d ≡ capped (sum_by (count_at count_of rate'.span q.time d) ((q ∷ qs) ++ packet ∷ [])))
            (sym ec)
            (counts-added rate'.span q.time position v rate.counts (q ∷ qs) packet size before here
            small ev);
        within = within-added rate'.span q.time position (q ∷ qs) packet here small around;
      }

  -- no packet comes after the last span; where a packet comes, there is one span at least
  still-least : (old : Rate) (span begin : ℕ) (packets : List Outline) (packet : Outline)
      → CountsSpans count_of old packets → span ≡ old.span
      → (span ≡ 1953125) ⊎ (list_any (is_past_spans (span / 2) (start_of (packets ++ packet ∷ [])))
      (packets ++ packet ∷ []) ≡ true)
  still-least old span begin [] packet counted e = elim counted.least [
    | inl shortest ↦ inl (e ∙ shortest)
    | inr any ↦ absurd (true≢false (sym any))
  ]
  still-least old span begin (q ∷ qs) packet counted e = elim counted.least [
    | inl shortest ↦ inl (e ∙ shortest)
    | inr any ↦ inr (any-first (is_past_spans (span / 2) q.time) (q ∷ qs) (packet ∷ [])
        (ap (λ s. list_any (is_past_spans (s / 2) q.time) (q ∷ qs)) e ∙ any))
  ]

  start-found : (old : Rate) (begin : ℕ) (packets : List Outline) (packet : Outline)
      → CountsSpans count_of old packets → begin ≡ unwrap_or old.begin packet.time
      → begin ≡ start_of (packets ++ packet ∷ [])
  start-found old begin [] packet counted e =
      e ∙ ap (λ o. unwrap_or o packet.time) counted.by_span.begin
  start-found old begin (q ∷ qs) packet counted e =
      e ∙ started old.begin packet.time q.time counted.by_span.begin

  -- the spans are the least with one packet more, where they stayed or half of them was too short
  pub spans-least : (old : Rate) (span begin since : ℕ) (packets : List Outline) (packet : Outline)
      → CountsSpans count_of old packets → begin ≡ unwrap_or old.begin packet.time
      → since ≡ packet.time - begin → (span ≡ old.span) ⊎ (64 ≤ since / (span / 2))
      → (span ≡ 1953125) ⊎ (list_any (is_past_spans (span / 2) (start_of (packets ++ packet ∷ [])))
      (packets ++ packet ∷ []) ≡ true)
  spans-least old span begin since packets packet counted eb es doubled = elim doubled [
    | inl same ↦ still-least old span begin packets packet counted same
    | inr far ↦
        let start = start-found old begin packets packet counted eb in
        let late : 64 ≤ span_at (span / 2) (start_of (packets ++ packet ∷ [])) packet.time =
        subst (λ b. 64 ≤ (packet.time - b) / (span / 2)) start
        (subst (λ n. 64 ≤ n / (span / 2)) es far) in
        inr (any-last (is_past_spans (span / 2) (start_of (packets ++ packet ∷ []))) packets packet
        (beyond (span / 2) (start_of (packets ++ packet ∷ [])) packet late))
  ]
