-- Nodes that are linked in a ring: one is linked in, taken out, or moved.
use Rattle.std.proofs.Common.{◌≡◌, ℕ, ◌⊎◌, inl, inr, true, false, List, [], ◌∷◌, ◌++◌}
use Rattle.std.proofs.Common.{length, arith, refl, sym, subst, ap, ◌∙◌, ◌≢◌}
use Rattle.std.proofs.lemmas.Bool.{cases_eq}
use Rattle.std.proofs.lemmas.Bool.Decides.{nat_tests}
use Rattle.std.specs.Prelude.{◌==◌, if◌then◌else◌, ◌||◌}
use Rattle.etherparse.specs.StartOrder.{AreDistinct, Joined, Moves, PutsLast, TakesOut, has, renamed, walk, without}

-- ---- lists of numbers

pub has-without : (q b : ℕ) (ns : List ℕ) → has q (without b ns) ≡ (if q == b then false else has q ns)
has-without q b [] = grind (arith, nat_tests)
has-without q b (n ∷ ns) = grind (arith, nat_tests, has-without q b ns)

pub has-renamed : (q n b : ℕ) (ns : List ℕ) → has q (renamed n b ns)
    ≡ (if q == b then has n ns || has b ns else (if q == n then false else has q ns))
has-renamed q n b [] = grind (arith, nat_tests)
has-renamed q n b (m ∷ ns) = grind (arith, nat_tests, has-renamed q n b ns)

pub without-lacking : (b : ℕ) (ns : List ℕ) → has b ns ≡ false → without b ns ≡ ns
without-lacking b [] h = refl
without-lacking b (n ∷ ns) h = grind (arith, nat_tests, without-lacking b ns)

pub renamed-lacking : (n b : ℕ) (ns : List ℕ) → has n ns ≡ false → renamed n b ns ≡ ns
renamed-lacking n b [] h = refl
renamed-lacking n b (m ∷ ns) h = grind (arith, nat_tests, renamed-lacking n b ns)

pub distinct-without : (b : ℕ) (ns : List ℕ) → AreDistinct ns → AreDistinct (without b ns)
distinct-without b [] d = tt
distinct-without b (n ∷ ns) d = grind (arith, nat_tests, has-without n b ns, distinct-without b ns d.1)

pub distinct-renamed : (n b : ℕ) (ns : List ℕ) → has b ns ≡ false → AreDistinct ns → AreDistinct (renamed n b ns)
distinct-renamed n b [] h d = tt
distinct-renamed n b (m ∷ ns) h d =
    grind (arith, nat_tests, has-renamed m n b ns, has-renamed b n b ns, distinct-renamed n b ns)

-- ---- links

module _ (f g : ℕ → ℕ) where
  pub walk_is : (a : ℕ) (ps : List ℕ) (z : ℕ) → Joined f g a ps z → walk f (length ps) a ≡ ps
  walk_is a [] z j = refl
  walk_is a (p ∷ ps) z j = rw (j.0, walk_is p ps z j.2)

  pub next_in : (a : ℕ) (ps : List ℕ) (z : ℕ) → Joined f g a ps z → (f a ≡ z) ⊎ (has (f a) ps ≡ true)
  next_in a [] z j = inl j.0
  next_in a (p ∷ ps) z j = inr (grind (arith, nat_tests))

  -- the one before the end
  pub last_in : (a : ℕ) (ps : List ℕ) (z : ℕ) → Joined f g a ps z → has (g z) (a ∷ ps) ≡ true
  last_in a [] z j = grind (arith, nat_tests)
  last_in a (p ∷ ps) z j = grind (arith, nat_tests, last_in p ps z j.2)

  -- the one before a node that is there, and the one after it
  pub before_in : (a : ℕ) (ps : List ℕ) (z b : ℕ) → Joined f g a ps z → has b ps ≡ true
      → has (g b) (a ∷ ps) ≡ true
  before_in a [] z b j h = grind (arith, nat_tests)
  before_in a (p ∷ ps) z b j h = grind (arith, nat_tests, before_in p ps z b j.2)

  pub after_in : (a : ℕ) (ps : List ℕ) (z b : ℕ) → Joined f g a ps z → has b ps ≡ true
      → (f b ≡ z) ⊎ (has (f b) ps ≡ true)
  after_in a [] z b j h = grind (arith, nat_tests)
  after_in a (p ∷ ps) z b j h = grind (arith, nat_tests, after_in p ps z b j.2, next_in p ps z j.2)

  module _ (f' g' : ℕ → ℕ) where
    pub still_joined : (a : ℕ) (ps : List ℕ) (z : ℕ) → ((q : ℕ) → has q (a ∷ ps) ≡ true → f' q ≡ f q)
        → ((q : ℕ) → has q ps ≡ true → g' q ≡ g q) → g' z ≡ g z
        → Joined f g a ps z → Joined f' g' a ps z
    still_joined a [] z sf sg e j = (sf a (grind (arith, nat_tests)) ∙ j.0, e ∙ j.1)
    still_joined a (p ∷ ps) z sf sg e j = (
      sf a (grind (arith, nat_tests)) ∙ j.0,
      sg p (grind (arith, nat_tests)) ∙ j.1,
      still_joined p ps z (λ q h. sf q (grind (arith, nat_tests)))
          (λ q h. sg q (grind (arith, nat_tests))) e j.2,
    )

-- ---- a node is taken out

module _ (b : ℕ) (f g f' g' : ℕ → ℕ) (t : TakesOut b f g f' g') where
  joined_past : (a : ℕ) (ps : List ℕ) (z : ℕ) → a ≡ g b → has a ps ≡ false → AreDistinct ps
      → has z ps ≡ false → Joined f g b ps z → Joined f' g' a ps z
  joined_past a [] z e out d far j = grind (arith, t.newer_at, t.older_at)
  joined_past a (p ∷ ps) z e out d far j =
      let next : f' a ≡ p = rw (e, t.newer_at, j.0) in
      let back : g' p ≡ a = rw (← j.0, t.older_at, e) in (
        next,
        back,
        still_joined f g f' g' p ps z (λ q h. t.newer q (λ same. grind (arith, nat_tests)))
            (λ q h. t.older q (λ same. grind (arith, nat_tests)))
            (t.older z (λ same. grind (arith, nat_tests))) j.2,
      )

  taken_out_one : (a p : ℕ) (ps : List ℕ) (z : ℕ) → (p ≡ b) ⊎ (p ≢ b) → has b (p ∷ ps) ≡ true
      → AreDistinct (a ∷ p ∷ ps) → has z (p ∷ ps) ≡ false → Joined f g a (p ∷ ps) z
      → (has b ps ≡ true → Joined f' g' p (without b ps) z) → Joined f' g' a (without b (p ∷ ps)) z
  taken_out_one a p ps z (inl e) h d far j later =
      let w : without b (p ∷ ps) ≡ ps = grind (arith, nat_tests, without-lacking b ps) in
      let here : Joined f g b ps z = rw e at j.2 in
      let mine : a ≡ g b = sym (rw e at j.1) in
      subst (λ (xs : List ℕ). Joined f' g' a xs z) (sym w)
      (joined_past a ps z mine (grind (arith, nat_tests)) d.1.1 (grind (arith, nat_tests)) here)
  taken_out_one a p ps z (inr e) h d far j later =
      let w : without b (p ∷ ps) ≡ p ∷ without b ps = grind (arith, nat_tests) in
      let there : has b ps ≡ true = grind (arith, nat_tests) in
      let before = before_in f g p ps z b j.2 there in
      let after = after_in f g p ps z b j.2 there in
      subst (λ (xs : List ℕ). Joined f' g' a xs z) (sym w) (
        t.newer a (λ same. grind (arith, nat_tests)) ∙ j.0,
        t.older p (λ same. grind (arith, nat_tests)) ∙ j.1,
        later there,
      )

  pub taken_out : (a : ℕ) (ps : List ℕ) (z : ℕ) → has b ps ≡ true → AreDistinct (a ∷ ps)
      → has z ps ≡ false → Joined f g a ps z → Joined f' g' a (without b ps) z
  taken_out a [] z h d far j = grind (arith, nat_tests)
  taken_out a (p ∷ ps) z h d far j =
      taken_out_one a p ps z (cases_eq p b) h d far j
      (λ there. taken_out p ps z there d.1 (grind (arith, nat_tests)) j.2)

-- ---- a node is moved

module _ (n b : ℕ) (f g f' g' : ℕ → ℕ) (t : Moves n b f g f' g') where
  joined_from : (ps : List ℕ) (z : ℕ) → has b ps ≡ false → z ≢ b → has (g n) (n ∷ ps) ≡ false
      → AreDistinct (n ∷ ps) → has z ps ≡ false → Joined f g n ps z → Joined f' g' b ps z
  joined_from [] z out apart before d far j =
      (t.newer_at ∙ j.0, ap g' (sym j.0) ∙ t.older_after)
  joined_from (p ∷ ps) z out apart before d far j = (
    t.newer_at ∙ j.0,
    ap g' (sym j.0) ∙ t.older_after,
    still_joined f g f' g' p ps z
        (λ q h. t.newer q (λ same. grind (arith, nat_tests)) (λ same. grind (arith, nat_tests)))
        (λ q h. t.older q (λ same. grind (arith, nat_tests)) (λ same. grind (arith, nat_tests)))
        (t.older z apart (λ same. grind (arith, nat_tests))) j.2,
  )

  moved_one : (a p : ℕ) (ps : List ℕ) (z : ℕ) → (p ≡ n) ⊎ (p ≢ n) → has n (p ∷ ps) ≡ true
      → AreDistinct (a ∷ p ∷ ps) → has z (p ∷ ps) ≡ false → has b (a ∷ p ∷ ps) ≡ false → z ≢ b
      → Joined f g a (p ∷ ps) z
      → (has n ps ≡ true → Joined f' g' p (renamed n b ps) z) → Joined f' g' a (renamed n b (p ∷ ps)) z
  moved_one a p ps z (inl e) h d far out apart j later =
      let w : renamed n b (p ∷ ps) ≡ b ∷ ps = grind (arith, nat_tests, renamed-lacking n b ps) in
      let here : Joined f g n ps z = rw e at j.2 in
      let mine : g n ≡ a = rw e at j.1 in
      subst (λ (xs : List ℕ). Joined f' g' a xs z) (sym w) (
        ap f' (sym mine) ∙ t.newer_before,
        t.older_at ∙ mine,
        joined_from ps z (grind (arith, nat_tests)) apart (grind (arith, nat_tests)) (rw e at d.1)
            (grind (arith, nat_tests)) here,
      )
  moved_one a p ps z (inr e) h d far out apart j later =
      let w : renamed n b (p ∷ ps) ≡ p ∷ renamed n b ps = grind (arith, nat_tests) in
      let there : has n ps ≡ true = grind (arith, nat_tests) in
      let before = before_in f g p ps z n j.2 there in
      let after = after_in f g p ps z n j.2 there in
      subst (λ (xs : List ℕ). Joined f' g' a xs z) (sym w) (
        t.newer a (λ same. grind (arith, nat_tests)) (λ same. grind (arith, nat_tests)) ∙ j.0,
        t.older p (λ same. grind (arith, nat_tests)) (λ same. grind (arith, nat_tests)) ∙ j.1,
        later there,
      )

  pub moved : (a : ℕ) (ps : List ℕ) (z : ℕ) → has n ps ≡ true → AreDistinct (a ∷ ps)
      → has z ps ≡ false → has b (a ∷ ps) ≡ false → z ≢ b → Joined f g a ps z
      → Joined f' g' a (renamed n b ps) z
  moved a [] z h d far out apart j = grind (arith, nat_tests)
  moved a (p ∷ ps) z h d far out apart j =
      moved_one a p ps z (cases_eq p n) h d far out apart j
      (λ there. moved p ps z there d.1 (grind (arith, nat_tests)) (grind (arith, nat_tests)) apart j.2)

-- ---- a node is linked in before the end

module _ (b z : ℕ) (f g f' g' : ℕ → ℕ) (t : PutsLast b z f g f' g') where
  pub put_last : (a : ℕ) (ps : List ℕ) → AreDistinct (a ∷ ps) → has z ps ≡ false
      → has b (a ∷ ps) ≡ false → Joined f g a ps z → Joined f' g' a (ps ++ b ∷ []) z
  put_last a [] d far out j =
      (ap f' (sym j.1) ∙ t.newer_before, t.older_at ∙ j.1, (t.newer_at, t.older_after))
  put_last a (p ∷ ps) d far out j =
      let last = last_in f g p ps z j.2 in (
        t.newer a (λ same. grind (arith, nat_tests)) (λ same. grind (arith, nat_tests)) ∙ j.0,
        t.older p (λ same. grind (arith, nat_tests)) (λ same. grind (arith, nat_tests)) ∙ j.1,
        put_last p ps d.1 (grind (arith, nat_tests)) (grind (arith, nat_tests)) j.2,
      )
