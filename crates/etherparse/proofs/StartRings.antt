-- The ring of nodes, after one is added or removed.
use Rattle.std.proofs.Common.{◌≡◌, ℕ, zero, suc, ◌+◌, ◌-◌, ◌<◌, ◌≤◌, ◌⊎◌, inl, inr, true, false, List, [], ◌∷◌, ◌++◌}
use Rattle.std.proofs.Common.{length, arith, refl, sym, subst, ap, ◌∙◌, ◌≢◌, ◌&&◌, nat_lt}
use Rattle.std.proofs.lemmas.Bool.{cases_eq}
use Rattle.std.proofs.lemmas.Bool.Decides.{nat_tests}
use Rattle.std.specs.Prelude.{◌==◌, ◌^◌, ◌||◌}
use Rattle.etherparse.specs.StartOrder.{AreDistinct, IsOrder, IsRing, Joined, PutsLast, TakesOut, has, link, order_without}
use Rattle.etherparse.specs.StartOrder.{CanMoveTo, MovesTo, nodes, renamed, slots_of, walk, without}
use Rattle.etherparse.proofs.StartLinks.{before_in, after_in, distinct-renamed, distinct-without, has-renamed, has-without, moved}
use Rattle.etherparse.proofs.StartLinks.{put_last, renamed-lacking, still_joined, taken_out, walk_is}

-- ---- lengths

pub length-walk : (f : ℕ → ℕ) (n p : ℕ) → length (walk f n p) ≡ n
length-walk f zero p = refl
length-walk f (suc n) p = omega (arith, length-walk f n (f p))

pub length-renamed : (n b : ℕ) (ns : List ℕ) → length (renamed n b ns) ≡ length ns
length-renamed n b [] = refl
length-renamed n b (m ∷ ns) = omega (arith, length-renamed n b ns)

length-without-lacking : (b : ℕ) (ns : List ℕ) → has b ns ≡ false → length (without b ns) ≡ length ns
length-without-lacking b [] h = refl
length-without-lacking b (n ∷ ns) h = grind (arith, nat_tests, length-without-lacking b ns)

pub length-without : (b : ℕ) (ns : List ℕ) → has b ns ≡ true → AreDistinct ns → length (without b ns) + 1 ≡ length ns
length-without b [] h d = grind arith
length-without b (n ∷ ns) h d =
    grind (arith, nat_tests, length-without b ns, length-without-lacking b ns)

pub has-push : (q b : ℕ) (ns : List ℕ) → has q (ns ++ b ∷ []) ≡ (has q ns || b == q)
has-push q b [] = grind (arith, nat_tests)
has-push q b (n ∷ ns) = grind (arith, nat_tests, has-push q b ns)

pub distinct-push : (b : ℕ) (ns : List ℕ) → has b ns ≡ false → AreDistinct ns → AreDistinct (ns ++ b ∷ [])
distinct-push b [] h d = grind (arith, nat_tests)
distinct-push b (n ∷ ns) h d = grind (arith, nat_tests, has-push n b ns, distinct-push b ns)

pub length-push : (b : ℕ) (ns : List ℕ) → length (ns ++ b ∷ []) ≡ length ns + 1
length-push b [] = refl
length-push b (n ∷ ns) = omega (arith, length-push b ns)

-- ---- slots of nodes

pub has-slots : (slot : ℕ) (ps : List ℕ) → has 0 ps ≡ false → has slot (slots_of ps) ≡ has (slot + 1) ps
has-slots slot [] h = refl
has-slots slot (p ∷ ps) h = grind (arith, nat_tests, has-slots slot ps)

pub distinct-slots : (ps : List ℕ) → has 0 ps ≡ false → AreDistinct ps → AreDistinct (slots_of ps)
distinct-slots [] h d = tt
distinct-slots (p ∷ ps) h d = grind (arith, nat_tests, has-slots (p - 1) ps, distinct-slots ps)

pub length-slots : (ps : List ℕ) → length (slots_of ps) ≡ length ps
length-slots [] = refl
length-slots (p ∷ ps) = omega (arith, length-slots ps)

pub slots-push : (ps : List ℕ) (p : ℕ) → slots_of (ps ++ p ∷ []) ≡ slots_of ps ++ (p - 1) ∷ []
slots-push [] p = refl
slots-push (r ∷ ps) p = grind (arith, slots-push ps p)

pub slots-without : (b slot : ℕ) (ps : List ℕ) → b ≡ slot + 1 → has 0 ps ≡ false
    → slots_of (without b ps) ≡ without slot (slots_of ps)
slots-without b slot [] e h = refl
slots-without b slot (p ∷ ps) e h = grind (arith, nat_tests, slots-without b slot ps)

pub slots-renamed : (n b m slot : ℕ) (ps : List ℕ) → n ≡ m + 1 → b ≡ slot + 1 → has 0 ps ≡ false
    → slots_of (renamed n b ps) ≡ renamed m slot (slots_of ps)
slots-renamed n b m slot [] e e' h = refl
slots-renamed n b m slot (p ∷ ps) e e' h = grind (arith, nat_tests, slots-renamed n b m slot ps)

-- ---- rings

pub record AreIn (len : ℕ) (ps : List ℕ) : Type 0 where
  pub distinct : AreDistinct ps
  pub members : (p : ℕ) → has p ps ≡ (nat_lt 0 p && nat_lt p len)

pub ring_of : (N O ps : List ℕ) → length O ≡ length N → length N ≤ 2 ^ 32 → length ps ≡ length N - 1
    → Joined (link N) (link O) 0 ps 0 → AreIn (length N) ps → IsRing N O × (nodes N ≡ ps)
ring_of N O ps same fits len j i =
    let w : nodes N ≡ ps = subst (λ (n : ℕ). walk (link N) n 0 ≡ ps) len (walk_is (link N) (link O) 0 ps 0 j) in (
      record {
        same = same;
        fits = fits;
        joined = subst (λ (xs : List ℕ). Joined (link N) (link O) 0 xs 0) (sym w) j;
        distinct = subst (λ (xs : List ℕ). AreDistinct xs) (sym w) i.distinct;
        members = subst (λ (xs : List ℕ). (p : ℕ) → has p xs ≡ (nat_lt 0 p && nat_lt p (length N))) (sym w) i.members;
      },
      w,
    )

pub no_zero : (N O : List ℕ) → IsRing N O → has 0 (nodes N) ≡ false
no_zero N O r = grind (arith, nat_tests, r.members 0)

pub order_of : (N O : List ℕ) → IsRing N O → IsOrder (slots_of (nodes N))
order_of N O r = record {
  distinct = distinct-slots (nodes N) (no_zero N O r) r.distinct;
  members = λ slot. grind (arith, nat_tests, has-slots slot (nodes N), no_zero N O r, r.members (slot + 1), length-slots (nodes N), length-walk (link N) (length N - 1) 0);
}

pub added : (N O N' O' : List ℕ) → IsRing N O → 1 ≤ length N → length N' ≡ length N + 1 → length O' ≡ length N'
    → length N' ≤ 2 ^ 32 → PutsLast (length N) 0 (link N) (link O) (link N') (link O')
    → IsRing N' O' × (nodes N' ≡ nodes N ++ length N ∷ [])
added N O N' O' r some more same fits t =
    let b = length N in
    let ps = nodes N in
    let zero_out = no_zero N O r in
    let out : has b ps ≡ false = grind (arith, nat_tests, r.members b) in
    let here : Joined (link N') (link O') 0 (ps ++ b ∷ []) 0 =
    put_last b 0 (link N) (link O) (link N') (link O') t 0 ps (zero_out, r.distinct) zero_out (grind (arith, nat_tests)) r.joined in
    ring_of N' O' (ps ++ b ∷ []) same fits
    (omega (arith, length-push b ps, length-walk (link N) (length N - 1) 0)) here
    (record {
      distinct = distinct-push b ps out r.distinct;
      members = λ p. grind (arith, nat_tests, has-push p b ps, r.members p);
    })

-- the nodes that one is linked to are there
pub links_within : (N O : List ℕ) (b : ℕ) → IsRing N O → 0 < b → b < length N
    → (link O b < length N) × (link N b < length N)
links_within N O b r some within =
    let h : has b (nodes N) ≡ true = grind (arith, nat_tests, r.members b) in
    let before = before_in (link N) (link O) 0 (nodes N) 0 b r.joined h in
    let after = after_in (link N) (link O) 0 (nodes N) 0 b r.joined h in (
      grind (arith, nat_tests, r.members (link O b)),
      grind (arith, nat_tests, r.members (link N b)),
    )

module _ (N O N₁ O₁ : List ℕ) (b : ℕ) (r : IsRing N O) (some : 0 < b) (within : b < length N)
    (t : TakesOut b (link N) (link O) (link N₁) (link O₁)) where
  abbrev rest : List ℕ
  rest = without b (nodes N)

  there : has b (nodes N) ≡ true
  there = grind (arith, nat_tests, r.members b)

  rest_joined : Joined (link N₁) (link O₁) 0 rest 0
  rest_joined = taken_out b (link N) (link O) (link N₁) (link O₁) t 0 (nodes N) 0 there
      (no_zero N O r, r.distinct) (no_zero N O r) r.joined

  last_there : length N - 1 ≢ b → has (length N - 1) rest ≡ true
  last_there apart =
      grind (arith, nat_tests, has-without (length N - 1) b (nodes N), r.members (length N - 1))

  pub last_can_move : length N₁ ≡ length N → length N - 1 ≢ b → CanMoveTo (length N - 1) b N₁ O₁
  last_can_move same apart =
      let last = length N - 1 in
      let x = link O₁ last in
      let y = link N₁ last in
      let before = before_in (link N₁) (link O₁) 0 rest 0 last rest_joined (last_there apart) in
      let after = after_in (link N₁) (link O₁) 0 rest 0 last rest_joined (last_there apart) in
      record {
        before = grind (arith, nat_tests, has-without x b (nodes N), r.members x);
        before_apart = λ e. grind (arith, nat_tests, has-without x b (nodes N), r.members x);
        after = grind (arith, nat_tests, has-without y b (nodes N), r.members y);
        after_apart = λ e. grind (arith, nat_tests, has-without y b (nodes N), r.members y);
      }

  abbrev moved_rest : List ℕ
  moved_rest = renamed (length N - 1) b rest

  out_of_rest : has b rest ≡ false
  out_of_rest = grind (arith, nat_tests, has-without b b (nodes N))

  zero_out : has 0 rest ≡ false
  zero_out = grind (arith, nat_tests, has-without 0 b (nodes N), no_zero N O r)

  module _ (N₂ O₂ : List ℕ) (m : MovesTo (length N - 1) b N₁ O₁ N₂ O₂) where
    moved_joined : (length N - 1 ≡ b) ⊎ (length N - 1 ≢ b) → Joined (link N₂) (link O₂) 0 moved_rest 0
    moved_joined (inl e) =
        let w : moved_rest ≡ rest = renamed-lacking (length N - 1) b rest
        (subst (λ (n : ℕ). has n rest ≡ false) (sym e) out_of_rest) in
        let s = m.stays e in
        rw (w, s.0, s.1) rest_joined
    moved_joined (inr e) =
        moved (length N - 1) b (link N₁) (link O₁) (link N₂) (link O₂) (m.moves e) 0 rest 0
        (last_there e) (zero_out, distinct-without b (nodes N) r.distinct) zero_out
        (grind (arith, nat_tests, out_of_rest)) (λ z. grind (arith, nat_tests)) rest_joined

    others_left : (p : ℕ) → has p moved_rest ≡ (nat_lt 0 p && nat_lt p (length N - 1))
    others_left p =
        let last = length N - 1 in
        grind (
          arith,
          nat_tests,
          has-renamed p last b rest,
          has-without p b (nodes N),
          has-without last b (nodes N),
          has-without b b (nodes N),
          r.members p,
          r.members last,
        )

    pub removed : (N' O' : List ℕ) → length N' ≡ length N - 1 → length O' ≡ length N'
        → ((q : ℕ) → q < length N - 1 → link N' q ≡ link N₂ q)
        → ((q : ℕ) → q < length N - 1 → link O' q ≡ link O₂ q)
        → IsRing N' O' × (nodes N' ≡ moved_rest)
    removed N' O' len same newer older =
        let counted : length moved_rest ≡ length N' - 1 =
        omega (
          arith,
          length-renamed (length N - 1) b rest,
          length-without b (nodes N) there r.distinct,
          length-walk (link N) (length N - 1) 0,
        ) in
        let j = still_joined (link N₂) (link O₂) (link N') (link O') 0 moved_rest 0
        (λ q h. newer q (grind (arith, nat_tests, others_left q)))
        (λ q h. older q (grind (arith, nat_tests, others_left q)))
        (older 0 (omega arith)) (moved_joined (cases_eq (length N - 1) b)) in
        ring_of N' O' moved_rest same (omega (arith, r.fits)) counted j (record {
          distinct = distinct-renamed (length N - 1) b rest out_of_rest
              (distinct-without b (nodes N) r.distinct);
          members = λ p. rw len (others_left p);
        })

    pub slots_left : slots_of moved_rest ≡ order_without (b - 1) (slots_of (nodes N))
    slots_left =
        let slots = slots_of (nodes N) in
        let len : length slots - 1 ≡ length N - 2 =
        omega (arith, length-slots (nodes N), length-walk (link N) (length N - 1) 0) in
        slots-renamed (length N - 1) b (length N - 2) (b - 1) rest (omega arith) (omega arith) zero_out
        ∙ ap (λ (xs : List ℕ). renamed (length N - 2) (b - 1) xs)
        (slots-without b (b - 1) (nodes N) (omega arith) (no_zero N O r))
        ∙ ap (λ (n : ℕ). renamed n (b - 1) (without (b - 1) slots)) (sym len)
