-- Which flows are kept: a test is called for the last one, which then goes first or is taken away, as often as there are
-- flows.
use Rattle.std.proofs.Common.{◌≡◌, ◌∙◌, ℕ, suc, ◌+◌, ◌-◌, ◌<◌, Bool, true, false, List, [], ◌∷◌, ◌++◌}
use Rattle.std.proofs.Common.{drop, get_or, is_some, length, option_map, reverse, take, Option, Some, None}
use Rattle.std.proofs.Common.{append-nil, append_assoc, drop_of_length-le, length-append, refl, ap, sym, subst, arith}
use Rattle.std.proofs.Retain.{answers_push, picked_push_false, picked_push_true}
use Rattle.std.proofs.Rotate.{heads}
use Rattle.std.proofs.lemmas.Fn.{called}
use Rattle.std.proofs.lemmas.List.{length-drop, length-reverse, reverse-append}
use Rattle.std.specs.Cmp.{IsEquivalence}
use Rattle.std.specs.Fn.{Called}
use Rattle.std.specs.List.{AllByRecursion, IsDistinct, items_where_true}
use Rattle.std.specs.List.Retain.{IsFiltered, ReturnsInTurn}
use Rattle.std.specs.Map.{keys_of, lookup_entry, remove_entry}
use Rattle.lru.proofs.Pairs.{cut_end, last_of_push}
use Rattle.lru.specs.LruCache.{last_entry, promoted}
use Rattle.tcp_streams.specs.declared.flow.Flow.{Flow}
use Rattle.tcp_streams.specs.Flows.{TestedAt}
use denote.Param.Members.{Mut}
use denote.Ref.{Bor}

-- ---- the last entry

pub some_shown : {A B : Type 0} (shows : A → B) (o : Option A) → is_some (option_map shows o) ≡ true → is_some o ≡ true
some_shown shows None h = h
some_shown shows (Some x) h = refl

module _ {K X : Type 0} (same : K → K → Bool) (laws : IsEquivalence same) where
  -- entries that end with this one, which has another key than those before it
  record EndsWith (e : K × X) (es : List (K × X)) : Type 0 where
    before : List (K × X)
    parts : es ≡ before ++ e ∷ []
    apart : AllByRecursion (λ k. same e.0 k ≡ false) (keys_of before)
    distinct : IsDistinct same (keys_of before)

  others_apart : (k : K) (before : List (K × X)) (e : K × X)
      → AllByRecursion (λ j. same k j ≡ false) (keys_of (before ++ e ∷ []))
      → AllByRecursion (λ j. same k j ≡ false) (keys_of before) × (same e.0 k ≡ false)
  others_apart k [] e h = (tt, laws.symm e.0 k ∙ h.0)
  others_apart k (f ∷ before) e h = let on = others_apart k before e h.1 in ((h.0, on.0), on.1)

  last_apart : (before : List (K × X)) (e : K × X) → IsDistinct same (keys_of (before ++ e ∷ []))
      → AllByRecursion (λ k. same e.0 k ≡ false) (keys_of before) × IsDistinct same (keys_of before)
  unfolding IsDistinct
  last_apart [] e h = (tt, tt)
  last_apart (f ∷ before) e h =
      let on = last_apart before e h.1 in
      let here = others_apart f.0 before e h.0 in ((here.1, on.0), (here.0, on.1))

  ends_with : (e : K × X) (es : List (K × X)) → 0 < length es → Some e ≡ last_entry es
      → IsDistinct same (keys_of es) → EndsWith e es
  ends_with e es some is h =
      let cut = cut_end es some in
      let seen : Some e ≡ Some cut.1 = is ∙ ap last_entry cut.2 ∙ (last_of_push cut.0 cut.1).0 in
      let here : cut.1 ≡ e = cc in
      let parts = rw here at cut.2 in
      let others = last_apart cut.0 e (subst (λ fs. IsDistinct same (keys_of fs)) parts h) in
      record { before = cut.0; parts = parts; apart = others.0; distinct = others.1 }

  found_last : (before : List (K × X)) (e : K × X) → AllByRecursion (λ k. same e.0 k ≡ false) (keys_of before)
      → (lookup_entry (same e.0) (before ++ e ∷ []) ≡ Some e) × (remove_entry (same e.0) (before ++ e ∷ []) ≡ before)
  found_last [] e h = let here = laws.refl e.0 in (rw here refl, rw here refl)
  found_last (f ∷ before) e h = let on = found_last before e h.1 in (rw h.0 on.0, rw (h.0, on.1) refl)

  -- the last one goes first
  promotes_last : (e : K × X) (es : List (K × X)) (h : EndsWith e es) → promoted (same e.0) es ≡ e ∷ h.before
  promotes_last e es h = let found = found_last h.before e h.apart in rw (h.parts, found.0, found.1) refl

  -- it is taken away
  takes_last : (e : K × X) (es : List (K × X)) (h : EndsWith e es) → take (length es - 1) es ≡ h.before
  takes_last e es h = rw h.parts (last_of_push h.before e).1

  distinct_promoted : (e : K × X) (es : List (K × X)) (h : EndsWith e es) → IsDistinct same (keys_of (e ∷ h.before))
  unfolding IsDistinct
  distinct_promoted e es h = (h.apart, h.distinct)

-- ---- a test that was called for some

pub tested_at : {F K T : Type 0} (g : Mut F (Bor K × (Bor (Flow T) × Unit {0})) Bool) {f f' : F} {key : Bor K}
    {flow : Bor (Flow T)} {r v : Bool} → Called g f (key, (flow, tt)) r f' → r ≡ v
    → TestedAt g f (key.now, flow.now) v f'
tested_at g {key = key} {flow = flow} h is =
    record { key = key; flow = flow; shows = (refl, refl); called = called g h is }

module _ {K X P : Type 0} (same : K → K → Bool) (laws : IsEquivalence same) (R : P → K × X → Bool → P → Type 0)
    (p : P) (old : List (K × X)) where
  -- the test p was called for so many of the old entries, the last one first, and is now q; those for which it returned
  -- `true` stand before the others
  pub record IsTested (q : P) (now : List (K × X)) (tested : ℕ) : Type 0 where
    pub answers : List Bool
    pub count : length answers ≡ tested
    pub called : ReturnsInTurn R p answers (reverse old) q
    pub left : reverse now ≡ drop tested (reverse old) ++ items_where_true answers (reverse old)
    pub keys : IsDistinct same (keys_of now)

  pub none_tested : IsDistinct same (keys_of old) → IsTested p old 0
  none_tested h =
      record { answers = []; count = refl; called = refl; left = sym (append-nil (reverse old)); keys = h }

  module _ (q : P) (now : List (K × X)) (tested : ℕ) (h : IsTested q now tested) where
    pub all_tested : tested ≡ length old → IsFiltered R p (reverse old) (reverse now)
    all_tested all =
        let long = length-reverse old in
        let none : drop tested (reverse old) ≡ [] = drop_of_length-le (reverse old) {i = tested} (omega arith) in
        (h.answers, q, h.count ∙ all ∙ sym long, h.called, rw none at h.left)

    module _ (more : tested < length old) where
      some_left : 0 < length now
      some_left = omega (
        arith,
        ap length h.left,
        length-append (drop tested (reverse old)) (items_where_true h.answers (reverse old)),
        length-drop tested (reverse old),
        length-reverse old,
        length-reverse now,
      )

      pub last_left : is_some (last_entry now) ≡ true
      last_left = let cut = cut_end now some_left in rw cut.2 (ap is_some (last_of_push cut.0 cut.1).0)

      module _ (e : K × X) (is : Some e ≡ last_entry now) where
        ends : EndsWith same laws e now
        ends = ends_with same laws e now some_left is h.keys

        -- it is the next one of the old entries
        next : (e ≡ get_or (reverse old) (length h.answers) e) × (reverse ends.before
            ≡ drop (tested + 1) (reverse old) ++ items_where_true h.answers (reverse old))
        next =
            let reversed : reverse now ≡ e ∷ reverse ends.before =
            ap reverse ends.parts ∙ reverse-append ends.before (e ∷ []) in
            let head = heads (reverse old) (reverse ends.before) (items_where_true h.answers (reverse old)) e tested
            (omega (arith, length-reverse old)) (sym h.left ∙ reversed) in
            let after : suc tested ≡ tested + 1 = omega arith in
            (rw h.count head.0, rw after at head.1)

        within : length h.answers < length (reverse old)
        within = omega (arith, h.count, length-reverse old)

        pub one_kept : (u : P) → R q e true u → IsTested u (promoted (same e.0) now) (tested + 1)
        one_kept u returns = rw (promotes_last same laws e now ends) (record {
          answers = h.answers ++ true ∷ [];
          count = omega (arith, h.count, length-append h.answers (true ∷ []));
          called = answers_push R p q u h.answers (reverse old) e true within next.0 h.called returns;
          left = reverse-append (e ∷ []) ends.before ∙ ap (λ es. es ++ e ∷ []) next.1
              ∙ append_assoc (drop (tested + 1) (reverse old)) (items_where_true h.answers (reverse old)) (e ∷ [])
              ∙ ap (λ es. drop (tested + 1) (reverse old) ++ es)
              (ap (λ f. items_where_true h.answers (reverse old) ++ f ∷ []) next.0
              ∙ sym (picked_push_true h.answers (reverse old) e within));
          keys = distinct_promoted same laws e now ends;
        })

        pub one_dropped : (u : P) → R q e false u → IsTested u (take (length now - 1) now) (tested + 1)
        one_dropped u returns = rw (takes_last same laws e now ends) (record {
          answers = h.answers ++ false ∷ [];
          count = omega (arith, h.count, length-append h.answers (false ∷ []));
          called = answers_push R p q u h.answers (reverse old) e false within next.0 h.called returns;
          left = next.1 ∙ ap (λ es. drop (tested + 1) (reverse old) ++ es)
              (sym (picked_push_false h.answers (reverse old)));
          keys = ends.distinct;
        })
