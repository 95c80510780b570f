-- Fragments of which one has a changed word make texts that differ in this word at most.
use Rattle.std.proofs.Common.{◌≡◌, ◌∙◌, ap, refl, subst, sym, inl, inr, ◌⊎◌, ℕ, ◌+◌, ◌-◌, ◌%◌, ◌<◌, ◌≤◌, [], true}
use Rattle.std.proofs.Common.{false, Option, Some, None, unwrap_or, List, ◌∷◌, ◌++◌, length, get_or, take, drop, arith}
use Rattle.std.proofs.Common.{append_assoc, length-append}
use Rattle.std.specs.Prelude.{All}
use Rattle.std.specs.List.{AllZip, list_any}
use Rattle.std.specs.Option.{option_or}
use Rattle.std.proofs.lemmas.Bool.{cases_Bool, cases_eq, cases_lt, false_from_ne_true, or_parts, true≢false}
use Rattle.std.proofs.lemmas.Bool.Decides.{nat_tests}
use Rattle.std.proofs.lemmas.List.{get_or-append_right, get_or_append_left, get_or-drop, get_or-take, get_or_past}
use Rattle.std.proofs.lemmas.List.{length-drop, length-take, take-append-drop}
use Rattle.std.proofs.lemmas.List.Elements.{recursion_from_All}
use Rattle.std.proofs.lemmas.List.Folds.{Any-from_list_any, list_any-from_Any}
use Rattle.std.proofs.lemmas.List.FromFn.{fill_by_all, get_or-map-range_with_len, length-map-range_with_len}
use Rattle.etherparse.specs.base.Bytes.{IsBytes}
use Rattle.etherparse.specs.base.Sum.{total}
use Rattle.etherparse.specs.Fragments.{AgreesWith, Fragment, Holds, end_of, holds, named_end, start_of}
use Rattle.etherparse.specs.FragmentBytes.{byte_at, text_of}
use Rattle.etherparse.proofs.ListElements.{AnyOf, AnyOf-from_Any, AnyOf-right, Any-from_AnyOf}
use Rattle.etherparse.proofs.Push.{byte_of, byte_of-here}
use Rattle.netlines.specs.ChangedWord.{DifferAt, DifferInOneWord}
use Rattle.netlines.proofs.CoverLemmas.{AnyOf-is, AnyOf-of, IsIn, all-in}
use Rattle.netlines.proofs.ShapeLemmas.{SameShape, own_shape, same_holds, same_named, same_start}

-- ---- texts that agree but at one word

same_list : (xs ys : List ℕ) → length xs ≡ length ys
    → ((k : ℕ) → k < length xs → get_or xs k 0 ≡ get_or ys k 0) → xs ≡ ys
same_list xs ys size same =
    fill_by_all (λ k. get_or ys k 0) xs (length ys) 0 size (λ k below. same k (omega arith))
    ∙ sym (fill_by_all (λ k. get_or ys k 0) ys (length ys) 0 refl (λ k below. refl))

-- a word has the bytes of its number
same_word : (xs ys : List ℕ) → length xs ≡ length ys → length xs ≤ 2 → IsBytes xs → IsBytes ys
    → total xs ≡ total ys → xs ≡ ys
unfolding total
same_word [] [] size short bytes others same = refl
same_word (a ∷ []) (c ∷ []) size short bytes others same = grind arith
same_word (a ∷ b ∷ []) (c ∷ d ∷ []) size short bytes others same =
    let first : a ≡ c = omega (arith, bytes 1, others 1) in
    let second : b ≡ d = omega (arith, bytes 1, others 1) in
    λ i. first i ∷ second i ∷ []
same_word [] (c ∷ ys) size short bytes others same = absurd (omega arith)
same_word (a ∷ xs) [] size short bytes others same = absurd (omega arith)
same_word (a ∷ []) (c ∷ d ∷ ys) size short bytes others same = absurd (omega arith)
same_word (a ∷ b ∷ xs) (c ∷ []) size short bytes others same = absurd (omega arith)
same_word (a ∷ b ∷ e ∷ xs) ys size short bytes others same = absurd (omega arith)
same_word (a ∷ b ∷ []) (c ∷ d ∷ e ∷ ys) size short bytes others same = absurd (omega arith)

-- they agree at each offset but these two
abbrev pub AgreeBut : (position : ℕ) → List ℕ → List ℕ → Type 0
AgreeBut position xs ys = (k : ℕ) → (k ≡ position → ⊥) → (k ≡ position + 1 → ⊥)
    → get_or xs k 0 ≡ get_or ys k 0

module _ (position : ℕ) (xs ys : List ℕ) (even : position % 2 ≡ 0) (size : length xs ≡ length ys)
    (agree : AgreeBut position xs ys) (bytes : IsBytes (take 2 (drop position xs)))
    (others : IsBytes (take 2 (drop position ys))) where
  word_of : List ℕ → List ℕ
  word_of zs = take 2 (drop position zs)

  parts_of : (zs : List ℕ)
      → take position zs ++ take 2 (drop position zs) ++ drop 2 (drop position zs) ≡ zs
  parts_of zs = grind (arith, append_assoc, take-append-drop)

  same_prefix : take position ys ≡ take position xs
  same_prefix = grind (arith, same_list, length-take, get_or-take)

  same_rest : drop 2 (drop position ys) ≡ drop 2 (drop position xs)
  same_rest = same_list (drop 2 (drop position ys)) (drop 2 (drop position xs))
      (omega (
        arith,
        length-drop 2 (drop position ys),
        length-drop position ys,
        length-drop 2 (drop position xs),
        length-drop position xs,
        size,
      ))
      (λ k below. at ys k ∙ sym (agree (position + (2 + k)) (λ e. omega arith) (λ e. omega arith))
      ∙ sym (at xs k)) where
        at : (zs : List ℕ) (k : ℕ)
            → get_or (drop 2 (drop position zs)) k 0 ≡ get_or zs (position + (2 + k)) 0
        at zs k = get_or-drop 2 (drop position zs) k 0 ∙ get_or-drop position zs (2 + k) 0

  word_len : (zs : List ℕ) → length zs ≡ length xs
      → length (take 2 (drop position zs)) ≡ length (take 2 (drop position xs))
  word_len zs same = omega (
    arith,
    length-take 2 (drop position zs),
    length-drop position zs,
    length-take 2 (drop position xs),
    length-drop position xs,
  )

  no_rest : length xs ≡ position + 1 → drop 2 (drop position xs) ≡ []
  no_rest last = same_list (drop 2 (drop position xs)) []
      (omega (arith, length-drop 2 (drop position xs), length-drop position xs))
      (λ k below. absurd
      (omega (arith, length-drop 2 (drop position xs), length-drop position xs)))

  word_size : position < length xs → (length (take 2 (drop position xs)) ≡ 2)
      ⊎ ((length (take 2 (drop position xs)) ≡ 1) × (drop 2 (drop position xs) ≡ []))
  word_size within = grind (arith, length-take, length-drop, no_rest)

  pub differ_at : DifferAt position xs ys
  differ_at =
      let old = take 2 (drop position xs) in
      let new = take 2 (drop position ys) in
      let rest = drop 2 (drop position xs) in
      let ys_are : ys ≡ take position xs ++ new ++ rest =
      sym (parts_of ys) ∙ (λ i. same_prefix i ++ new ++ same_rest i) in
      elim (cases_lt position (length xs)) [
        | inr past ↦ inl (same_list xs ys size
            (λ k below. agree k (λ e. omega arith) (λ e. omega arith)))
        | inl within ↦ elim (cases_eq (total old) (total new)) [
          | inl same ↦
              let words : old ≡ new =
              same_word old new (sym (word_len ys (sym size)))
              (omega (arith, length-take 2 (drop position xs))) bytes
              others same in
              inl (sym (parts_of xs) ∙ ap (λ (w : List ℕ). take position xs ++ w ++ rest) words
              ∙ sym ys_are)
          | inr differ ↦
              let words : DifferInOneWord xs ys = record {
                prefix = take position xs;
                old_word = old;
                new_word = new;
                rest = rest;
                old_is = sym (parts_of xs);
                new_is = ys_are;
                aligned = omega (arith, length-take position xs, even);
                size = word_size within;
                same_size = word_len ys (sym size);
                old_bytes = bytes;
                new_bytes = others;
                differ = differ;
              } in
              inr (words, omega (arith, length-take position xs))
        ]
      ]

-- ---- fragments

agree_but_word : (xs ys : List ℕ) (words : DifferInOneWord xs ys)
    → AgreeBut (length words.prefix) xs ys
agree_but_word xs ys words k not_first not_second =
    ap (λ (zs : List ℕ). get_or zs k 0) words.old_is
    ∙ elim (cases_lt k (length words.prefix)) as
    (λ _. get_or (words.prefix ++ words.old_word ++ words.rest) k 0
    ≡ get_or (words.prefix ++ words.new_word ++ words.rest) k 0) [
      | inl low ↦ before words.old_word low ∙ sym (before words.new_word low)
      | inr high ↦ following words.old_word refl high ∙ sym (following words.new_word words.same_size high)
    ]
    ∙ sym (ap (λ (zs : List ℕ). get_or zs k 0) words.new_is) where
      before : (word : List ℕ) → k < length words.prefix
          → get_or (words.prefix ++ word ++ words.rest) k 0 ≡ get_or words.prefix k 0
      before word low =
          get_or_append_left (words.prefix ++ word) words.rest 0 k
          (omega (arith, length-append words.prefix word))
          ∙ get_or_append_left words.prefix word 0 k low

      short : length words.old_word ≤ 2
      short = elim words.size [ inl two ↦ omega arith | inr one ↦ omega (arith, one.0) ]

      following : (word : List ℕ) → length word ≡ length words.old_word → length words.prefix ≤ k
          → get_or (words.prefix ++ word ++ words.rest) k 0
          ≡ get_or words.rest (k - (length words.prefix + length words.old_word)) 0
      following word same high =
          get_or-append_right (words.prefix ++ word) words.rest
          (length words.prefix + length words.old_word) k 0
          (omega (arith, length-append words.prefix word, same))
          (let size = short in
          let not_here : (k ≡ length words.prefix) → ⊥ = not_first in
          let not_there : (k ≡ length words.prefix + 1) → ⊥ = not_second in
          omega (arith, size, not_here, not_there))

text_len : (fs : List Fragment) → length (text_of fs) ≡ unwrap_or (named_end fs) 0
text_len fs = grind (arith, length-map-range_with_len)

text_at : (fs : List Fragment) (k : ℕ) → k < unwrap_or (named_end fs) 0
    → get_or (text_of fs) k 0 ≡ unwrap_or (byte_at fs k) 0
text_at fs k below = grind (arith, get_or-map-range_with_len)

same_byte_at : (fs gs : List Fragment) (p : ℕ) → AllZip (λ f g. byte_of f p ≡ byte_of g p) fs gs
    → byte_at fs p ≡ byte_at gs p
same_byte_at [] [] p all = refl
same_byte_at [] (g ∷ gs) p all = absurd all
same_byte_at (f ∷ fs) [] p all = absurd all
same_byte_at (f ∷ fs) (g ∷ gs) p all = grind (arith, same_byte_at fs gs p all.1)

-- one fragment instead of another
pub one_changed : (R : Fragment → Fragment → Type 0) → ((h : Fragment) → R h h)
    → (before following : List Fragment) (f g : Fragment) → R f g
    → AllZip R (before ++ f ∷ following) (before ++ g ∷ following)
one_changed R own [] following f g r = (r, all_own following) where
  all_own : (hs : List Fragment) → AllZip R hs hs
  all_own [] = tt
  all_own (h ∷ hs) = (own h, all_own hs)
one_changed R own (h ∷ before) following f g r = (own h, one_changed R own before following f g r)

-- ---- what later fragments cover

none_at : (ks : List Fragment) (p : ℕ) → list_any (λ k. holds k p) ks ≡ false
    → byte_at ks p ≡ None
none_at [] p none = refl
none_at (k ∷ ks) p none =
    let parts = or_parts (holds k p) (list_any (λ l. holds l p) ks) none in
    rw (none_at ks p parts.1, parts.0) refl

some_at : (ks : List Fragment) (p : ℕ) → AnyOf (λ k. holds k p ≡ true) ks
    → (b : ℕ) × (byte_at ks p ≡ Some b)
some_at [] p h = absurd h
some_at (k ∷ ks) p (inr h) = let r = some_at ks p h in (r.0, rw r.1 refl)
some_at (k ∷ ks) p (inl h) =
    elim (byte_at ks p) as (λ (o : Option ℕ). (b : ℕ) × (option_or o (byte_of k p) ≡ Some b))
    [ Some b ↦ (b, refl) | None ↦ (get_or k.bytes (p - start_of k) 0, rw h refl) ]

covered_alike : (before following : List Fragment) (f g : Fragment) (p : ℕ)
    → AnyOf (λ k. holds k p ≡ true) following
    → byte_at (before ++ f ∷ following) p ≡ byte_at (before ++ g ∷ following) p
covered_alike [] following f g p covered = let b = some_at following p covered in rw b.1 refl
covered_alike (k ∷ before) following f g p covered =
    ap (λ (o : Option ℕ). option_or o (byte_of k p)) (covered_alike before following f g p covered)

own_byte : (before following : List Fragment) (f : Fragment) (p b : ℕ) → byte_at following p ≡ None
    → byte_of f p ≡ Some b → byte_at (before ++ f ∷ following) p ≡ Some b
own_byte [] following f p b uncovered own = rw (uncovered, own) refl
own_byte (k ∷ before) following f p b uncovered own =
    rw (own_byte before following f p b uncovered own) refl

module _ (before following : List Fragment) (f g : Fragment) (same : SameShape f g)
    (words : DifferInOneWord f.bytes g.bytes)
    (agrees : All (AgreesWith (before ++ f ∷ following)) (before ++ f ∷ following)) where
  abbrev position : ℕ
  position = start_of f + length words.prefix

  same_at : (p : ℕ) → (p ≡ position → ⊥) → (p ≡ position + 1 → ⊥) → byte_of f p ≡ byte_of g p
  same_at p not_first not_second = grind (arith, same_start, same_holds, agree_but_word)

  abbrev with : Fragment → List Fragment
  with x = before ++ x ∷ following

  abbrev len : ℕ
  len = unwrap_or (named_end (with f)) 0

  same_ends : named_end (with f) ≡ named_end (with g)
  same_ends = grind (arith, same_named, one_changed, own_shape)

  same_len : len ≡ unwrap_or (named_end (with g)) 0
  same_len = ap (λ (o : Option ℕ). unwrap_or o 0) same_ends

  texts_len : length (text_of (with f)) ≡ length (text_of (with g))
  texts_len = text_len (with f) ∙ same_len ∙ sym (text_len (with g))

  alike : (k : ℕ) → byte_at (with f) k ≡ byte_at (with g) k
      → get_or (text_of (with f)) k 0 ≡ get_or (text_of (with g)) k 0
  alike k is = elim (cases_lt k len) [
    | inl below ↦ text_at (with f) k below ∙ ap (λ (o : Option ℕ). unwrap_or o 0) is
        ∙ sym (text_at (with g) k (omega (arith, same_len)))
    | inr past ↦ get_or_past (text_of (with f)) k 0 (omega (arith, text_len (with f)))
        ∙ sym (get_or_past (text_of (with g)) k 0
        (omega (arith, text_len (with g), same_len)))
  ]

  agree_but : AgreeBut position (text_of (with f)) (text_of (with g))
  agree_but k not_first not_second = alike k (same_byte_at (with f) (with g) k
      (one_changed (λ x y. byte_of x k ≡ byte_of y k) (λ h. refl) before following f g
      (same_at k not_first not_second)))

  even : position % 2 ≡ 0
  even = omega (arith, words.aligned)

  -- no fragment ends within the word but at the end of the message
  agreed : (k : Fragment) → IsIn k (with f) → AgreesWith (with f) k
  agreed k in' = all-in (AgreesWith (with f)) (with f) k
      (recursion_from_All (AgreesWith (with f)) (with f) agrees) in'

  not_within : (k : Fragment) → IsIn k (with f) → end_of k ≡ position + 1 → position + 1 < len → ⊥
  not_within k in' ends below = grind (arith, agreed, even)

  in_following : (k : Fragment) → IsIn k following → IsIn k (with f)
  in_following k in' = AnyOf-right (λ x. x ≡ k) before (f ∷ following) (inr in')

  in_here : IsIn f (with f)
  in_here = AnyOf-right (λ x. x ≡ f) before (f ∷ following) (inl refl)

  held_positions : (k : Fragment) (p : ℕ) → holds k p ≡ true → Holds k p
  held_positions k p t = grind (arith, nat_tests)

  held_if : (k : Fragment) (p : ℕ) → Holds k p → holds k p ≡ true
  held_if k p h = grind (arith, nat_tests)

  -- a later fragment that covers the word's first byte covers all of it,
  covered_whole : list_any (λ k. holds k position) following ≡ true
      → text_of (with f) ≡ text_of (with g)
  covered_whole t =
      let first = AnyOf-from_Any (λ k. holds k position ≡ true) following
      (Any-from_list_any (λ k. holds k position) following t) in
      let k = AnyOf-is (λ k. holds k position ≡ true) following first in
      let here = held_positions k.0 position k.2 in
      same_list (text_of (with f)) (text_of (with g)) texts_len (λ q below.
      elim (cases_eq q position) [
        | inl is ↦ alike q (covered_alike before following f g q
            (subst (λ (p : ℕ). AnyOf (λ x. holds x p ≡ true) following) (sym is) first))
        | inr not_first ↦ elim (cases_eq q (position + 1)) [
          | inr not_second ↦ agree_but q not_first not_second
          | inl is ↦
              let inside : position + 1 < len = omega (arith, text_len (with f), below, is) in
              let far : position + 1 < end_of k.0 =
              elim (cases_eq (end_of k.0) (position + 1)) [
                | inl ends ↦ absurd (not_within k.0 (in_following k.0 k.1) ends inside)
                | inr other ↦ omega (arith, here.1, other)
              ] in
              let second : AnyOf (λ x. holds x q ≡ true) following =
              AnyOf-of (λ x. holds x q ≡ true) following k.0 k.1
              (held_if k.0 q (omega (arith, here.0, is), omega (arith, far, is))) in
              alike q (covered_alike before following f g q second)
        ]
      ])

  -- and else its bytes are those of the fragment
  module _ (uncovered : list_any (λ k. holds k position) following ≡ false) (x : Fragment)
      (word : List ℕ) (x_is : x.bytes ≡ words.prefix ++ word ++ words.rest)
      (size : length word ≡ length words.old_word) (bytes : IsBytes word)
      (start : start_of x ≡ start_of f) (ends : unwrap_or (named_end (with x)) 0 ≡ len) where
    word_at : (i : ℕ) → i < length word → get_or x.bytes (length words.prefix + i) 0 ≡ get_or word i 0
    word_at i below = grind (arith, get_or_append_left, length-append, get_or-append_right)

    x_end : end_of x ≡ start_of f + length words.prefix + length word + length words.rest
    x_end = grind (arith, length-append)

    small_at : (i : ℕ) → i < length word → list_any (λ k. holds k (position + i)) following ≡ false
        → position + i < len → get_or (text_of (with x)) (position + i) 0 < 256
    small_at i below none inside =
        let back : (position + i) - start_of x ≡ length words.prefix + i = omega (arith, start) in
        let own : byte_of x (position + i) ≡ Some (get_or word i 0) =
        byte_of-here x (position + i) (omega (arith, start)) (omega (arith, x_end))
        ∙ ap (λ (k : ℕ). Some (get_or x.bytes k 0)) back ∙ ap (λ (b : ℕ). Some b) (word_at i below) in
        subst (λ (b : ℕ). b < 256)
        (sym (text_at (with x) (position + i) (omega (arith, ends, inside))
        ∙ ap (λ (o : Option ℕ). unwrap_or o 0)
        (own_byte before following x (position + i) (get_or word i 0)
        (none_at following (position + i) none) own))) (bytes i)

    -- none of the later ones begins within the word
    second_open : list_any (λ k. holds k (position + 1)) following ≡ false
    second_open = false_from_ne_true (list_any (λ k. holds k (position + 1)) following) (λ t.
        let k = AnyOf-is (λ k. holds k (position + 1) ≡ true) following
        (AnyOf-from_Any (λ k. holds k (position + 1) ≡ true) following
        (Any-from_list_any (λ k. holds k (position + 1)) following t)) in
        let here = held_positions k.0 (position + 1) k.2 in
        let first : holds k.0 position ≡ true =
        held_if k.0 position (omega (arith, here.0, even), omega (arith, here.1)) in
        true≢false (sym (list_any-from_Any (λ k. holds k position) following
        (Any-from_AnyOf (λ k. holds k position ≡ true) following
        (AnyOf-of (λ k. holds k position ≡ true) following k.0 k.1 first))) ∙ uncovered))

    two_bytes : position + 1 < len → length words.old_word ≡ 2
    two_bytes inside = grind (arith, length-append, not_within, in_here)

    past : (k : ℕ) → len ≤ k → get_or (text_of (with x)) k 0 < 256
    past k from = grind (arith, get_or_past, text_len)

    some : 1 ≤ length words.old_word
    some = elim words.size [ inl two ↦ omega arith | inr one ↦ omega (arith, one.0) ]

    text_word : IsBytes (take 2 (drop position (text_of (with x))))
    text_word i =
        let text = text_of (with x) in
        let read : (k : ℕ) → k < 2 → get_or (take 2 (drop position text)) k 0
        ≡ get_or text (position + k) 0 =
        λ k low. get_or-take 2 (drop position text) k 0 low ∙ get_or-drop position text k 0 in
        elim (cases_lt i 2) [
          | inr high ↦ subst (λ (b : ℕ). b < 256)
              (sym (get_or_past (take 2 (drop position text)) i 0
              (omega (arith, length-take 2 (drop position text))))) (omega arith)
          | inl low ↦ subst (λ (b : ℕ). b < 256) (sym (read i low))
              (elim (cases_lt (position + i) len) [
                | inr from ↦ past (position + i) from
                | inl inside ↦ elim (cases_eq i 0) [
                  | inl first ↦ small_at i (omega (arith, some, size, first))
                      (ap (λ (k : ℕ). list_any (λ y. holds y (position + k)) following) first
                      ∙ zero_open) inside
                  | inr second ↦
                      let one : i ≡ 1 = omega (arith, low, second) in
                      small_at i
                      (let two = two_bytes (omega (arith, inside, one)) in
                      omega (arith, two, size, one))
                      (ap (λ (k : ℕ). list_any (λ y. holds y (position + k)) following) one
                      ∙ second_open) inside
                ]
              ])
        ] where
          zero_open : list_any (λ y. holds y (position + 0)) following ≡ false
          zero_open =
              let none : position + 0 ≡ position = omega arith in
              ap (λ (p : ℕ). list_any (λ y. holds y p) following) none ∙ uncovered

  pub texts_differ : DifferAt position (text_of (with f)) (text_of (with g))
  texts_differ = elim (cases_Bool (list_any (λ k. holds k position) following)) [
    | inl t ↦ inl (covered_whole t)
    | inr t ↦ differ_at position (text_of (with f)) (text_of (with g)) even texts_len agree_but
        (text_word t f words.old_word words.old_is refl words.old_bytes refl refl)
        (text_word t g words.new_word words.new_is words.same_size words.new_bytes
        (sym (same_start f g same)) (sym same_len))
  ]
