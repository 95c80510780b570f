-- What a buffer that refuses overlaps stores of its fragments, and what it finds by it.
use Rattle.std.proofs.Common.{◌≡◌, ℕ, ◌+◌, ◌<◌, ◌≤◌, true, ◌⊎◌, ◌↔◌, inl, inr, zero, suc, Option, Some, None, is_some}
use Rattle.std.proofs.Common.{List, [], ◌∷◌, ◌++◌, length, get_or, unwrap_or, arith, sym, ap, ◌∙◌, refl, subst}
use Rattle.std.proofs.lemmas.Bool.{cases_Bool, cases_lt, false≢true}
use Rattle.std.proofs.lemmas.Grind.{same_number_lists}
use Rattle.std.proofs.lemmas.List.Elements.{Contains-append_left, Contains-push, Contains-push_cases}
use Rattle.std.proofs.lemmas.List.FromFn.{get_or-map-range_with_len, length-map-range_with_len}
use Rattle.std.proofs.lemmas.List.Sorted.{Contains-permutation, IsPermutation-insert, IsPermutation-sym}
use Rattle.std.specs.List.{Any, Contains, insert}
use Rattle.std.specs.Option.{option_or}
use Rattle.etherparse.specs.declared.defrag.stored_fragment.StoredFragment.{StoredFragment}
use Rattle.etherparse.specs.declared.defrag.stored_fragment.Location.TheVariants.{At, Clash, Repeat}
use Rattle.etherparse.specs.Fragments.{Fragment, start_of, end_of, named_end, greatest_end, Holds, Covered, Clashes}
use Rattle.etherparse.specs.Fragments.{IsRepeat, refusal_at}
use Rattle.etherparse.specs.IpDefragBuf.{Contents, Shows}
use Rattle.etherparse.specs.IpFragRange.{HasNumber, HasOffset, SharesWith}
use Rattle.etherparse.specs.StoredFragment.{HasBytes, IsLocation, KeepsAll, stored_of, reach_of}
use Rattle.etherparse.specs.FragmentBytes.{byte_at, kept_bytes}
use Rattle.etherparse.proofs.Disjoint.{agrees_with, byte_of_holder, covered_by, disjoint_push, greatest_of, named_by}
use Rattle.etherparse.proofs.Disjoint.{repeat_is_no_clash}
use Rattle.etherparse.proofs.StoredOrder.{listed_insert}
use Rattle.etherparse.proofs.Push.{byte_at-push, byte_of, byte_of-here, greatest_end-push, named_end-push, own_end}
use Rattle.etherparse.proofs.Push.{range_of}

-- one that isn't refused is short
pub end_short : (fs : List Fragment) (f : Fragment) → refusal_at (named_end fs) f ≡ None
    → end_of f ≤ 65535
end_short fs f none = grind arith

-- a stored fragment and its bytes determine the fragment
same_from_stored : (f g : Fragment) → stored_of g ≡ stored_of f
    → ((k : ℕ) → k < length g.bytes → get_or g.bytes k 0 ≡ get_or f.bytes k 0) → g ≡ f
same_from_stored f g e same =
    let start : start_of g ≡ start_of f = grind arith in
    let end : end_of g ≡ end_of f = grind arith in
    let offset : g.offset ≡ f.offset = omega (arith, start) in
    let more : g.more ≡ f.more = grind arith in
    let long : length g.bytes ≡ length f.bytes = omega (arith, start, end) in
    let bytes = same_number_lists g.bytes f.bytes long same in
    λ i. record { offset = offset i; more = more i; bytes = bytes i }

within_reach : (f : Fragment) (p : ℕ) → end_of f ≤ 65535 → p < 65535 → start_of f ≤ p
    → (f.more ≡ true → p < end_of f) → HasOffset (reach_of (stored_of f)) p
within_reach f p short low from before = grind arith

holds_from : (f : Fragment) (p b : ℕ) → byte_of f p ≡ Some b → Holds f p
holds_from f p b is = grind arith

joined : {P Q R : Type 0} → P ↔ Q → Q ↔ R → P ↔ R
joined a b = ((λ h. b.0 (a.0 h)), (λ h. a.1 (b.1 h)))

contains_cons : {X : Type 0} (xs : List X) (y x : X) → Contains (y ∷ xs) x
    → (y ≡ x) ⊎ Contains xs x
contains_cons xs y x (zero, lt, is) = inl is
contains_cons xs y x (suc k, lt, is) = inr (k, omega arith, is)

contains_more : {X : Type 0} (xs : List X) (y x : X) → Contains xs x → Contains (y ∷ xs) x
contains_more xs y x h = (suc h.0, omega (arith, h.1), h.2)

module _ {N : Type 0} (buf : Contents N) (ms : List StoredFragment) (fs : List Fragment) (f : Fragment)
    (shows : Shows buf fs) (keeps : KeepsAll ms fs) (none : refusal_at (named_end fs) f ≡ None) where
  abbrev m : StoredFragment
  m = stored_of f

  long : length buf.bytes ≡ unwrap_or (named_end fs) (greatest_end fs)
  long = grind (arith, length-map-range_with_len)

  -- bytes of a fragment that ends where the new one does are kept
  end_within : (g : Fragment) → Contains fs g → end_of g ≡ end_of f → end_of f ≤ length buf.bytes
  end_within g at same = grind (arith, agrees_with, greatest_of, long)

  byte_is : (g : Fragment) (k : ℕ) → Contains fs g → k < length g.bytes
      → start_of g + k < length buf.bytes → get_or buf.bytes (start_of g + k) 0 ≡ get_or g.bytes k 0
  byte_is g k at low fits =
      let p = start_of g + k in
      let here : Holds g p = (omega arith, omega arith) in
      ap (λ (xs : List ℕ). get_or xs p 0) shows.kept
      ∙ get_or-map-range_with_len (λ q. unwrap_or (byte_at fs q) 0) 0
      (unwrap_or (named_end fs) (greatest_end fs)) p p 0 (omega (arith, fits, long)) (omega arith)
      ∙ ap (λ (o : Option ℕ). unwrap_or o 0)
      (byte_of_holder fs g p keeps.disjoint at here ∙ byte_of-here g p here.0 here.1)
      ∙ ap (λ (n : ℕ). get_or g.bytes n 0) (omega arith)

  -- the fragment is a repeat where it is found with its bytes
  pub found_is_repeat : Contains ms m → HasBytes buf.bytes (start_of f) f.bytes → IsRepeat fs f
  found_is_repeat at has =
      let any = (keeps.stored_fragments m).0 at in
      let g = any.1 in
      let among : Contains fs g = (any.0, any.2, any.3) in
      let start : start_of g ≡ start_of f = grind arith in
      let end : end_of g ≡ end_of f = grind arith in
      let fits = has.fits in
      grind (arith, same_from_stored, byte_is)

  pub repeat_is_listed : IsRepeat fs f → Contains ms m
  repeat_is_listed at = (keeps.stored_fragments m).1 (at.0, f, at.1, at.2, refl)

  pub repeat_has_bytes : IsRepeat fs f → HasBytes buf.bytes (start_of f) f.bytes
  repeat_has_bytes at =
      let fits = end_within f at refl in
      record { fits = fits; same = λ k low. byte_is f k at low (omega (arith, low, fits)) }

  -- what is found as a clash is one
  listed_clash : Contains ms m → (HasBytes buf.bytes (start_of f) f.bytes → ⊥) → Clashes fs f
  listed_clash at other =
      let any = (keeps.stored_fragments m).0 at in
      let g = any.1 in
      let among : Contains fs g = (any.0, any.2, any.3) in
      let start : start_of g ≡ start_of f = grind arith in
      let end : end_of g ≡ end_of f = grind arith in
      let fits = end_within g among end in
      elim (cases_lt (start_of f) (end_of f)) [
        | inl some ↦ inl (
          (λ h. other (repeat_has_bytes h)),
          (
            start_of f,
            (omega arith, some),
            covered_by fs g (start_of f) among (omega (arith, start), omega (arith, some, end)),
          ),
        )
        | inr empty ↦ grind arith
      ]

  shared_clash : (Contains ms m → ⊥) → SharesWith buf.sections (reach_of m) → Clashes fs f
  shared_clash new shared =
      let p = shared.0 in
      let covered : Covered fs p = (shows.offsets p).0 shared.2 in
      elim (cases_lt p (end_of f)) [
        | inl low ↦ inl ((λ h. new (repeat_is_listed h)), (p, (shared.1.0, low), covered))
        | inr high ↦ grind arith
      ]

  pub clash_found : IsLocation ms buf.sections buf.bytes m f.bytes Clash → Clashes fs f
  clash_found (inl h) = listed_clash h.0 h.1
  clash_found (inr h) = shared_clash (h.0 keeps.listed) h.1

  pub repeat_found : IsLocation ms buf.sections buf.bytes m f.bytes Repeat → IsRepeat fs f
  repeat_found h = found_is_repeat h.0 h.1

  -- and one for which an index is found is none
  pub gap_found : (i : ℕ) → ((p : ℕ) → Covered fs p → p < 65535)
      → IsLocation ms buf.sections buf.bytes m f.bytes (At i) → Clashes fs f → ⊥
  gap_found i short location (inl h) =
      let own = h.1.1 in
      let end = end_short fs f none in
      location.2 (
        h.1.0,
        within_reach f h.1.0 end (omega (arith, own.1, end)) own.0 (λ t. own.1),
        (shows.offsets h.1.0).1 h.1.2,
      )
  gap_found i short location (inr h) =
      let p = h.1.0 in
      location.2 (
        p,
        within_reach f p (end_short fs f none) (short p h.1.2) (omega (arith, h.1.1))
            (λ t. absurd (false≢true (sym h.0 ∙ t))),
        (shows.offsets p).1 h.1.2,
      )

  -- one more stored fragment
  stored_push : (i : ℕ) (x : StoredFragment) → Contains (insert ms i m) x
      ↔ Any (λ g. stored_of g ≡ x) (fs ++ f ∷ [])
  stored_push i x = (
    (λ h. elim (contains_cons ms m x
        (Contains-permutation (insert ms i m) (m ∷ ms) x
        (IsPermutation-sym (m ∷ ms) (insert ms i m) (IsPermutation-insert ms i m)) h)) [
          | inl is ↦
              let last = Contains-push fs f in (last.0, f, last.1, last.2, is)
          | inr at ↦
              let any = (keeps.stored_fragments x).0 at in
              let left = Contains-append_left fs (f ∷ []) any.1 (any.0, any.2, any.3) in
              (left.0, any.1, left.1, left.2, any.4)
        ]),
    (λ h. Contains-permutation (m ∷ ms) (insert ms i m) x (IsPermutation-insert ms i m)
        (elim (Contains-push_cases fs f h.1 (h.0, h.2, h.3)) [
          | inl at ↦
              let old = (keeps.stored_fragments x).1 (at.0, h.1, at.1, at.2, h.4) in
              contains_more ms m x old
          | inr is ↦
              grind arith
        ])),
  )

  pub keeps_push : (i : ℕ) → ((p : ℕ) → Covered fs p → p < 65535)
      → IsLocation ms buf.sections buf.bytes m f.bytes (At i)
      → KeepsAll (insert ms i m) (fs ++ f ∷ [])
  keeps_push i short location = record {
    stored_fragments = stored_push i;
    listed = listed_insert ms m i keeps.listed location.0 (location.1 keeps.listed);
    disjoint = disjoint_push fs f keeps.disjoint none (gap_found i short location);
  }

  -- ---- the same fragment again

  named_again : IsRepeat fs f → named_end (fs ++ f ∷ []) ≡ named_end fs
  named_again at =
      named_end-push fs f
      ∙ elim (named_end fs) as (λ (o : Option ℕ). named_end fs ≡ o
      → option_or o (own_end f) ≡ o) [
        | Some e ↦ λ is. refl
        | None ↦ λ is. elim (cases_Bool f.more) [
          | inl t ↦ rw t refl
          | inr t ↦ absurd (false≢true (sym (ap is_some is) ∙ named_by fs f at t))
        ]
      ] refl

  greatest_again : IsRepeat fs f → greatest_end (fs ++ f ∷ []) ≡ greatest_end fs
  greatest_again at = omega (arith, greatest_end-push fs f, greatest_of fs f at)

  byte_again : IsRepeat fs f → (p : ℕ) → byte_at (fs ++ f ∷ []) p ≡ byte_at fs p
  byte_again at p = grind (arith, byte_at-push, byte_of_holder, holds_from)

  kept_again : IsRepeat fs f → kept_bytes (fs ++ f ∷ []) ≡ kept_bytes fs
  kept_again at = grind (arith, byte_again, named_again, greatest_again)

  any_again : (Q : Fragment → Type 0) → IsRepeat fs f → Any Q fs ↔ Any Q (fs ++ f ∷ [])
  any_again Q at = (
    (λ h. let left = Contains-append_left fs (f ∷ []) h.1 (h.0, h.2, h.3) in
        (left.0, h.1, left.1, left.2, h.4)),
    (λ h. elim (Contains-push_cases fs f h.1 (h.0, h.2, h.3)) [
      | inl k ↦ (k.0, h.1, k.1, k.2, h.4)
      | inr is ↦ (at.0, f, at.1, at.2, subst Q (sym is) h.4)
    ]),
  )

  pub shows_again : IsRepeat fs f → buf.stored_fragments ≡ Some ms → Shows buf (fs ++ f ∷ [])
  shows_again at is = record {
    ended = shows.ended ∙ sym (named_again at);
    kept = shows.kept ∙ sym (kept_again at);
    apart = shows.apart;
    numbers = λ n. joined (shows.numbers n) (any_again (λ g. HasNumber (range_of g) n) at);
    offsets = λ p. joined (shows.offsets p) (any_again (λ g. Holds g p) at);
    stored_fragments = rw is record {
      stored_fragments = λ x. joined (keeps.stored_fragments x) (any_again (λ g. stored_of g ≡ x) at);
      listed = keeps.listed;
      disjoint = disjoint_push fs f keeps.disjoint none
          (repeat_is_no_clash fs f keeps.disjoint none at);
    };
  }
