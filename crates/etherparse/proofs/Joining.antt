-- A datagram that is complete, fragment by fragment.
use Rattle.std.proofs.Common.{◌≡◌, ℕ, zero, suc, ◌+◌, ◌-◌, ◌<◌, ◌≤◌, inl, inr, Option, Some, None, IsSome, List, []}
use Rattle.std.proofs.Common.{◌∷◌, ◌++◌, length, map, get_or, unwrap_or, arith, ap, ◌∙◌, refl, drop}
use Rattle.std.proofs.lemmas.Bool.{cases_lt, false≢true}
use Rattle.std.proofs.lemmas.Grind.{same_number_lists}
use Rattle.std.proofs.lemmas.List.{get_or-drop, get_or_append_left, get_or-append_right, length-append, length-drop}
use Rattle.std.proofs.lemmas.List.Elements.{All-cons, All-nil}
use Rattle.std.proofs.lemmas.List.FromFn.{get_or-map-range_with_len, length-map-range_with_len}
use Rattle.std.specs.List.{All, AllByRecursion, AllPairs, Contains, range_with_len}
use Rattle.etherparse.specs.Fragments.{Fragment, start_of, end_of, named_end, Holds, Covered, AreDisjoint}
use Rattle.etherparse.specs.Joined.{AreInRow, IsJoined, NoOverlap, joined_bytes}
use Rattle.etherparse.specs.FragmentBytes.{byte_at}
use Rattle.etherparse.proofs.AcceptedLists.{accepted_are_disjoint}
use Rattle.etherparse.proofs.Disjoint.{byte_of_holder, greatest_named}
use Rattle.etherparse.proofs.Push.{byte_of-here}

nothing : (xs : List ℕ) → length xs ≡ 0 → xs ≡ []
nothing [] h = refl
nothing (x ∷ xs) h = absurd (omega arith)

-- ---- fragments in a row

all_weaker : (high low : ℕ) → low ≤ high → (parts : List Fragment)
    → AllByRecursion (λ f. high ≤ start_of f) parts → AllByRecursion (λ f. low ≤ start_of f) parts
all_weaker high low le [] h = tt
all_weaker high low le (f ∷ parts) h = (omega (arith, h.0, le), all_weaker high low le parts h.1)

all_after : (location : ℕ) (parts : List Fragment) → AreInRow location parts
    → AllByRecursion (λ f. location ≤ start_of f) parts
all_after location [] row = tt
all_after location (f ∷ parts) row = grind (arith, all_after (end_of f) parts row.1, all_weaker)

all_at : (location : ℕ) (parts : List Fragment) (i : ℕ) (d : Fragment)
    → AllByRecursion (λ f. location ≤ start_of f) parts → i < length parts
    → location ≤ start_of (get_or parts i d)
all_at location [] i d h low = absurd (omega arith)
all_at location (f ∷ parts) zero d h low = h.0
all_at location (f ∷ parts) (suc i) d h low = all_at location parts i d h.1 (omega arith)

row_apart : (location : ℕ) (parts : List Fragment) → AreInRow location parts
    → AllPairs (λ (f g : Fragment). (p : ℕ) → Holds f p → Holds g p → ⊥) parts
row_apart location [] row i j d low high = absurd (omega arith)
row_apart location (f ∷ parts) row zero zero d low high = absurd (omega arith)
row_apart location (f ∷ parts) row zero (suc j) d low high =
    λ p here there.
    let following = all_at (end_of f) parts j d (all_after (end_of f) parts row.1) (omega arith) in
    omega (arith, following, here.1, there.0)
row_apart location (f ∷ parts) row (suc i) zero d low high = absurd (omega arith)
row_apart location (f ∷ parts) row (suc i) (suc j) d low high =
    row_apart (end_of f) parts row.1 i j d (omega arith) (omega arith)

-- ---- from an offset on

module _ (fs : List Fragment) (disjoint : AreDisjoint fs) (end : ℕ) (named : named_end fs ≡ Some end)
    (covered : (p : ℕ) → p < end → Covered fs p) where
  abbrev text : List ℕ
  text = map (λ p. unwrap_or (byte_at fs p) 0) (range_with_len 0 end)

  long : length text ≡ end
  long = length-map-range_with_len (λ p. unwrap_or (byte_at fs p) 0) 0 end

  byte_is : (g : Fragment) (k : ℕ) → Contains fs g → k < length g.bytes → end_of g ≤ end
      → get_or text (start_of g + k) 0 ≡ get_or g.bytes k 0
  byte_is g k at low fits =
      let p = start_of g + k in
      let here : Holds g p = (omega arith, omega arith) in
      get_or-map-range_with_len (λ q. unwrap_or (byte_at fs q) 0) 0 end p p 0
      (omega (arith, fits, low)) (omega arith)
      ∙ ap (λ (o : Option ℕ). unwrap_or o 0)
      (byte_of_holder fs g p disjoint at here ∙ byte_of-here g p here.0 here.1)
      ∙ ap (λ (n : ℕ). get_or g.bytes n 0) (omega arith)

  -- fragments in a row, whose bytes are the text from an offset on
  record AllBefore (location : ℕ) : Type 0 where
    parts : List Fragment
    among : All (Contains fs) parts
    in_row : AreInRow location parts
    text_is : drop location text ≡ joined_bytes parts

  -- no fragment covers offsets on both sides of it
  abbrev IsSeam : ℕ → Type 0
  IsSeam location = (g : Fragment) → Contains fs g → start_of g < location → end_of g ≤ location

  at_end : (location : ℕ) → end ≤ location → AllBefore location
  at_end location h = record {
    parts = [];
    among = All-nil (Contains fs);
    in_row = tt;
    text_is = nothing (drop location text) (length-drop location text ∙ omega (arith, long, h));
  }

  next_seam : (g : Fragment) → Contains fs g → start_of g < end_of g → IsSeam (end_of g)
  next_seam g at some h there low =
      elim (cases_lt (end_of g) (end_of h)) [
        | inl over ↦
            let p = end_of g - 1 in
            let same = disjoint.apart g h p at there (omega (arith, some), omega (arith, some))
            (omega (arith, low), omega (arith, over)) in
            absurd (omega (arith, ap end_of same, over))
        | inr within ↦ within
      ]

  -- a fragment and what follows it
  text_from_fragment : (g : Fragment) → Contains fs g → end_of g ≤ end
      → drop (start_of g) text ≡ g.bytes ++ drop (end_of g) text
  text_from_fragment g at fits =
      let back = drop (end_of g) text in
      let size = length-append g.bytes back in
      let rest = length-drop (end_of g) text in
      same_number_lists (drop (start_of g) text) (g.bytes ++ back)
      (omega (arith, length-drop (start_of g) text, long, fits, size, rest))
      (λ k low.
      get_or-drop (start_of g) text k 0
      ∙ elim (cases_lt k (length g.bytes)) [
        | inl own ↦ grind (arith, byte_is, get_or_append_left)
        | inr far ↦ grind (arith, get_or-append_right, get_or-drop)
      ])

  one_more : (g : Fragment) (location : ℕ) → Contains fs g → start_of g ≡ location → end_of g ≤ end
      → AllBefore (end_of g) → AllBefore location
  one_more g location at start fits rest = record {
    parts = g ∷ rest.parts;
    among = All-cons (Contains fs) g rest.parts at rest.among;
    in_row = (start, rest.in_row);
    text_is = grind (arith, text_from_fragment);
  }

  following : (more location : ℕ) → end ≤ location + more → IsSeam location → AllBefore location
  following zero location h seam = at_end location (omega arith)
  following (suc more) location h seam =
      elim (cases_lt location end) [
        | inl low ↦
            let c = covered location low in
            let g = c.1 in
            let at : Contains fs g = (c.0, c.2, c.3) in
            let start : start_of g ≡ location = grind arith in
            let some : start_of g < end_of g = omega (arith, c.4.0, c.4.1) in
            let last = disjoint.within end (end_of g - 1) named
            (c.0, g, c.2, c.3, (omega (arith, some), omega (arith, some))) in
            one_more g location at start (omega (arith, last, some))
            (following more (end_of g) (omega (arith, h, start, some)) (next_seam g at some))
        | inr past ↦ at_end location past
      ]

pub no_overlap : NoOverlap
no_overlap fs accepted complete =
    let disjoint = accepted_are_disjoint fs accepted in
    elim (named_end fs) as (λ (o : Option ℕ). named_end fs ≡ o → IsSome o
    → IsJoined fs (map (λ p. unwrap_or (byte_at fs p) 0) (range_with_len 0 (unwrap_or o 0)))) [
      | None ↦ λ named ends. absurd (false≢true ends)
      | Some end ↦ λ named ends.
          let high = greatest_named fs end named in
          let all = following fs disjoint end named
          (λ p low. complete.covered p (omega (arith, low, high))) end 0 (omega arith)
          (λ g at low. absurd (omega arith)) in
          record {
            parts = all.parts;
            among = all.among;
            in_row = all.in_row;
            apart = row_apart 0 all.parts all.in_row;
            text_is = all.text_is;
          }
    ] refl complete.ended
