-- What holds of all lists of segments.
use Rattle.std.proofs.Common.{◌≡◌, ℕ, zero, suc, ◌+◌, ◌-◌, ◌<◌, ◌≤◌, ◌⊎◌, inl, inr, Bool, true, false, cond}
use Rattle.std.proofs.Common.{Option, Some, None, List, [], ◌∷◌, ◌++◌, length, take, drop, get_or, max, arith, refl}
use Rattle.std.proofs.Common.{ap, sym, ◌∙◌, add-one, drop-cons}
use Rattle.std.proofs.lemmas.Bool.{cases_lt}
use Rattle.std.proofs.lemmas.Bool.Decides.{nat_tests}
use Rattle.std.proofs.lemmas.List.{append_assoc}
use Rattle.std.specs.Prelude.{Contains, ◌==◌}
use Rattle.std.specs.Option.{option_or}
use Rattle.std.specs.List.{AllByRecursion}
use Rattle.tcp_streams.specs.PlacedSegments.{Placed, end_of, byte_from, byte_at, last_end, bytes_from, differs}
use Rattle.tcp_streams.specs.PlacedSegments.{clashes, conflicts_with, conflicts_after, conflicts_of}
use Rattle.tcp_streams.specs.Laws.{IsPartOf, is_covered, OneTextHasNoConflict, OneTextGivesPrefix, OneTextGivesAll}
use Rattle.tcp_streams.specs.Laws.{TextStays}
use Rattle.tcp_streams.specs.Laws.{OrderDoesNotMatter}
use Rattle.tcp_streams.proofs.SegmentLemmas.{byte_from-is, bytes_from-is, byte_at-past, clashes_none}

-- ---- segments whose bytes a function gives

-- each byte of a segment is that of the function
abbrev Fits : (ℕ → Option ℕ) → Placed → Type 0
Fits f s = (p b : ℕ) → byte_from s.position s.bytes p ≡ Some b → f p ≡ Some b

option_or-some : {X : Type 0} (o q : Option X) (b : X) → option_or o q ≡ Some b
    → (o ≡ Some b) ⊎ ((o ≡ None) × (q ≡ Some b))
option_or-some None q b h = inr (refl, h)
option_or-some (Some a) q b h = inl h

byte_fits : (f : ℕ → Option ℕ) (ss : List Placed) (p b : ℕ) → AllByRecursion (Fits f) ss
    → byte_at ss p ≡ Some b → f p ≡ Some b
byte_fits f [] p b h is = cc
byte_fits f (s ∷ ss) p b h is =
    elim (option_or-some (byte_from s.position s.bytes p) (byte_at ss p) b is) [
      | inl k ↦ h.0 p b k
      | inr k ↦ byte_fits f ss p b h.1 k.1
    ]

differs_not : (f : ℕ → Option ℕ) (ss : List Placed) (p b : ℕ) (o : Option ℕ) → AllByRecursion (Fits f) ss
    → byte_at ss p ≡ o → f p ≡ Some b → differs o b ≡ false
differs_not f ss p b None h is same = refl
differs_not f ss p b (Some a) h is same =
    let k = byte_fits f ss p a h is in
    let equal : a ≡ b = cc in grind (arith, nat_tests)

no_conflict_with : (f : ℕ → Option ℕ) (ss : List Placed) (s : Placed) → AllByRecursion (Fits f) ss → Fits f s
    → conflicts_with ss s ≡ []
no_conflict_with f ss s h k = clashes_none (byte_at ss) s.position s.bytes (λ i l.
    differs_not f ss (s.position + i) (get_or s.bytes i 0) _ h refl
    (k (s.position + i) (get_or s.bytes i 0) (byte_from-is s.position s.bytes (s.position + i) i refl l)))

all_push : {X : Type 0} (P : X → Type 0) (xs : List X) (x : X) → AllByRecursion P xs → P x
    → AllByRecursion P (xs ++ x ∷ [])
all_push P [] x h k = (k, tt)
all_push P (y ∷ xs) x h k = (h.0, all_push P xs x h.1 k)

no_conflicts_after : (f : ℕ → Option ℕ) (before ss : List Placed) → AllByRecursion (Fits f) before
    → AllByRecursion (Fits f) ss → conflicts_after before ss ≡ []
no_conflicts_after f before [] h k = refl
no_conflicts_after f before (s ∷ ss) h k =
    rw (
      no_conflict_with f before s h k.0,
      no_conflicts_after f (before ++ s ∷ []) ss (all_push (Fits f) before s h k.0) k.1,
    )

-- ---- segments of one text

byte_from-some : (q : ℕ) (bs : List ℕ) (p b : ℕ) → byte_from q bs p ≡ Some b
    → (q ≤ p) × (p < q + length bs) × (b ≡ get_or bs (p - q) 0)
byte_from-some q bs p b is = grind (arith, nat_tests)

part_fits : (text : List ℕ) (s : Placed) → IsPartOf text s → Fits (byte_from 0 text) s
part_fits text s h p b is =
    let k = byte_from-some s.position s.bytes p b is in
    let same : b ≡ get_or text p 0 = k.2 ∙ h.same (p - s.position) (omega (arith, k.0, k.1))
    ∙ ap (λ (q : ℕ). get_or text q 0) (omega (arith, k.0)) in
    rw same (byte_from-is 0 text p p (omega arith) (omega (arith, k.0, k.1, h.fits)))

parts_fit : (text : List ℕ) (ss : List Placed) → AllByRecursion (IsPartOf text) ss
    → AllByRecursion (Fits (byte_from 0 text)) ss
parts_fit text [] h = tt
parts_fit text (s ∷ ss) h = (part_fits text s h.0, parts_fit text ss h.1)

-- a byte of the text, at its position
record IsByteOf (text : List ℕ) (p b : ℕ) : Type 0 where
  within : p < length text
  same : b ≡ get_or text p 0

text_byte : (text : List ℕ) (ss : List Placed) (p b : ℕ) → AllByRecursion (IsPartOf text) ss
    → byte_at ss p ≡ Some b → IsByteOf text p b
text_byte text ss p b h is =
    let k = byte_from-some 0 text p b (byte_fits (byte_from 0 text) ss p b (parts_fit text ss h) is) in
    record { within = omega (arith, k.1); same = k.2 ∙ ap (λ (q : ℕ). get_or text q 0) (omega arith) }

pub one_text_has_no_conflict : OneTextHasNoConflict
one_text_has_no_conflict text ss h = no_conflicts_after (byte_from 0 text) [] ss tt (parts_fit text ss h)

-- ---- the text

prefix_step : (text : List ℕ) (f : ℕ → Option ℕ) (p n : ℕ) (o : Option ℕ) → f p ≡ o
    → ((q b : ℕ) → f q ≡ Some b → IsByteOf text q b)
    → bytes_from f (p + 1) n ≡ take (length (bytes_from f (p + 1) n)) (drop (p + 1) text)
    → bytes_from f p (suc n) ≡ take (length (bytes_from f p (suc n))) (drop p text)
prefix_step text f p n None is h rest = rw is
prefix_step text f p n (Some b) is h rest =
    let k = h p b is in
    let at : drop p text ≡ b ∷ drop (p + 1) text =
    rw (k.same, add-one) (drop-cons text p 0 k.within) in
    rw (is, at) (ap (λ (t : List ℕ). b ∷ t) rest)

bytes_from-prefix : (text : List ℕ) (f : ℕ → Option ℕ) (p n : ℕ)
    → ((q b : ℕ) → f q ≡ Some b → IsByteOf text q b)
    → bytes_from f p n ≡ take (length (bytes_from f p n)) (drop p text)
bytes_from-prefix text f p zero h = refl
bytes_from-prefix text f p (suc n) h =
    prefix_step text f p n (f p) refl h (bytes_from-prefix text f (p + 1) n h)

pub one_text_gives_prefix : OneTextGivesPrefix
one_text_gives_prefix text ss h =
    bytes_from-prefix text (byte_at ss) 0 (last_end ss) (λ q b is. text_byte text ss q b h is)

covered_byte : (ss : List Placed) (p : ℕ) → is_covered ss p ≡ true → byte_at ss p ≡ None → ⊥
covered_byte [] p h none = cc
covered_byte (s ∷ ss) p h none = grind (arith, nat_tests, covered_byte ss p)

at_text : (text : List ℕ) (ss : List Placed) (p : ℕ) (o : Option ℕ) → AllByRecursion (IsPartOf text) ss
    → is_covered ss p ≡ true → byte_at ss p ≡ o → o ≡ Some (get_or text p 0)
at_text text ss p None h covered is = absurd (covered_byte ss p covered is)
at_text text ss p (Some b) h covered is = ap Some (text_byte text ss p b h is).same

past_text : (text : List ℕ) (ss : List Placed) (p : ℕ) (o : Option ℕ) → AllByRecursion (IsPartOf text) ss
    → length text ≤ p → byte_at ss p ≡ o → o ≡ None
past_text text ss p None h past is = refl
past_text text ss p (Some b) h past is = absurd (omega (arith, (text_byte text ss p b h is).within))

not_shorter : (text : List ℕ) (ss : List Placed) → ((p : ℕ) → p < length text → is_covered ss p ≡ true)
    → length text ≤ last_end ss
not_shorter text ss covered = elim (cases_lt (last_end ss) (length text)) [
  | inl short ↦ absurd (covered_byte ss (last_end ss) (covered (last_end ss) short)
      (byte_at-past ss (last_end ss) (omega arith)))
  | inr long ↦ long
]

pub one_text_gives_all : OneTextGivesAll
one_text_gives_all text ss h covered =
    bytes_from-is (byte_at ss) 0 (last_end ss) text
    (λ i l. at_text text ss i _ h (covered i l) (ap (byte_at ss) (omega arith)))
    (past_text text ss (length text) _ h (omega arith) (ap (byte_at ss) (omega arith)))
    (not_shorter text ss covered)

-- ---- more segments

-- bytes that are there, in the one and in the other
grow_step : (f g : ℕ → Option ℕ) (p n m : ℕ) (o : Option ℕ) → f p ≡ o → (h : (q b : ℕ) → f q ≡ Some b → g q ≡ Some b)
    → take (length (bytes_from f (p + 1) n)) (bytes_from g (p + 1) m) ≡ bytes_from f (p + 1) n
    → take (length (bytes_from f p (suc n))) (bytes_from g p (suc m)) ≡ bytes_from f p (suc n)
grow_step f g p n m None is h rest = rw is
grow_step f g p n m (Some b) is h rest = rw (is, h p b is, rest)

bytes_from-grow : (f g : ℕ → Option ℕ) (p n m : ℕ) → ((q b : ℕ) → f q ≡ Some b → g q ≡ Some b) → n ≤ m
    → take (length (bytes_from f p n)) (bytes_from g p m) ≡ bytes_from f p n
bytes_from-grow f g p zero m h le = refl
bytes_from-grow f g p (suc n) zero h le = absurd (omega arith)
bytes_from-grow f g p (suc n) (suc m) h le =
    grow_step f g p n m (f p) refl h (bytes_from-grow f g (p + 1) n m h (omega arith))

byte_at-append : (ss ts : List Placed) (p : ℕ) → byte_at (ss ++ ts) p ≡ option_or (byte_at ss p) (byte_at ts p)
byte_at-append [] ts p = refl
byte_at-append (s ∷ ss) ts p = grind (arith, byte_at-append ss ts p)

last_end-append : (ss ts : List Placed) → last_end (ss ++ ts) ≡ max (last_end ss) (last_end ts)
last_end-append [] ts = omega arith
last_end-append (s ∷ ss) ts = omega (arith, last_end-append ss ts)

pub text_stays : TextStays
text_stays ss ts = bytes_from-grow (byte_at ss) (byte_at (ss ++ ts)) 0 (last_end ss) (last_end (ss ++ ts))
    (λ q b is. byte_at-append ss ts q ∙ rw is) (omega (arith, last_end-append ss ts))

-- ---- other orders

first_agrees : (b : Bool) (q : ℕ) (rest : List ℕ) → cond b (q ∷ rest) rest ≡ [] → b ≡ false
first_agrees true q rest h = cc
first_agrees false q rest h = refl

rest_agrees : (b : Bool) (q : ℕ) (rest : List ℕ) → cond b (q ∷ rest) rest ≡ [] → rest ≡ []
rest_agrees true q rest h = cc
rest_agrees false q rest h = h

none_clash : (f : ℕ → Option ℕ) (q : ℕ) (bs : List ℕ) (i : ℕ) → clashes f q bs ≡ [] → i < length bs
    → differs (f (q + i)) (get_or bs i 0) ≡ false
none_clash f q [] i none h = absurd (omega arith)
none_clash f q (b ∷ bs) zero none h =
    let at : q + 0 ≡ q = omega arith in rw at (first_agrees (differs (f q) b) q (clashes f (q + 1) bs) none)
none_clash f q (b ∷ bs) (suc i) none h =
    let at : q + 1 + i ≡ q + suc i = omega arith in
    let rest = none_clash f (q + 1) bs i (rest_agrees (differs (f q) b) q (clashes f (q + 1) bs) none) (omega arith) in
    rw at at rest

append_none : {X : Type 0} (xs ys : List X) → xs ++ ys ≡ [] → (xs ≡ []) × (ys ≡ [])
append_none [] ys h = (refl, h)
append_none (x ∷ xs) ys h = cc

not_other : (o : Option ℕ) (b : ℕ) (q : Option ℕ) → differs o b ≡ false → option_or o (option_or (Some b) q) ≡ Some b
not_other None b q h = refl
not_other (Some a) b q h = grind (arith, nat_tests)

-- where there is no conflict, each byte of a segment is the one that stays
agrees_after : (before ss : List Placed) (s : Placed) (k : ℕ) → conflicts_after before ss ≡ [] → k < length ss
    → get_or ss k s ≡ s → Fits (byte_at (before ++ ss)) s
agrees_after before [] s k none within is p b here = absurd (omega arith)
agrees_after before (t ∷ ss) s zero none within is p b here =
    let none = append_none (conflicts_with before t) (conflicts_after (before ++ t ∷ []) ss) none in
    let k = byte_from-some s.position s.bytes p b here in
    let at : s.position + (p - s.position) ≡ p = omega (arith, k.0) in
    let with_s = rw is at none.0 in
    let same = none_clash (byte_at before) s.position s.bytes (p - s.position) with_s (omega (arith, k.0, k.1)) in
    let same = rw (at, ← k.2) at same in
    byte_at-append before (t ∷ ss) p
    ∙ rw (is, here) (not_other (byte_at before p) b (byte_at ss p) same)
agrees_after before (t ∷ ss) s (suc k) none within is p b here =
    let none = append_none (conflicts_with before t) (conflicts_after (before ++ t ∷ []) ss) none in
    let rest = agrees_after (before ++ t ∷ []) ss s k none.1 (omega arith) is p b here in
    rw append_assoc at rest

agrees : (ss : List Placed) (s : Placed) → conflicts_of ss ≡ [] → Contains ss s → Fits (byte_at ss) s
agrees ss s none has = agrees_after [] ss s has.0 none has.1 has.2

all_from : {X : Type 0} (P : X → Type 0) (xs : List X) → ((x : X) → Contains xs x → P x) → AllByRecursion P xs
all_from P [] h = tt
all_from P (x ∷ xs) h = (
  h x (0, omega arith, refl),
  all_from P xs (λ y has. h y (suc has.0, omega (arith, has.1), has.2)),
)

-- a byte that is there is that of some segment
owner : (ss : List Placed) (p b : ℕ) → byte_at ss p ≡ Some b
    → (s : Placed) × Contains ss s × (byte_from s.position s.bytes p ≡ Some b)
owner [] p b is = cc
owner (s ∷ ss) p b is =
    elim (option_or-some (byte_from s.position s.bytes p) (byte_at ss p) b is) [
      | inl k ↦ (s, (0, omega arith, refl), k)
      | inr k ↦
          let rest = owner ss p b k.1 in
          (rest.0, (suc rest.1.0, omega (arith, rest.1.1), rest.1.2), rest.2)
    ]

none_after : (o q : Option ℕ) → option_or o q ≡ None → q ≡ None
none_after None q h = h
none_after (Some a) q h = cc

owned : (ss : List Placed) (s : Placed) (p b : ℕ) (k : ℕ) → k < length ss → get_or ss k s ≡ s
    → byte_from s.position s.bytes p ≡ Some b → byte_at ss p ≡ None → ⊥
owned [] s p b k within is here none = absurd (omega arith)
owned (t ∷ ss) s p b zero within is here none = let here = rw (← is) at here in grind arith
owned (t ∷ ss) s p b (suc k) within is here none =
    owned ss s p b k (omega arith) is here (none_after (byte_from t.position t.bytes p) (byte_at ss p) none)

same_byte : (ss ts : List Placed) (p : ℕ) (o q : Option ℕ) → AllByRecursion (Fits (byte_at ss)) ts
    → ((s : Placed) → Contains ss s → Contains ts s) → byte_at ss p ≡ o → byte_at ts p ≡ q → o ≡ q
same_byte ss ts p o (Some b) fits has o_is q_is = sym o_is ∙ byte_fits (byte_at ss) ts p b fits q_is
same_byte ss ts p None None fits has o_is q_is = refl
same_byte ss ts p (Some a) None fits has o_is q_is =
    let own = owner ss p a o_is in
    let in_ts = has own.0 own.1 in
    absurd (owned ts own.0 p a in_ts.0 in_ts.1 in_ts.2 own.2 q_is)

own_end : (len e p : ℕ) → cond (len == 0) 0 e ≡ suc p → (0 < len) × (e ≡ suc p)
own_end len e p h = grind (arith, nat_tests)

last_byte : (ss : List Placed) (p : ℕ) → last_end ss ≡ suc p → byte_at ss p ≡ None → ⊥
last_byte [] p is none = omega arith
last_byte (s ∷ ss) p is none = elim (cases_lt (last_end ss) (suc p)) [
  | inl less ↦
      let own = own_end (length s.bytes) (end_of s) p (omega (arith, is, less)) in
      let here = byte_from-is s.position s.bytes p (length s.bytes - 1) (omega (arith, own.0, own.1)) (omega (arith, own.0)) in
      let none = rw here at none in cc
  | inr more ↦
      last_byte ss p (omega (arith, is, more)) (none_after (byte_from s.position s.bytes p) (byte_at ss p) none)
]

end_within : (ss ts : List Placed) → ((p : ℕ) → byte_at ss p ≡ byte_at ts p) → last_end ss ≤ last_end ts
end_within ss ts same = elim (cases_lt (last_end ts) (last_end ss)) [
  | inl less ↦ absurd (last_byte ss (last_end ss - 1) (omega (arith, less))
      (same (last_end ss - 1) ∙ byte_at-past ts (last_end ss - 1) (omega (arith, less))))
  | inr within ↦ within
]

bytes_from_same : (f g : ℕ → Option ℕ) (p n : ℕ) → ((q : ℕ) → f q ≡ g q) → bytes_from f p n ≡ bytes_from g p n
bytes_from_same f g p zero same = refl
bytes_from_same f g p (suc n) same = rw (same p, bytes_from_same f g (p + 1) n same)

pub order_does_not_matter : OrderDoesNotMatter
order_does_not_matter ss ts none same =
    let fits = all_from (Fits (byte_at ss)) ts (λ s has. agrees ss s none ((same s).1 has)) in
    let bytes = λ (p : ℕ). same_byte ss ts p (byte_at ss p) (byte_at ts p) fits (λ s has. (same s).0 has) refl refl in
    let within = end_within ss ts bytes in
    let back = end_within ts ss (λ p. sym (bytes p)) in
    let ends : last_end ts ≡ last_end ss = omega (arith, within, back) in (
      no_conflicts_after (byte_at ss) [] ts tt fits,
      rw ends (bytes_from_same (byte_at ts) (byte_at ss) 0 (last_end ss) (λ p. sym (bytes p))),
    )
