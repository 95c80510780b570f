-- Accepted fragments that are disjoint, with one more of them.
use Rattle.std.proofs.Common.{◌≡◌, ℕ, zero, suc, ◌<◌, ◌≤◌, Bool, true, false, ◌⊎◌, inl, inr, Option, Some, None, IsSome}
use Rattle.std.proofs.Common.{List, [], ◌∷◌, ◌++◌, max, arith, sym, ◌∙◌, refl, subst, cond}
use Rattle.std.proofs.lemmas.Bool.{cases_Bool, cases_lt, false≢true}
use Rattle.std.proofs.lemmas.List.Elements.{Contains-push_cases}
use Rattle.std.specs.List.{Contains}
use Rattle.std.specs.Option.{option_or}
use Rattle.etherparse.specs.Fragments.{Fragment, end_of, named_end, greatest_end, Holds, Covered, IsRepeat, Clashes}
use Rattle.etherparse.specs.Fragments.{AreDisjoint, is_repeat, refusal_at}
use Rattle.etherparse.specs.FragmentBytes.{byte_at}
use Rattle.etherparse.proofs.Clash.{repeat_Decides}
use Rattle.etherparse.proofs.Push.{byte_of, named_end-push, own_end}

-- ---- fragments of the list

-- a fragment that covers the offset: the list covers it
pub covered_by : (fs : List Fragment) (g : Fragment) (p : ℕ) → Contains fs g → Holds g p
    → Covered fs p
covered_by fs g p at h = (at.0, g, at.1, at.2, h)

pub covered_push : (fs : List Fragment) (f : Fragment) (p : ℕ) → Covered (fs ++ f ∷ []) p
    → Covered fs p ⊎ Holds f p
covered_push fs f p c =
    elim (Contains-push_cases fs f c.1 (c.0, c.2, c.3)) [
      | inl at ↦ inl (covered_by fs c.1 p at c.4)
      | inr is ↦ grind arith
    ]

-- one after which no more follows names an end
pub named_by : (fs : List Fragment) (f : Fragment) → Contains fs f → f.more ≡ false
    → IsSome (named_end fs)
named_by [] f at last = let below = at.1 in absurd (omega arith)
named_by (g ∷ fs) f (zero, lt, is) last = grind arith
named_by (g ∷ fs) f (suc k, lt, is) last = grind (arith, named_by fs f (k, omega arith, is) last)

pub greatest_of : (fs : List Fragment) (f : Fragment) → Contains fs f → end_of f ≤ greatest_end fs
greatest_of [] f at = let below = at.1 in absurd (omega arith)
greatest_of (g ∷ fs) f (zero, lt, is) = grind arith
greatest_of (g ∷ fs) f (suc k, lt, is) = grind (arith, greatest_of fs f (k, omega arith, is))

-- the end of the datagram is that of a fragment
pub greatest_named : (fs : List Fragment) (end : ℕ) → named_end fs ≡ Some end
    → end ≤ greatest_end fs
greatest_named [] end is = cc
greatest_named (g ∷ fs) end is =
    elim g.more as (λ (b : Bool). cond b (named_end fs) (Some (end_of g)) ≡ Some end
    → end ≤ max (end_of g) (greatest_end fs)) [
      | true ↦ λ h. let rest = greatest_named fs end h in omega (arith, rest)
      | false ↦ λ h. let own : end_of g ≡ end = cc in omega (arith, own)
    ] is

-- ---- the byte at an offset

-- some fragment that covers the offset has the byte
record HasByte (fs : List Fragment) (p : ℕ) : Type 0 where
  stored_fragment : Fragment
  among : Contains fs stored_fragment
  here : Holds stored_fragment p
  byte : byte_at fs p ≡ byte_of stored_fragment p

holds_is : (f : Fragment) (p : ℕ) → (Holds f p) ⊎ (byte_of f p ≡ None)
holds_is f p = grind arith

byte_from : (fs : List Fragment) (p : ℕ) → HasByte fs p ⊎ (byte_at fs p ≡ None)
byte_from [] p = inr refl
byte_from (f ∷ fs) p = elim (byte_from fs p) [
  | inl h ↦ inl record {
    stored_fragment = h.stored_fragment;
    among = (suc h.among.0, omega (arith, h.among.1), h.among.2);
    here = h.here;
    byte = grind arith;
  }
  | inr none ↦ grind arith
]

none_or : {X : Type 0} (o n : Option X) → option_or o n ≡ None → (o ≡ None) × (n ≡ None)
none_or (Some x) n h = cc
none_or None n h = (refl, h)

none_of_some : {X : Type 0} (o : Option X) (x : X) → o ≡ None → o ≡ Some x → ⊥
none_of_some (Some y) x h k = cc
none_of_some None x h k = cc

some_same : {X : Type 0} (x y : X) → Some x ≡ Some y → x ≡ y
some_same x y h = cc

none_covered : (fs : List Fragment) (p : ℕ) → byte_at fs p ≡ None → Covered fs p → ⊥
none_covered [] p none c = let below = c.2 in absurd (omega arith)
none_covered (f ∷ fs) p none (zero, g, lt, is, here) = grind arith
none_covered (f ∷ fs) p none (suc k, g, lt, is, here) =
    let parts = none_or (byte_at fs p) (byte_of f p) none in
    none_covered fs p parts.0 (k, g, omega arith, is, here)

-- of disjoint ones it is that of each that covers the offset
pub byte_of_holder : (fs : List Fragment) (g : Fragment) (p : ℕ) → AreDisjoint fs → Contains fs g
    → Holds g p → byte_at fs p ≡ byte_of g p
byte_of_holder fs g p disjoint at here = elim (byte_from fs p) [
  | inl h ↦ cc (h.byte, disjoint.apart h.stored_fragment g p h.among at h.here here)
  | inr none ↦ absurd (none_covered fs p none (covered_by fs g p at here))
]

-- ---- one more

pub agrees_with : (fs : List Fragment) (f : Fragment) (end : ℕ)
    → refusal_at (named_end fs) f ≡ None → named_end fs ≡ Some end
    → (end_of f ≤ end) × (f.more ≡ false → end_of f ≡ end)
agrees_with fs f end none is = grind arith

within_push : (fs : List Fragment) (f : Fragment) (end p : ℕ) → AreDisjoint fs
    → refusal_at (named_end fs) f ≡ None → (Clashes fs f → ⊥)
    → (o : Option ℕ) → named_end fs ≡ o → option_or o (own_end f) ≡ Some end
    → Covered fs p ⊎ Holds f p → p < end
within_push fs f end p disjoint none alone (Some e) named is c =
    let same : e ≡ end = cc in
    let fits = agrees_with fs f e none named in
    elim c [
      | inl k ↦ rw (← same) (disjoint.within e p named k)
      | inr k ↦ omega (arith, k.1, fits.0, same)
    ]
within_push fs f end p disjoint none alone None named is c =
    elim (cases_Bool f.more) [
      | inl t ↦ absurd (none_of_some _ end (rw t refl) is)
      | inr t ↦
          let same : end_of f ≡ end = grind arith in
          elim c [
            | inl k ↦ elim (cases_lt p (end_of f)) [
              | inl m ↦ omega (arith, m, same)
              | inr m ↦ absurd (alone (inr (t, (p, m, k))))
            ]
            | inr k ↦ omega (arith, k.1, same)
          ]
    ]

-- one that is no repeat covers no offset of a fragment of the list
shares_none : (fs : List Fragment) (f g : Fragment) (p : ℕ) → (Clashes fs f → ⊥)
    → (IsRepeat fs f → ⊥) → Contains fs g → Holds f p → Holds g p → ⊥
shares_none fs f g p alone new at own here =
    alone (inl (new, (p, own, covered_by fs g p at here)))

apart_new : (fs : List Fragment) (f g h : Fragment) (p : ℕ) → AreDisjoint fs
    → (Clashes fs f → ⊥) → (IsRepeat fs f → ⊥) → Contains fs g ⊎ (f ≡ g)
    → Contains fs h ⊎ (f ≡ h) → Holds g p → Holds h p → g ≡ h
apart_new fs f g h p disjoint alone new (inl a) (inl b) i j = disjoint.apart g h p a b i j
apart_new fs f g h p disjoint alone new (inl a) (inr b) i j =
    absurd (shares_none fs f g p alone new a (subst (λ k. Holds k p) (sym b) j) i)
apart_new fs f g h p disjoint alone new (inr a) (inl b) i j =
    absurd (shares_none fs f h p alone new b (subst (λ k. Holds k p) (sym a) i) j)
apart_new fs f g h p disjoint alone new (inr a) (inr b) i j = sym a ∙ b

among_repeat : (fs : List Fragment) (f g : Fragment) → Contains fs f
    → Contains fs g ⊎ (f ≡ g) → Contains fs g
among_repeat fs f g at h = grind arith

pub disjoint_push : (fs : List Fragment) (f : Fragment) → AreDisjoint fs
    → refusal_at (named_end fs) f ≡ None → (Clashes fs f → ⊥) → AreDisjoint (fs ++ f ∷ [])
disjoint_push fs f disjoint none alone = record {
  apart = λ g h p a b i j.
      let c = Contains-push_cases fs f g a in
      let d = Contains-push_cases fs f h b in
      elim (cases_Bool (is_repeat fs f)) [
        | inl t ↦
            let at = (repeat_Decides fs f).0 t in
            disjoint.apart g h p (among_repeat fs f g at c) (among_repeat fs f h at d) i j
        | inr t ↦ apart_new fs f g h p disjoint alone
            (λ at. false≢true (sym t ∙ (repeat_Decides fs f).1 at)) c d i j
      ];
  within = λ end p is c. within_push fs f end p disjoint none alone (named_end fs) refl
      (sym (named_end-push fs f) ∙ is) (covered_push fs f p c);
}

-- a fragment that agrees with the end is no clash
pub repeat_is_no_clash : (fs : List Fragment) (f : Fragment) → AreDisjoint fs
    → refusal_at (named_end fs) f ≡ None → Contains fs f → Clashes fs f → ⊥
repeat_is_no_clash fs f disjoint none at (inl h) = h.0 at
repeat_is_no_clash fs f disjoint none at (inr h) =
    elim (named_end fs) as (λ (o : Option ℕ). named_end fs ≡ o → IsSome o → ⊥) [
      | Some e ↦ λ is some.
          let same = (agrees_with fs f e none is).1 h.0 in
          let below = disjoint.within e h.1.0 is h.1.2 in
          omega (arith, same, below, h.1.1)
      | None ↦ λ is some. false≢true some
    ] refl (named_by fs f at h.0)
