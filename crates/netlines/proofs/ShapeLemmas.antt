-- Fragments of the same offsets, flags and lengths have the same outcomes, whatever their bytes
-- are.
use Rattle.std.proofs.Common.{[], ◌≡◌, ◌∙◌, refl, sym, ℕ, ◌&&◌, true, false, Option, None, List, ◌∷◌, ◌++◌, length}
use Rattle.std.proofs.Common.{Some, ap, arith, is_some}
use Rattle.std.specs.Prelude.{nat_le, nat_lt}
use Rattle.std.specs.List.{AllZip, list_all, list_any, range_with_len}
use Rattle.etherparse.specs.Fragments.{Fragment, end_of, greatest_end, holds, is_complete, named_end}
use Rattle.etherparse.specs.Fragments.{refusal_of, start_of, refusal_at}
use Rattle.etherparse.specs.Outcome.{outcome}
use Rattle.etherparse.specs.Outcome.Outcome.{Completed, Waiting}
use Rattle.etherparse.specs.FragmentBytes.{text_of}
use Rattle.etherparse.proofs.OutcomeLemmas.{is_completed, is_waiting, is_taken, unrefused}
use Rattle.netlines.proofs.WaitingLemmas.{AllWait}
use Rattle.etherparse.specs.declared.defrag.overlap_rule.OverlapRule.{OverlapRule}
use Rattle.etherparse.specs.declared.defrag.overlap_rule.OverlapRule.TheVariants.{Overwrites}

pub record SameShape (f g : Fragment) : Type 0 where
  pub offset : f.offset ≡ g.offset
  pub more : f.more ≡ g.more
  pub size : length f.bytes ≡ length g.bytes

abbrev pub AllSameShape : List Fragment → List Fragment → Type 0
AllSameShape fs gs = AllZip SameShape fs gs

pub own_shape : (f : Fragment) → SameShape f f
own_shape f = record { offset = refl; more = refl; size = refl }

module _ (f g : Fragment) (same : SameShape f g) where
  pub same_start : start_of f ≡ start_of g
  same_start = omega (arith, same.offset)

  same_end : end_of f ≡ end_of g
  same_end = omega (arith, same.offset, same.size)

  pub same_holds : (p : ℕ) → holds f p ≡ holds g p
  same_holds p = λ i. nat_le (same_start i) p && nat_lt p (same_end i)

  same_refused : (named : Option ℕ) → refusal_at named f ≡ refusal_at named g
  same_refused None = grind arith
  same_refused (Some end) = grind arith

pub same_named : (fs gs : List Fragment) → AllSameShape fs gs → named_end fs ≡ named_end gs
same_named [] [] all = refl
same_named [] (g ∷ gs) all = absurd all
same_named (f ∷ fs) [] all = absurd all
same_named (f ∷ fs) (g ∷ gs) all = grind (arith, same_named fs gs all.1)

same_greatest : (fs gs : List Fragment) → AllSameShape fs gs → greatest_end fs ≡ greatest_end gs
same_greatest [] [] all = refl
same_greatest [] (g ∷ gs) all = absurd all
same_greatest (f ∷ fs) [] all = absurd all
same_greatest (f ∷ fs) (g ∷ gs) all = grind (arith, same_greatest fs gs all.1)

same_covered : (fs gs : List Fragment) → AllSameShape fs gs → (p : ℕ)
    → list_any (λ h. holds h p) fs ≡ list_any (λ h. holds h p) gs
same_covered [] [] all p = refl
same_covered [] (g ∷ gs) all p = absurd all
same_covered (f ∷ fs) [] all p = absurd all
same_covered (f ∷ fs) (g ∷ gs) all p = grind (arith, same_covered fs gs all.1 p)

pub same_complete : (fs gs : List Fragment) → AllSameShape fs gs → is_complete fs ≡ is_complete gs
same_complete fs gs all = λ i. is_some (same_named fs gs all i)
    && list_all (λ p. same_covered fs gs all p i) (range_with_len 0 (same_greatest fs gs all i))

pub same_refusal : (fs gs : List Fragment) (f g : Fragment) → AllSameShape fs gs → SameShape f g
    → refusal_at (named_end fs) f ≡ refusal_at (named_end gs) g
same_refusal fs gs f g all same = ap (λ (o : Option ℕ). refusal_at o f) (same_named fs gs all)
    ∙ same_refused f g same (named_end gs)

-- ---- what becomes of them

pub waits_if : (rule : OverlapRule) (fs : List Fragment) (f : Fragment) (gs : List Fragment)
    → outcome rule fs f ≡ Waiting gs
    → (refusal_of rule fs f ≡ None) × (is_complete (fs ++ f ∷ []) ≡ false)
waits_if rule fs f gs = grind arith

pub completes_if : (rule : OverlapRule) (fs : List Fragment) (f : Fragment) (text : List ℕ)
    → outcome rule fs f ≡ Completed text
    → (refusal_of rule fs f ≡ None) × (is_complete (fs ++ f ∷ []) ≡ true)
    × (text ≡ text_of (fs ++ f ∷ []))
completes_if rule fs f text = grind arith

pub same-push : (fs gs : List Fragment) (f g : Fragment) → AllSameShape fs gs → SameShape f g
    → AllSameShape (fs ++ f ∷ []) (gs ++ g ∷ [])
same-push [] [] f g all same = (same, tt)
same-push [] (h ∷ gs) f g all same = absurd all
same-push (h ∷ fs) [] f g all same = absurd all
same-push (h ∷ fs) (k ∷ gs) f g all same = (all.0, same-push fs gs f g all.1 same)

-- over IPv4 nothing but the end refuses a fragment of the same shape
same_taken : (fs gs : List Fragment) (f g : Fragment) → AllSameShape fs gs → SameShape f g
    → refusal_of Overwrites fs f ≡ None → refusal_of Overwrites gs g ≡ None
same_taken fs gs f g all same taken = grind (arith, is_taken, same_refusal, unrefused)

pub same_wait : (before others fs gs : List Fragment) → AllSameShape before others
    → AllSameShape fs gs → AllWait Overwrites before fs → AllWait Overwrites others gs
same_wait before others [] [] prefix all wait = tt
same_wait before others [] (g ∷ gs) prefix all wait = absurd all
same_wait before others (f ∷ fs) [] prefix all wait = absurd all
same_wait before others (f ∷ fs) (g ∷ gs) prefix all wait =
    let was = waits_if Overwrites before f (before ++ f ∷ []) wait.0 in
    let longer = same-push before others f g prefix all.0 in (
      is_waiting Overwrites others g (same_taken before others f g prefix all.0 was.0)
          (sym (same_complete (before ++ f ∷ []) (others ++ g ∷ []) longer) ∙ was.1),
      same_wait (before ++ f ∷ []) (others ++ g ∷ []) fs gs longer all.1 wait.1,
    )

pub same_completed : (fs gs : List Fragment) (f g : Fragment) (text : List ℕ)
    → AllSameShape fs gs → SameShape f g → outcome Overwrites fs f ≡ Completed text
    → outcome Overwrites gs g ≡ Completed (text_of (gs ++ g ∷ []))
same_completed fs gs f g text all same is =
    let was = completes_if Overwrites fs f text is in
    is_completed Overwrites gs g (same_taken fs gs f g all same was.0)
    (sym (same_complete (fs ++ f ∷ []) (gs ++ g ∷ []) (same-push fs gs f g all same)) ∙ was.1)
