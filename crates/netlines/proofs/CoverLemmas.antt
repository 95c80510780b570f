-- When the fragments of one cut of a message cover it: with the last of them, in any order and with
-- repeats.
use Rattle.std.proofs.Common.{◌≡◌, sym, refl, subst, inl, inr, ℕ, ◌<◌, ◌≤◌, true, [], false, None, IsSome, List, ◌∷◌}
use Rattle.std.proofs.Common.{◌++◌, length, arith}
use Rattle.std.specs.List.{AllByRecursion, Contains}
use Rattle.std.proofs.lemmas.Bool.{false_from_ne_true}
use Rattle.etherparse.specs.Fragments.{Fragment, Holds, end_of, is_complete, named_end, overlaps, refusal_of, start_of}
use Rattle.etherparse.specs.declared.defrag.overlap_rule.OverlapRule.{OverlapRule}
use Rattle.etherparse.specs.declared.defrag.overlap_rule.OverlapRule.TheVariants.{Overwrites, Refuses}
use Rattle.etherparse.specs.Outcome.{outcome}
use Rattle.etherparse.specs.Outcome.Outcome.{Completed}
use Rattle.etherparse.proofs.Clash.{no_clash}
use Rattle.etherparse.proofs.Complete.{complete_Decides}
use Rattle.etherparse.proofs.ListElements.{AllByRecursion-push, Any-from_AnyOf, AnyOf, AnyOf-from_Any, AnyOf-push}
use Rattle.etherparse.proofs.OutcomeLemmas.{is_completed, is_taken, is_waiting}
use Rattle.netlines.proofs.MessageFragments.{AreFragmentsOf, IsFragmentOf, complete_to_end, greatest_within}
use Rattle.netlines.proofs.MessageFragments.{fragment_not_refused, text_is}
use Rattle.netlines.proofs.WaitingLemmas.{AllWait}

-- x is one of the list
abbrev pub IsIn : {X : Type 0} → X → List X → Type 0
IsIn x xs = AnyOf (λ y. y ≡ x) xs

pub AnyOf-is : {X : Type 0} (P : X → Type 0) (xs : List X) → AnyOf P xs
    → (x : X) × IsIn x xs × P x
AnyOf-is P [] h = absurd h
AnyOf-is P (x ∷ xs) (inl h) = (x, inl refl, h)
AnyOf-is P (x ∷ xs) (inr h) = let r = AnyOf-is P xs h in (r.0, inr r.1, r.2)

pub AnyOf-of : {X : Type 0} (P : X → Type 0) (xs : List X) (x : X) → IsIn x xs → P x → AnyOf P xs
AnyOf-of P [] x h p = absurd h
AnyOf-of P (y ∷ xs) x (inl h) p = inl (subst P (sym h) p)
AnyOf-of P (y ∷ xs) x (inr h) p = inr (AnyOf-of P xs x h p)

pub all-in : {X : Type 0} (P : X → Type 0) (xs : List X) (x : X) → AllByRecursion P xs → IsIn x xs
    → P x
all-in P [] x all h = absurd h
all-in P (y ∷ xs) x all (inl h) = subst P h all.0
all-in P (y ∷ xs) x all (inr h) = all-in P xs x all.1 h

pub all-each : {X : Type 0} (P : X → Type 0) (xs : List X) → ((x : X) → IsIn x xs → P x)
    → AllByRecursion P xs
all-each P [] each = tt
all-each P (x ∷ xs) each = (each x (inl refl), all-each P xs (λ y h. each y (inr h)))

is_in_list : {X : Type 0} (xs : List X) (x : X) → Contains xs x → IsIn x xs
is_in_list xs x at = AnyOf-from_Any (λ y. y ≡ x) xs (at.0, x, at.1, at.2, refl)

-- ---- one cut of a message

-- these fragments are of the message, and each of its bytes is in exactly one of them
pub record IsFragmentationOf (message : List ℕ) (parts : List Fragment) : Type 0 where
  pub fragments : AreFragmentsOf message parts
  pub some : AllByRecursion (λ f. start_of f < end_of f) parts
  pub cover : (p : ℕ) → p < length message → AnyOf (λ f. Holds f p) parts
  pub apart : (f g : Fragment) (p : ℕ) → IsIn f parts → IsIn g parts → Holds f p → Holds g p
      → f ≡ g
  pub last : AnyOf (λ f. f.more ≡ false) parts

named_some : (fs : List Fragment) → AnyOf (λ f. f.more ≡ false) fs → IsSome (named_end fs)
named_some [] h = absurd h
named_some (f ∷ fs) (inl h) = rw h refl
named_some (f ∷ fs) (inr h) = grind (arith, named_some fs h)

-- each of these fragments is one of the cut
abbrev pub AreAmong : List Fragment → List Fragment → Type 0
AreAmong parts fs = AllByRecursion (λ f. IsIn f parts) fs

module _ (message : List ℕ) (short : length message ≤ 65535) (parts : List Fragment)
    (cut : IsFragmentationOf message parts) where
  are_fragments : (fs : List Fragment) → AreAmong parts fs → AreFragmentsOf message fs
  are_fragments [] among = tt
  are_fragments (f ∷ fs) among =
      (all-in (IsFragmentOf message) parts f cut.fragments among.0, are_fragments fs among.1)

  -- with one of them missing they don't
  open_without : (missing : Fragment) → IsIn missing parts → (fs : List Fragment)
      → AreAmong parts fs → (IsIn missing fs → ⊥) → is_complete fs ≡ false
  open_without missing as_fragment fs among none = false_from_ne_true (is_complete fs) (λ is.
      let some = all-in (λ f. start_of f < end_of f) parts missing cut.some as_fragment in
      let posted_fragment = all-in (IsFragmentOf message) parts missing cut.fragments as_fragment in
      let held = AnyOf-is (λ f. Holds f (start_of missing)) fs
      (complete_to_end message fs (are_fragments fs among) is (start_of missing)
      (omega (arith, some, posted_fragment.within))) in
      let same : held.0 ≡ missing = cut.apart held.0 missing (start_of missing)
      (all-in (λ f. IsIn f parts) fs held.0 among held.1) as_fragment held.2 (omega arith, some) in
      grind arith)

  -- with all of them they do
  whole_with : (fs : List Fragment) → AreAmong parts fs
      → ((f : Fragment) → IsIn f parts → IsIn f fs) → is_complete fs ≡ true
  whole_with fs among each =
      let last = AnyOf-is (λ f. f.more ≡ false) parts cut.last in
      (complete_Decides fs).1 (record {
        ended = named_some fs (AnyOf-of (λ f. f.more ≡ false) fs last.0 (each last.0 last.1) last.2);
        covered = λ p below.
            let held = AnyOf-is (λ f. Holds f p) parts (cut.cover p
            (omega (arith, greatest_within message fs (are_fragments fs among)))) in
            Any-from_AnyOf (λ f. Holds f p) fs
            (AnyOf-of (λ f. Holds f p) fs held.0 (each held.0 held.1) held.2);
      })

  -- another one of them overlaps none
  no_overlap : (rule : OverlapRule) (fs : List Fragment) (f : Fragment) → AreAmong parts fs
      → IsIn f parts → overlaps rule fs f ≡ false
  no_overlap Overwrites fs f among as_fragment = refl
  no_overlap Refuses fs f among as_fragment = no_clash fs f (λ clash. elim clash [
    | inl h ↦
        let g = h.1.2.1 in
        let at : Contains fs g = (h.1.2.0, h.1.2.2, h.1.2.3) in
        let in' = is_in_list fs g at in
        let same : g ≡ f = cut.apart g f h.1.0
        (all-in (λ k. IsIn k parts) fs g among in') as_fragment h.1.2.4 h.1.1 in
        grind arith
    | inr h ↦
        let g = h.1.2.1 in
        let in' = is_in_list fs g (h.1.2.0, h.1.2.2, h.1.2.3) in
        let posted_fragment = all-in (IsFragmentOf message) parts g cut.fragments
        (all-in (λ k. IsIn k parts) fs g among in') in
        let own = all-in (IsFragmentOf message) parts f cut.fragments as_fragment in
        let end = own.last h.0 in
        omega (arith, posted_fragment.within, end, h.1.1, h.1.2.4.1)
  ])

  fragment_accepted : (rule : OverlapRule) (fs : List Fragment) (f : Fragment) → AreAmong parts fs
      → IsIn f parts → refusal_of rule fs f ≡ None
  fragment_accepted rule fs f among as_fragment =
      grind (arith, is_taken, fragment_not_refused, are_fragments, all-in, no_overlap)

  -- so each waits while one is missing,
  wait_without : (rule : OverlapRule) (missing : Fragment) → IsIn missing parts → (before fs : List Fragment)
      → AreAmong parts before → (IsIn missing before → ⊥) → AreAmong parts fs
      → (IsIn missing fs → ⊥) → AllWait rule before fs
  wait_without rule missing as_fragment before [] among_before not_before among none = tt
  wait_without rule missing as_fragment before (f ∷ fs) among_before not_before among none =
      let longer = AllByRecursion-push (λ g. IsIn g parts) before f among_before among.0 in
      let without : IsIn missing (before ++ f ∷ []) → ⊥ = λ h.
      elim (AnyOf-push (λ g. g ≡ missing) before f h) [
        | inl k ↦ not_before k
        | inr k ↦ none (inl k)
      ] in (
        grind (arith, is_waiting, fragment_accepted, open_without),
        wait_without rule missing as_fragment (before ++ f ∷ []) fs longer without among.1
            (λ h. none (inr h)),
      )

  pub all_wait : (rule : OverlapRule) (missing : Fragment) → IsIn missing parts
      → (fs : List Fragment) → AreAmong parts fs → (IsIn missing fs → ⊥) → AllWait rule [] fs
  all_wait rule missing as_fragment fs among none = grind (arith, wait_without)

  -- and the last one completes the message
  pub completes : (rule : OverlapRule) (fs : List Fragment) (f : Fragment) → AreAmong parts (fs ++ f ∷ [])
      → ((g : Fragment) → IsIn g parts → IsIn g (fs ++ f ∷ [])) → AreAmong parts fs
      → IsIn f parts → outcome rule fs f ≡ Completed message
  completes rule fs f among each before as_fragment =
      grind (arith, is_completed, fragment_accepted, whole_with, text_is, are_fragments)
