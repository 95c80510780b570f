-- What holds of every list of accepted fragments.
use Rattle.std.proofs.Common.{◌≡◌, ℕ, ◌+◌, ◌%◌, ◌≤◌, Bool, true, false, not, ◌&&◌, ltb, Option, None, inl, inr, List}
use Rattle.std.proofs.Common.{[], ◌∷◌, ◌++◌, length, append_assoc, length-append, arith, ap, sym, ◌∙◌, refl}
use Rattle.std.proofs.lemmas.Bool.{ltb-false, eqb-true}
use Rattle.std.proofs.lemmas.List.{append-nil}
use Rattle.std.proofs.lemmas.List.Elements.{All-from_recursion}
use Rattle.std.specs.List.{AllByRecursion}
use Rattle.std.specs.Option.{option_or}
use Rattle.std.specs.Prelude.{◌==◌}
use Rattle.etherparse.specs.declared.defrag.ip_defrag_error.IpDefragError.TheVariants.{SegmentTooBig}
use Rattle.etherparse.specs.declared.defrag.ip_defrag_error.IpDefragError.TheVariants.{UnalignedFragmentPayloadLen}
use Rattle.etherparse.specs.declared.defrag.overlap_rule.OverlapRule.{OverlapRule}
use Rattle.etherparse.specs.declared.defrag.overlap_rule.OverlapRule.TheVariants.{Refuses}
use Rattle.etherparse.specs.Fragments.{Fragment, end_of, named_end, refusal_at, overlaps, with_accepted}
use Rattle.etherparse.specs.Fragments.{with_all_accepted, IsAccepted, AgreesWith, FragmentsAgree, AreDisjoint}
use Rattle.etherparse.specs.Fragments.{AcceptedAreDisjoint, Holds}
use Rattle.etherparse.specs.FragmentBytes.{LastByteCounts, UncoveredHasNone}
use Rattle.etherparse.proofs.Clash.{clash_is}
use Rattle.etherparse.proofs.Disjoint.{disjoint_push}
use Rattle.etherparse.proofs.ListElements.{AllByRecursion-push, AnyOf-from_Any, Any-from_AnyOf}
use Rattle.etherparse.proofs.Push.{named_end-push, own_end, cond_none, agrees, end_push, byte_of, byte_of-here}

-- a fragment of a list agrees with that list and one more fragment
still_agrees : (fs gs : List Fragment) (f : Fragment) → AllByRecursion (AgreesWith fs) gs
    → AllByRecursion (AgreesWith (fs ++ f ∷ [])) gs
still_agrees fs [] f h = tt
still_agrees fs (g ∷ gs) f h = (
  grind (arith, named_end-push, own_end),
  still_agrees fs gs f h.1,
)

units_test : (more test : Bool) → (more && not test) ≡ false → more ≡ true → test ≡ true
units_test more test h e = grind arith

-- one that isn't refused agrees with the list whose last fragment it is
last_agrees : (fs : List Fragment) (f : Fragment) → refusal_at (named_end fs) f ≡ None
    → AgreesWith (fs ++ f ∷ []) f
last_agrees fs f none =
    let long = cond_none (ltb 65535 (end_of f))
    (SegmentTooBig f.offset (length f.bytes) 65535) _ none in
    let unaligned = cond_none (f.more && not (length f.bytes % 8 == 0))
    (UnalignedFragmentPayloadLen f.offset (length f.bytes)) _ long.1 in
    record {
      short = ltb-false 65535 (end_of f) long.0;
      whole_units = λ more. eqb-true (length f.bytes % 8) 0 (units_test f.more _ unaligned.0 more);
      end = λ last. sym (end_push fs f (agrees (named_end fs) f none)) ∙ rw last refl;
    }

length-with_accepted : (rule : OverlapRule) (fs : List Fragment) (f : Fragment)
    → length (with_accepted rule fs f) ≤ length fs + 1
length-with_accepted rule fs f = grind (arith, length-append)

length-with_all_accepted : (rule : OverlapRule) (fs rest : List Fragment)
    → length (with_all_accepted rule fs rest) ≤ length fs + length rest
length-with_all_accepted rule fs [] = omega arith
length-with_all_accepted rule fs (f ∷ rest) =
    grind (
      arith,
      length-with_all_accepted rule (with_accepted rule fs f) rest,
      length-with_accepted,
    )

-- where all of them are accepted, the first one is
record First (rule : OverlapRule) (fs rest : List Fragment) (f : Fragment) : Type 0 where
  unrefused : refusal_at (named_end fs) f ≡ None
  alone : overlaps rule fs f ≡ false
  others : with_all_accepted rule (fs ++ f ∷ []) rest ≡ (fs ++ f ∷ []) ++ rest

first_is : (rule : OverlapRule) (fs rest : List Fragment) (f : Fragment)
    → with_all_accepted rule fs (f ∷ rest) ≡ fs ++ f ∷ rest → First rule fs rest f
first_is rule fs rest f is =
    let joined : (fs ++ f ∷ []) ++ rest ≡ fs ++ f ∷ rest = append_assoc fs (f ∷ []) rest in
    let len = ap (λ (gs : List Fragment). length gs) is ∙ length-append fs (f ∷ rest) in
    grind (arith, length-with_all_accepted, length-append)

-- what one more fragment keeps, all keep
pub fragments_by : (rule : OverlapRule) (P : List Fragment → Type 0)
    → ((fs : List Fragment) (f : Fragment) → P fs → refusal_at (named_end fs) f ≡ None
    → overlaps rule fs f ≡ false → P (fs ++ f ∷ [])) → (fs rest : List Fragment)
    → with_all_accepted rule fs rest ≡ fs ++ rest → P fs → P (fs ++ rest)
fragments_by rule P step fs [] is h = rw append-nil h
fragments_by rule P step fs (f ∷ rest) is h =
    let first = first_is rule fs rest f is in
    grind (arith, fragments_by rule P step (fs ++ f ∷ []) rest first.others)

pub stored_fragments : (rule : OverlapRule) (fs : List Fragment) → IsAccepted rule fs
    → AllByRecursion (AgreesWith fs) fs
stored_fragments rule fs is = fragments_by rule (λ gs. AllByRecursion (AgreesWith gs) gs)
    (λ gs f h none alone. AllByRecursion-push (AgreesWith (gs ++ f ∷ [])) gs f
    (still_agrees gs gs f h) (last_agrees gs f none)) [] fs is tt

pub accepted_are_disjoint : AcceptedAreDisjoint
accepted_are_disjoint fs is = fragments_by Refuses AreDisjoint
    (λ gs f h none alone. disjoint_push gs f h none (clash_is gs f alone)) [] fs is record {
      apart = λ f g p h k. let below = h.1 in absurd (omega arith);
      within = λ end p is h. cc;
    }

pub fragments_agree : FragmentsAgree
fragments_agree rule fs is = All-from_recursion (AgreesWith fs) fs (stored_fragments rule fs is)

-- ---- bytes

not_held : (f : Fragment) (p : ℕ) → (Holds f p → ⊥) → byte_of f p ≡ None
not_held f p missing_byte = grind arith

pub uncovered_has_none : UncoveredHasNone
uncovered_has_none [] p h = refl
uncovered_has_none (f ∷ fs) p h =
    rw (not_held f p (λ own. h (Any-from_AnyOf (λ g. Holds g p) (f ∷ fs) (inl own))))
    (ap (λ (o : Option ℕ). option_or o None)
    (uncovered_has_none fs p
    (λ k. h (Any-from_AnyOf (λ g. Holds g p) (f ∷ fs)
    (inr (AnyOf-from_Any (λ g. Holds g p) fs k))))))

pub last_byte_counts : LastByteCounts
last_byte_counts [] following f p here missing_byte =
    ap (λ (o : Option ℕ). option_or o (byte_of f p)) (uncovered_has_none following p missing_byte)
    ∙ byte_of-here f p here.0 here.1
last_byte_counts (g ∷ before) following f p here missing_byte =
    ap (λ (o : Option ℕ). option_or o (byte_of g p))
    (last_byte_counts before following f p here missing_byte)
