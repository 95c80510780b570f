-- Fragments taken one after the other.
use Rattle.std.proofs.Common.{◌≡◌, ℕ, ◌+◌, ◌<◌, None, List, [], ◌∷◌, ◌++◌, length, map, take, drop, get_or, add-one}
use Rattle.std.proofs.Common.{drop-cons, ap, sym, subst, ◌∙◌, refl, Bool, not, cond, is_some, arith}
use Rattle.std.proofs.lemmas.List.{take_more, map-append, take-append-drop}
use Rattle.etherparse.specs.declared.defrag.ip_defrag_error.IpDefragError.{IpDefragError}
use Rattle.etherparse.specs.declared.defrag.ip_defrag_error.IpDefragError.TheVariants.{AllocationFailure}
use Rattle.etherparse.specs.declared.defrag.overlap_rule.OverlapRule.{OverlapRule}
use Rattle.etherparse.specs.Fragments.{Fragment, accepted_count, end_of, refusal_of, with_accepted, with_all_accepted}
use Rattle.etherparse.specs.IpDefragBuf.{Contents, SameButRoom, Shows, Stops}
use Rattle.etherparse.proofs.Rooms.{still_shows}

module _ (rule : OverlapRule) where
  -- 1 for a fragment that is accepted
  abbrev one_accepted : List Fragment → Fragment → ℕ
  one_accepted fs f = cond (is_some (refusal_of rule fs f)) 0 1

  pub with_all_accepted-push : (fs elements : List Fragment) (f : Fragment)
      → with_all_accepted rule fs (elements ++ f ∷ [])
      ≡ with_accepted rule (with_all_accepted rule fs elements) f
  with_all_accepted-push fs [] f = refl
  with_all_accepted-push fs (p ∷ elements) f =
      with_all_accepted-push (with_accepted rule fs p) elements f

  accepted_count-push : (fs elements : List Fragment) (f : Fragment)
      → accepted_count rule fs (elements ++ f ∷ []) ≡ accepted_count rule fs elements
      + one_accepted (with_all_accepted rule fs elements) f
  accepted_count-push fs [] f = omega arith
  accepted_count-push fs (p ∷ elements) f =
      grind (arith, accepted_count-push (with_accepted rule fs p) elements f)

  -- one more of them, the element x at i
  pub accepted_more : {P : Type 0} (element : P → Fragment) (fs : List Fragment) (elements : List P)
      (i : ℕ) (x : P) → i < length elements → x ≡ get_or elements i x
      → with_all_accepted rule fs (map element (take (i + 1) elements))
      ≡ with_accepted rule (with_all_accepted rule fs (map element (take i elements))) (element x)
  accepted_more {P} element fs elements i x lt is =
      ap (λ (ps : List P). with_all_accepted rule fs (map element ps)) (take_more elements i x lt)
      ∙ ap (with_all_accepted rule fs) (map-append element (take i elements) (get_or elements i x ∷ []))
      ∙ with_all_accepted-push fs (map element (take i elements)) (element (get_or elements i x))
      ∙ ap (λ (y : P). with_accepted rule
      (with_all_accepted rule fs (map element (take i elements))) (element y)) (sym is)

  -- and the number of those that are accepted
  pub count_more : {P : Type 0} (element : P → Fragment) (fs : List Fragment) (elements : List P)
      (i : ℕ) (x : P) → i < length elements → x ≡ get_or elements i x
      → accepted_count rule fs (map element (take (i + 1) elements))
      ≡ accepted_count rule fs (map element (take i elements))
      + one_accepted (with_all_accepted rule fs (map element (take i elements))) (element x)
  count_more {P} element fs elements i x lt is =
      ap (λ (ps : List P). accepted_count rule fs (map element ps)) (take_more elements i x lt)
      ∙ ap (accepted_count rule fs) (map-append element (take i elements) (get_or elements i x ∷ []))
      ∙ accepted_count-push fs (map element (take i elements)) (element (get_or elements i x))
      ∙ ap (λ (y : P). accepted_count rule fs (map element (take i elements)) + one_accepted
      (with_all_accepted rule fs (map element (take i elements))) (element y)) (sym is)

  -- that element is where it stops
  pub stops : {P N : Type 0} (element : P → Fragment) (fs : List Fragment) (elements : List P) (i : ℕ)
      (x : P) (old buf : Contents N) (error : IpDefragError) → i < length elements
      → x ≡ get_or elements i x
      → let before = with_all_accepted rule fs (map element (take i elements)) in Shows old before
      → SameButRoom old buf → refusal_of rule before (element x) ≡ None
      → error ≡ AllocationFailure (end_of (element x))
      → Stops rule fs (map element elements) buf error
  stops {P} {N} element fs elements i x old buf error lt is shown same unrefused memory =
      let parts : elements ≡ take i elements ++ x ∷ drop (i + 1) elements =
      sym (take-append-drop i elements) ∙ ap (λ (ps : List P). take i elements ++ ps)
      (rw add-one (drop-cons elements i x lt)
      ∙ ap (λ (y : P). y ∷ drop (i + 1) elements) (sym is)) in
      record {
        before = map element (take i elements);
        next = element x;
        following = map element (drop (i + 1) elements);
        in_order = ap (map element) parts
            ∙ map-append element (take i elements) (x ∷ drop (i + 1) elements);
        shown = still_shows old buf _ same shown;
        unrefused = unrefused;
        memory = memory;
      }

-- a fragment that is taken counts
pub counted_more : (old rule : OverlapRule) (fs : List Fragment) (f : Fragment) (taken : Bool)
    (count so_far : ℕ) → is_some (refusal_of old fs f) ≡ not taken → old ≡ rule → count ≡ so_far
    → count + cond taken 1 0 ≡ so_far + cond (is_some (refusal_of rule fs f)) 0 1
counted_more old rule fs f taken count so_far is same counted = grind arith

-- the same by the same rule
pub same_refusal : (old rule : OverlapRule) (fs : List Fragment) (f : Fragment) → old ≡ rule
    → refusal_of old fs f ≡ None → refusal_of rule fs f ≡ None
same_refusal old rule fs f same is = grind arith

pub same_shown : {N : Type 0} (buf : Contents N) (old rule : OverlapRule) (fs : List Fragment)
    (f : Fragment) → old ≡ rule → Shows buf (with_accepted old fs f)
    → Shows buf (with_accepted rule fs f)
same_shown buf old rule fs f same shows =
    subst (λ (r : OverlapRule). Shows buf (with_accepted r fs f)) same shows
