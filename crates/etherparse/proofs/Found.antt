-- The outcome of a fragment, by where it is found among the stored ones.
use Rattle.std.proofs.Common.{arith, ◌≡◌, ℕ, ◌%◌, Bool, true, false, cond, not, ◌&&◌, ◌||◌, ltb, ◌⊎◌, inr, Option, Some}
use Rattle.std.proofs.Common.{None, is_some, option_map, Result, Ok, Err, List, [], ◌∷◌, ◌++◌, length, take, ap, refl}
use Rattle.std.proofs.Common.{sym, subst, ◌∙◌}
use Rattle.std.specs.List.{insert}
use Rattle.std.specs.Option.{option_and_then, option_or}
use Rattle.std.specs.Prelude.{◌==◌, IfErr, IfOk, IfSome, OnErr, OnOk}
use Rattle.etherparse.specs.declared.defrag.ip_defrag_error.IpDefragError.{IpDefragError}
use Rattle.etherparse.specs.declared.defrag.ip_defrag_error.IpDefragError.TheVariants.{AllocationFailure}
use Rattle.etherparse.specs.declared.defrag.ip_defrag_error.IpDefragError.TheVariants.{ConflictingEnd, SegmentTooBig}
use Rattle.etherparse.specs.declared.defrag.ip_defrag_error.IpDefragError.TheVariants.{OverlappingFragment}
use Rattle.etherparse.specs.declared.defrag.ip_defrag_error.IpDefragError.TheVariants.{UnalignedFragmentPayloadLen}
use Rattle.etherparse.specs.declared.defrag.ip_frag_range.IpFragRange.{IpFragRange}
use Rattle.etherparse.specs.declared.defrag.stored_fragment.StoredFragment.{StoredFragment}
use Rattle.etherparse.specs.declared.defrag.stored_fragment.Location.{Location}
use Rattle.etherparse.specs.declared.defrag.stored_fragment.Location.TheVariants.{At, Clash, Repeat}
use Rattle.etherparse.specs.declared.defrag.overlap_rule.OverlapRule.{OverlapRule}
use Rattle.etherparse.specs.declared.defrag.overlap_rule.OverlapRule.TheVariants.{Refuses}
use Rattle.etherparse.specs.Fragments.{Fragment, named_end, refusal_at, refusal_of, overlaps, IsRepeat}
use Rattle.etherparse.specs.Fragments.{start_of, end_of, with_accepted}
use Rattle.etherparse.specs.IpDefragBuf.{AnswersAdd, Contents, FindsAmong, FindsLocation, ShowsAccepted, Shows}
use Rattle.etherparse.specs.IpDefragBuf.{SameButRoom, Writes, empty_of, left_after, rule_by, rule_of, unless_refused}
use Rattle.etherparse.specs.IpDefragError.{is_overlap, is_out_of_memory}
use Rattle.etherparse.specs.IpFragRange.{AddsRange}
use Rattle.etherparse.specs.StoredFragment.{Keeps, stored_of}
use Rattle.etherparse.proofs.Rooms.{still_shows}
use Rattle.etherparse.proofs.Clash.{clashes_Decides, no_clash}
use Rattle.etherparse.proofs.Disjoint.{repeat_is_no_clash}
use Rattle.etherparse.proofs.Kept.{clash_found, gap_found, keeps_push, repeat_found, repeat_is_listed, shows_again}
use Rattle.etherparse.proofs.Lengths.{offsets_short}
use Rattle.etherparse.proofs.StoredOrder.{gap_without}
use Rattle.etherparse.proofs.Push.{Goes, shows_none}

module _ {N : Type 0} (buf : Contents N) (fs : List Fragment) (f : Fragment) (shows : Shows buf fs)
    (none : refusal_at buf.end f ≡ None) where
  pub unrefused : refusal_at (named_end fs) f ≡ None
  unrefused = subst (λ (o : Option ℕ). refusal_at o f ≡ None) shows.ended none

  by_overlap : (rule : OverlapRule) (b : Bool) → overlaps rule fs f ≡ b
      → refusal_of rule fs f ≡ cond b (Some (OverlappingFragment f.offset (length f.bytes))) None
  by_overlap rule b is = grind arith

  -- to an index
  alone_by : (o : Option (List StoredFragment)) (i : ℕ) → ShowsAccepted buf → Keeps o fs
      → FindsAmong o buf (stored_of f) f.bytes (At i) → overlaps (rule_by o) fs f ≡ false
  alone_by None i shows_accepted keeps location = refl
  alone_by (Some ms) i shows_accepted keeps location =
      no_clash fs f (gap_found buf ms fs f shows keeps unrefused i
      (λ p c. offsets_short buf fs p shows_accepted shows c) location)

  keeps_by : (o new : Option (List StoredFragment)) (i : ℕ) → ShowsAccepted buf → Keeps o fs
      → FindsAmong o buf (stored_of f) f.bytes (At i)
      → new ≡ option_map (λ ms. insert ms i (stored_of f)) o → Keeps new (fs ++ f ∷ [])
  keeps_by None new i shows_accepted keeps location is = grind arith
  keeps_by (Some ms) new i shows_accepted keeps location is =
      subst (λ (n : Option (List StoredFragment)). Keeps n (fs ++ f ∷ [])) (sym is)
      (keeps_push buf ms fs f shows keeps unrefused i
      (λ p c. offsets_short buf fs p shows_accepted shows c) location)

  pub accepted_at : (i : ℕ) → ShowsAccepted buf → FindsLocation buf (stored_of f) f.bytes (At i)
      → refusal_of (rule_of buf) fs f ≡ None
  accepted_at i shows_accepted location = grind (arith, by_overlap, alone_by)

  -- a clash
  clash_by : (o : Option (List StoredFragment)) → Keeps o fs
      → FindsAmong o buf (stored_of f) f.bytes Clash → overlaps (rule_by o) fs f ≡ true
  clash_by None keeps location = cc
  clash_by (Some ms) keeps location =
      (clashes_Decides fs f).1 (clash_found buf ms fs f shows keeps unrefused location)

  pub refused_at_clash : FindsLocation buf (stored_of f) f.bytes Clash
      → refusal_of (rule_of buf) fs f ≡ Some (OverlappingFragment f.offset (length f.bytes))
  refused_at_clash location = by_overlap (rule_of buf) true (clash_by buf.stored_fragments shows.stored_fragments location)

  -- a stored fragment again
  repeat_by : (o : Option (List StoredFragment)) → Keeps o fs
      → FindsAmong o buf (stored_of f) f.bytes Repeat → overlaps (rule_by o) fs f ≡ false
  repeat_by None keeps location = cc
  repeat_by (Some ms) keeps location =
      no_clash fs f (repeat_is_no_clash fs f keeps.disjoint unrefused
      (repeat_found buf ms fs f shows keeps unrefused location))

  pub accepted_again : FindsLocation buf (stored_of f) f.bytes Repeat
      → refusal_of (rule_of buf) fs f ≡ None
  accepted_again location = grind (arith, by_overlap, repeat_by)

  again_by : (o : Option (List StoredFragment)) → buf.stored_fragments ≡ o → Keeps o fs
      → FindsAmong o buf (stored_of f) f.bytes Repeat → Shows buf (fs ++ f ∷ [])
  again_by None is keeps location = cc
  again_by (Some ms) is keeps location =
      shows_again buf ms fs f shows keeps unrefused
      (repeat_found buf ms fs f shows keeps unrefused location) is

  pub shows_repeat : FindsLocation buf (stored_of f) f.bytes Repeat → Shows buf (fs ++ f ∷ [])
  shows_repeat location = again_by buf.stored_fragments refl shows.stored_fragments location

  -- a repeat is found as one
  found_by : (o : Option (List StoredFragment)) → Keeps o fs → rule_by o ≡ Refuses → IsRepeat fs f
      → (location : Location) → FindsAmong o buf (stored_of f) f.bytes location → location ≡ Repeat
  found_by None keeps rule at location finds = cc
  found_by (Some ms) keeps rule at Repeat finds = refl
  found_by (Some ms) keeps rule at Clash finds =
      absurd (repeat_is_no_clash fs f keeps.disjoint unrefused at
      (clash_found buf ms fs f shows keeps unrefused finds))
  found_by (Some ms) keeps rule at (At i) finds =
      absurd (gap_without ms (stored_of f) i (finds.1 keeps.listed)
      (repeat_is_listed buf ms fs f shows keeps unrefused at))

  pub repeat_is_found : rule_of buf ≡ Refuses → IsRepeat fs f → (location : Location)
      → FindsLocation buf (stored_of f) f.bytes location → location ≡ Repeat
  repeat_is_found rule at location finds = found_by buf.stored_fragments shows.stored_fragments rule at location finds

same_rule : (old new : Option (List StoredFragment)) (i : ℕ) (m : StoredFragment)
    → new ≡ option_map (λ ms. insert ms i m) old → rule_by new ≡ rule_by old
same_rule old new i m is = grind arith

-- what `insert` does, by what each step ensures
pub goes : {N : Type 0} (seen old : Contents N) (f : Fragment) (stored_fragment : StoredFragment) (i : ℕ)
    (reserved mid : List ℕ) (sections : List IpFragRange) (start : ℕ) → old ≡ seen → ShowsAccepted old
    → stored_fragment ≡ stored_of f → refusal_at seen.end f ≡ None
    → FindsLocation seen stored_fragment f.bytes (At i) → reserved ≡ old.bytes → sections ≡ old.sections
    → start ≡ stored_fragment.start → Writes reserved mid start f.bytes → (new : Contents N)
    → AddsRange sections new.sections record { start = stored_fragment.start; end = stored_fragment.end }
    → ((f.more ≡ true) × (new.bytes ≡ mid) × (new.end ≡ old.end))
    ⊎ ((f.more ≡ false) × (new.bytes ≡ take stored_fragment.end mid) × (new.end ≡ Some stored_fragment.end))
    → new.stored_fragments ≡ option_map (λ ms. insert ms i stored_fragment) old.stored_fragments
    → Goes old new f reserved mid sections stored_fragment
goes {N} seen old f stored_fragment i reserved mid sections start view shows_accepted is none location
    same_bytes same_sections start_is writes new adds cut stored_fragments =
    let unrefused : refusal_at old.end f ≡ None =
    subst (λ (b : Contents N). refusal_at b.end f ≡ None) (sym view) none in
    let found : FindsLocation old (stored_of f) f.bytes (At i) =
    subst (λ (m : StoredFragment). FindsLocation old m f.bytes (At i)) is
    (subst (λ (b : Contents N). FindsLocation b stored_fragment f.bytes (At i)) (sym view) location) in
    record {
      unrefused = unrefused;
      is_element = is;
      alone = λ fs shows. alone_by old fs f shows unrefused old.stored_fragments i shows_accepted shows.stored_fragments
          found;
      same_bytes = same_bytes;
      same_sections = same_sections;
      writes = subst (λ (n : ℕ). Writes reserved mid n f.bytes) start_is writes;
      adds = adds;
      cut = cut;
      same_rule = same_rule old.stored_fragments new.stored_fragments i stored_fragment stored_fragments;
      keeps = λ fs shows. keeps_by old fs f shows unrefused old.stored_fragments new.stored_fragments i shows_accepted
          shows.stored_fragments found (stored_fragments
          ∙ ap (λ (m : StoredFragment). option_map (λ ms. insert ms i m) old.stored_fragments) is);
    }

-- ---- what `add` finds

pub record Looked {N : Type 0} (seen : Contents N) (f : Fragment) (to : ℕ) (location : Location) : Type 0 where
  pub none : refusal_at seen.end f ≡ None
  pub end : to ≡ end_of f
  pub finds : FindsLocation seen (stored_of f) f.bytes location

unless_ok : {X : Type 0} (r : Option IpDefragError) (x y : X)
    → Ok y ≡ unless_refused r x → (r ≡ None) × (y ≡ x)
unless_ok None x y h = (refl, cc)
unless_ok (Some e) x y h = cc

pub looked : {N : Type 0} (seen : Contents N) (f : Fragment) (end : Option ℕ) (start to : ℕ)
    (location : Location) (found : Location) → end ≡ seen.end → start ≡ start_of f
    → Ok to ≡ unless_refused (refusal_at end f) (end_of f)
    → FindsLocation seen record { start = start; end = to; more_fragments = f.more } f.bytes found
    → found ≡ location → Looked seen f to location
looked seen f end start to location found end_is start_is checked finds is =
    let ok = unless_ok (refusal_at end f) (end_of f) to checked in
    record {
      none = subst (λ (o : Option ℕ). refusal_at o f ≡ None) end_is ok.0;
      end = ok.1;
      finds = subst (λ (p : Location). FindsLocation seen (stored_of f) f.bytes p) is
          (subst (λ (n : ℕ). FindsLocation seen
          record { start = n; end = end_of f; more_fragments = f.more } f.bytes found) start_is
          (subst (λ (n : ℕ). FindsLocation seen
          record { start = start; end = n; more_fragments = f.more } f.bytes found) ok.1 finds));
    }

-- out of memory is answered only to a fragment that isn't refused
pub at_index : {N X : Type 0} (seen : Contents N) (f : Fragment) (fs : List Fragment) (i : ℕ)
    (end : ℕ) (result : Result X IpDefragError) → ShowsAccepted seen → Looked seen f end (At i)
    → IfErr result (λ e. e ≡ AllocationFailure end) → Shows seen fs
    → AnswersAdd (refusal_of (rule_of seen) fs f) (end_of f) result
at_index seen f fs i end (Ok x) shows_accepted l memory shows =
    accepted_at seen fs f shows l.none i shows_accepted l.finds
at_index seen f fs i end (Err e) shows_accepted l memory shows =
    inr (accepted_at seen fs f shows l.none i shows_accepted l.finds, memory ∙ ap AllocationFailure l.end)

-- a stored fragment that comes again is found at no other index
pub only_again : {N W : Type 0} (seen : Contents N) (f : Fragment) (fs : List Fragment)
    (to : ℕ) (location : Location) → Looked seen f to location → Shows seen fs → rule_of seen ≡ Refuses
    → IsRepeat fs f → (location ≡ Repeat → W) → W
only_again seen f fs to location l shows rule at then =
    then (repeat_is_found seen fs f shows l.none rule at location l.finds)

-- ---- what `accept` does

none_or : {X : Type 0} (o n : Option X) → option_or o n ≡ None → (o ≡ None) × (n ≡ None)
none_or (Some x) n h = cc
none_or None n h = (refl, h)

no_overlap : {X : Type 0} (b : Bool) (x : X) → cond b (Some x) None ≡ None → b ≡ false
no_overlap true x h = cc
no_overlap false x h = refl

pub accepted_is : (rule : OverlapRule) (fs : List Fragment) (f : Fragment)
    → refusal_of rule fs f ≡ None → with_accepted rule fs f ≡ fs ++ f ∷ []
accepted_is rule fs f none = grind arith

-- what holds of each of the first three refusals
module _ (P : IpDefragError → Type 0) (f : Fragment)
    (long : P (SegmentTooBig f.offset (length f.bytes) 65535))
    (unaligned : P (UnalignedFragmentPayloadLen f.offset (length f.bytes)))
    (conflict : (end : ℕ) → P (ConflictingEnd end (end_of f))) where
  abbrev end_conflict : ℕ → Option IpDefragError
  end_conflict end = cond (ltb end (end_of f) || (not f.more && not (end_of f == end)))
      (Some (ConflictingEnd end (end_of f))) None

  at_end : (o : Option ℕ) → IfSome (option_and_then (λ end. end_conflict end) o) P
  at_end None = tt
  at_end (Some end) =
      elim (ltb end (end_of f) || (not f.more && not (end_of f == end))) as (λ (b : Bool). IfSome
      (cond b (Some (ConflictingEnd end (end_of f))) None) P)
      [ true ↦ conflict end | false ↦ tt ]

  pub each_refusal : (o : Option ℕ) → IfSome (refusal_at o f) P
  each_refusal o =
      elim (ltb 65535 (end_of f)) as (λ (b : Bool). IfSome (cond b
      (Some (SegmentTooBig f.offset (length f.bytes) 65535)) (cond
      (f.more && not (length f.bytes % 8 == 0))
      (Some (UnalignedFragmentPayloadLen f.offset (length f.bytes)))
      (option_and_then (λ end. end_conflict end) o))) P) [
        | true ↦ long
        | false ↦ grind arith
      ]

pub no_overlap_at : (o : Option ℕ) (f : Fragment)
    → IfSome (refusal_at o f) (λ e. is_overlap e ≡ false)
no_overlap_at o f = each_refusal (λ e. is_overlap e ≡ false) f refl refl (λ end. refl) o

pub no_memory_error : (rule : OverlapRule) (fs : List Fragment) (f : Fragment)
    → IfSome (refusal_of rule fs f) (λ e. is_out_of_memory e ≡ false)
no_memory_error rule fs f = grind arith

-- what is left after a refusal shows the fragments that are left
pub left_shows : {N : Type 0} (old new : Contents N) (fs : List Fragment) (f : Fragment)
    (e : IpDefragError) → Shows old fs → refusal_of (rule_of old) fs f ≡ Some e
    → SameButRoom (left_after e old) new → Shows new (with_accepted (rule_of old) fs f)
left_shows old new fs f e shows is left =
    elim (refusal_at (named_end fs) f) as (λ (o : Option IpDefragError).
    refusal_at (named_end fs) f ≡ o
    → option_or o (cond (overlaps (rule_of old) fs f)
    (Some (OverlappingFragment f.offset (length f.bytes))) None) ≡ Some e
    → Shows new (cond (is_some o) fs (cond (overlaps (rule_of old) fs f) [] (fs ++ f ∷ [])))) [
      | Some r ↦ λ at same.
          let one : r ≡ e = cc in
          let stays : is_overlap e ≡ false =
          subst (λ (x : IpDefragError). is_overlap x ≡ false) one
          (subst (λ (o : Option IpDefragError). IfSome o (λ x. is_overlap x ≡ false)) at
          (no_overlap_at (named_end fs) f)) in
          let all : SameButRoom old new = rw stays at left in
          still_shows old new fs all shows
      | None ↦ λ at same.
          elim (overlaps (rule_of old) fs f) as (λ (b : Bool). cond b
          (Some (OverlappingFragment f.offset (length f.bytes))) None ≡ Some e → Shows new (cond b [] (fs ++ f ∷ []))) [
            | true ↦ λ is.
                let one : OverlappingFragment f.offset (length f.bytes) ≡ e = cc in
                let gone : new ≡ empty_of old.ip_number (Some []) new.room =
                left ∙ rw (← one) refl in
                subst (λ (b : Contents _). Shows b []) (sym gone)
                (shows_none (empty_of old.ip_number (Some []) new.room) refl refl refl refl)
            | false ↦ λ is. cc
          ] same
    ] refl is

-- what `pass_over` skips
pub record PassedOver (refusal : Option IpDefragError) (end : ℕ) (e : IpDefragError)
    (result : Result Bool IpDefragError) : Type 0 where
  pub refused : OnOk result (refusal ≡ Some e)
  pub taken : IfOk result (λ taken. taken ≡ false)
  pub stays : OnErr result (is_overlap e ≡ false)
  pub memory : IfErr result (λ reported. (refusal ≡ None) × (reported ≡ AllocationFailure end))

pub passed_over : (refusal : Option IpDefragError) (end : ℕ) (e : IpDefragError)
    (result : Result Bool IpDefragError) → IfSome refusal (λ r. is_out_of_memory r ≡ false)
    → (refusal ≡ Some e) ⊎ (refusal ≡ None) × (e ≡ AllocationFailure end)
    → result ≡ cond (is_out_of_memory e) (Err e) (Ok false) → PassedOver refusal end e result
passed_over refusal end e result none h is = grind arith
