-- A buffer that shows fragments, with one more of them.
use Rattle.std.proofs.Common.{◌≡◌, ℕ, ◌-◌, ◌<◌, ◌≤◌, Bool, true, false, cond, ◌⊎◌, ◌↔◌, inl, inr, Option, Some, None}
use Rattle.std.proofs.Common.{List, [], ◌∷◌, ◌++◌, length, max, take, get_or, unwrap_or, arith, sym, ap, ◌∙◌, refl}
use Rattle.std.proofs.Common.{subst}
use mathlib.Core.Logic.{∥∥₁_map}
use Rattle.std.proofs.lemmas.Bool.Decides.{nat_tests}
use Rattle.std.proofs.lemmas.List.{get_or-take, get_or_past, length-take}
use Rattle.std.proofs.lemmas.List.FromFn.{fill_by_all, get_or-map-range_with_len, length-map-range_with_len}
use Rattle.std.specs.Prelude.{IfSome}
use Rattle.std.specs.List.{Any}
use Rattle.std.specs.Option.{option_or}
use Rattle.etherparse.specs.declared.defrag.ip_frag_range.IpFragRange.{IpFragRange}
use Rattle.etherparse.specs.declared.defrag.stored_fragment.StoredFragment.{StoredFragment}
use Rattle.etherparse.specs.declared.defrag.overlap_rule.OverlapRule.{OverlapRule}
use Rattle.etherparse.specs.Fragments.{Fragment, start_of, end_of, named_end, greatest_end, refusal_at, overlaps}
use Rattle.etherparse.specs.Fragments.{IsAccepted, holds}
use Rattle.etherparse.specs.IpFragRange.{HasNumber, HasOffset, AreOrdered, AddsRange}
use Rattle.etherparse.specs.FragmentBytes.{byte_at, kept_bytes}
use Rattle.etherparse.specs.IpDefragBuf.{Contents, ShowsAccepted, IsSound, Shows, Writes, rule_of}
use Rattle.etherparse.specs.StoredFragment.{Keeps, emptied, stored_of}
use Rattle.etherparse.proofs.Accepted.{with_all_accepted-push}
use Rattle.etherparse.proofs.Rooms.{sound_with_room}
use Rattle.etherparse.proofs.ListElements.{AnyOf-from_Any, Any-from_AnyOf, AnyOf-push, push-AnyOf}

-- from its first offset to the one after its last
abbrev pub range_of : Fragment → IpFragRange
range_of f = record { start = start_of f; end = end_of f }

-- the byte that it holds at an offset
abbrev pub byte_of : Fragment → ℕ → Option ℕ
byte_of f p = cond (holds f p) (Some (get_or f.bytes (p - start_of f) 0)) None

-- ---- one more fragment

-- the end that a fragment names
abbrev pub own_end : Fragment → Option ℕ
own_end f = cond f.more None (Some (end_of f))

pub named_end-push : (fs : List Fragment) (f : Fragment)
    → named_end (fs ++ f ∷ []) ≡ option_or (named_end fs) (own_end f)
named_end-push [] f = refl
named_end-push (g ∷ fs) f = grind (arith, named_end-push fs f)

pub greatest_end-push : (fs : List Fragment) (f : Fragment)
    → greatest_end (fs ++ f ∷ []) ≡ max (greatest_end fs) (end_of f)
greatest_end-push [] f = omega arith
greatest_end-push (g ∷ fs) f = omega (arith, greatest_end-push fs f)

option_or-none : {X : Type 0} (a : Option X) → option_or a None ≡ a
option_or-none None = refl
option_or-none (Some x) = refl

pub byte_at-push : (fs : List Fragment) (f : Fragment) (p : ℕ)
    → byte_at (fs ++ f ∷ []) p ≡ option_or (byte_of f p) (byte_at fs p)
byte_at-push [] f p = sym (option_or-none (byte_of f p))
byte_at-push (g ∷ fs) f p = grind (arith, byte_at-push fs f p)

-- no fragment has an offset from the greatest end on
byte_of-past : (f : Fragment) (p : ℕ) → end_of f ≤ p → byte_of f p ≡ None
byte_of-past f p h = grind (arith, nat_tests)

byte_at-past : (fs : List Fragment) (p : ℕ) → greatest_end fs ≤ p → byte_at fs p ≡ None
byte_at-past [] p h = refl
byte_at-past (f ∷ fs) p h = grind (arith, byte_at-past fs p (omega arith))

pub byte_of-here : (f : Fragment) (p : ℕ) → start_of f ≤ p → p < end_of f
    → byte_of f p ≡ Some (get_or f.bytes (p - start_of f) 0)
byte_of-here f p a b = grind (arith, nat_tests)

byte_of-before : (f : Fragment) (p : ℕ) → p < start_of f → byte_of f p ≡ None
byte_of-before f p h = grind (arith, nat_tests)

-- ---- buffers that show the same

-- an empty buffer
keeps_none : (ms : Option (List StoredFragment)) → ms ≡ emptied ms → Keeps ms []
keeps_none ms is = grind arith

pub shows_none : {N : Type 0} (buf : Contents N) → buf.bytes ≡ [] → buf.sections ≡ []
    → buf.end ≡ None → buf.stored_fragments ≡ emptied buf.stored_fragments → Shows buf []
shows_none buf bytes sections end stored_fragments = record {
  ended = end;
  kept = bytes;
  apart = rw sections tt;
  numbers = λ n. rw sections (
    (λ h. let below = h.2 in absurd (omega arith)),
    (λ h. let below = h.2 in
        absurd (omega arith)),
  );
  offsets = λ p. rw sections (
    (λ h. let below = h.2 in absurd (omega arith)),
    (λ h. let below = h.2 in
        absurd (omega arith)),
  );
  stored_fragments = keeps_none buf.stored_fragments stored_fragments;
}

pub none_listed : (ms : Option (List StoredFragment)) → IfSome ms (λ xs. xs ≡ []) → ms ≡ emptied ms
none_listed ms h = grind arith

pub emptied_twice : (old new : Option (List StoredFragment)) → new ≡ emptied old → new ≡ emptied new
emptied_twice old new h = grind arith

pub sound_none : {N : Type 0} (buf : Contents N) → buf.bytes ≡ [] → buf.sections ≡ []
    → buf.end ≡ None → buf.stored_fragments ≡ emptied buf.stored_fragments → IsSound buf
sound_none buf bytes sections end stored_fragments = record {
  shows_accepted = ∣ ([], refl, shows_none buf bytes sections end stored_fragments) ∣₁;
  ordered = rw sections tt;
}

-- a buffer of the same fields
pub sound_same : {N : Type 0} (old new : Contents N) → new.ip_number ≡ old.ip_number
    → new.bytes ≡ old.bytes → new.sections ≡ old.sections → new.end ≡ old.end
    → new.stored_fragments ≡ old.stored_fragments → IsSound old → IsSound new
sound_same old new number bytes sections end stored_fragments sound =
    subst IsSound
    (λ i. record {
      ip_number = sym number i;
      bytes = sym bytes i;
      sections = sym sections i;
      end = sym end i;
      stored_fragments = sym stored_fragments i;
      room = new.room;
    }) (sound_with_room old new.room sound)

-- ---- a fragment that is not refused

abbrev pub Agrees : Option ℕ → Fragment → Type 0
Agrees None f = Unit {0}
Agrees (Some e) f = (end_of f ≤ e) × (f.more ≡ false → end_of f ≡ e)

pub cond_none : {X : Type 0} (b : Bool) (x : X) (o : Option X) → cond b (Some x) o ≡ None
    → (b ≡ false) × (o ≡ None)
cond_none true x o h = cc
cond_none false x o h = (refl, h)

pub agrees : (named : Option ℕ) (f : Fragment) → refusal_at named f ≡ None → Agrees named f
agrees named f h = grind arith

-- ---- the contents with one more fragment

-- the end that is named after it
abbrev pub end_after : Option ℕ → Fragment → Option ℕ
end_after named f = cond f.more named (Some (end_of f))

-- the bytes after it
abbrev pub bytes_after : Fragment → List ℕ → List ℕ
bytes_after f written = cond f.more written (take (end_of f) written)

size_push : (fs : List Fragment) (f : Fragment) (old mid : List ℕ) → Agrees (named_end fs) f
    → length old ≡ unwrap_or (named_end fs) (greatest_end fs) → Writes old mid (start_of f) f.bytes
    → length (bytes_after f mid) ≡ unwrap_or (named_end (fs ++ f ∷ []))
    (greatest_end (fs ++ f ∷ []))
size_push fs f old mid ok is w = grind (arith, named_end-push, greatest_end-push, length-take)

pub end_push : (fs : List Fragment) (f : Fragment) → Agrees (named_end fs) f
    → end_after (named_end fs) f ≡ named_end (fs ++ f ∷ [])
end_push fs f ok = grind (arith, named_end-push)

-- a byte at an offset that the fragment does not cover
left_alone : (fs : List Fragment) (old : List ℕ)
    (long : length old ≡ unwrap_or (named_end fs) (greatest_end fs))
    → ((p : ℕ) → p < length old → get_or old p 0 ≡ unwrap_or (byte_at fs p) 0)
    → (p : ℕ) → ((named_end fs ≡ None) ⊎ (p < length old))
    → get_or old p 0 ≡ unwrap_or (byte_at fs p) 0
left_alone fs old long shown p h = grind (arith, get_or_past, byte_at-past)

still_there : (fs : List Fragment) (f : Fragment) (old new : List ℕ)
    → length old ≡ unwrap_or (named_end fs) (greatest_end fs)
    → length new ≡ unwrap_or (named_end (fs ++ f ∷ [])) (greatest_end (fs ++ f ∷ []))
    → (p : ℕ) → p < length new
    → (named_end fs ≡ None) ⊎ (p < length old)
still_there fs f old new was is p h = grind (arith, named_end-push)

read_after : (f : Fragment) (mid : List ℕ) (p : ℕ) → p < length (bytes_after f mid)
    → get_or (bytes_after f mid) p 0 ≡ get_or mid p 0
read_after f mid p = grind (arith, get_or-take, length-take)

byte_push : (fs : List Fragment) (f : Fragment) (p : ℕ) (o : Option ℕ) → byte_of f p ≡ o
    → unwrap_or (byte_at (fs ++ f ∷ []) p) 0 ≡ unwrap_or (option_or o (byte_at fs p)) 0
byte_push fs f p o e = grind (arith, byte_at-push)

-- the bytes that are kept, with one more fragment
kept_push : (fs : List Fragment) (f : Fragment) (old mid : List ℕ) → Agrees (named_end fs) f
    → old ≡ kept_bytes fs → Writes old mid (start_of f) f.bytes
    → bytes_after f mid ≡ kept_bytes (fs ++ f ∷ [])
kept_push fs f old mid ok kept w =
    let end = unwrap_or (named_end fs) (greatest_end fs) in
    let was : length old ≡ end = grind (arith, length-map-range_with_len) in
    let shown : (p : ℕ) → p < length old → get_or old p 0 ≡ unwrap_or (byte_at fs p) 0 =
    grind (arith, get_or-map-range_with_len) in
    let long = size_push fs f old mid ok was w in
    fill_by_all (λ p. unwrap_or (byte_at (fs ++ f ∷ []) p) 0)
    (bytes_after f mid) _ 0 long (λ p below.
    let here : p < length (bytes_after f mid) = omega arith in
    let alone = left_alone fs old was shown p
    (still_there fs f old (bytes_after f mid) was long p here) in
    grind (arith, read_after, byte_push, byte_of-before, byte_of-here, byte_of-past))

-- which numbers or offsets the ranges of the fragments have, with one more of each
any_push : (Q : IpFragRange → Type 0) (old new : List IpFragRange) (fs : List Fragment)
    (f : Fragment) → Any Q old ↔ Any (λ g. Q (range_of g)) fs → Any Q new
    ↔ (Any Q old ⊎ Q (range_of f)) → Any Q new ↔ Any (λ g. Q (range_of g)) (fs ++ f ∷ [])
any_push Q old new fs f had adds = (
  (λ h. Any-from_AnyOf (λ g. Q (range_of g)) (fs ++ f ∷ [])
      (push-AnyOf (λ g. Q (range_of g)) fs f
      (elim (adds.0 h) [
        | inl k ↦
            inl (AnyOf-from_Any (λ g. Q (range_of g)) fs (had.0 k))
        | inr k ↦ inr k
      ]))),
  (λ h. adds.1
      (elim (AnyOf-push (λ g. Q (range_of g)) fs f
      (AnyOf-from_Any (λ g. Q (range_of g)) (fs ++ f ∷ []) h))
      [ inl k ↦ inl (had.1 (Any-from_AnyOf (λ g. Q (range_of g)) fs k)) | inr k ↦ inr k ])),
)

-- the buffer with one more fragment shows one more fragment
shows_push : {N : Type 0} (old new : Contents N) (fs : List Fragment) (f : Fragment) (mid : List ℕ)
    → Shows old fs → refusal_at old.end f ≡ None
    → Writes old.bytes mid (start_of f) f.bytes → new.bytes ≡ bytes_after f mid
    → AddsRange old.sections new.sections (range_of f) → new.end ≡ end_after old.end f
    → Keeps new.stored_fragments (fs ++ f ∷ []) → Shows new (fs ++ f ∷ [])
shows_push old new fs f mid shows none w bytes added end keeps =
    let ok = agrees (named_end fs) f
    (subst (λ (o : Option ℕ). refusal_at o f ≡ None) shows.ended none) in
    record {
      ended = end ∙ ap (λ (o : Option ℕ). end_after o f) shows.ended ∙ end_push fs f ok;
      kept = bytes ∙ kept_push fs f old.bytes mid ok shows.kept w;
      apart = added.apart;
      numbers = λ n. any_push (λ s. HasNumber s n) old.sections new.sections fs f
          (shows.numbers n) (added.numbers n);
      offsets = λ p. any_push (λ s. HasOffset s p) old.sections new.sections fs f
          (shows.offsets p) (added.offsets p);
      stored_fragments = keeps;
    }

-- what `insert` does: the memory first, then the write, the range, the stored fragment, and the cut
pub record Goes {N : Type 0} (old new : Contents N) (f : Fragment) (reserved mid : List ℕ)
    (sections : List IpFragRange) (stored_fragment : StoredFragment) : Type 0 where
  pub unrefused : refusal_at old.end f ≡ None
  pub is_element : stored_fragment ≡ stored_of f
  pub alone : (fs : List Fragment) → Shows old fs → overlaps (rule_of old) fs f ≡ false
  pub same_bytes : reserved ≡ old.bytes
  pub same_sections : sections ≡ old.sections
  pub writes : Writes reserved mid stored_fragment.start f.bytes
  pub adds : AddsRange sections new.sections record { start = stored_fragment.start; end = stored_fragment.end }
  pub cut : ((f.more ≡ true) × (new.bytes ≡ mid) × (new.end ≡ old.end))
      ⊎ ((f.more ≡ false) × (new.bytes ≡ take stored_fragment.end mid) × (new.end ≡ Some stored_fragment.end))
  pub same_rule : rule_of new ≡ rule_of old
  pub keeps : (fs : List Fragment) → Shows old fs → Keeps new.stored_fragments (fs ++ f ∷ [])

pub shows_add : {N : Type 0} (old new : Contents N) (fs : List Fragment) (f : Fragment)
    (reserved mid : List ℕ) (sections : List IpFragRange) (stored_fragment : StoredFragment) → Shows old fs
    → Goes old new f reserved mid sections stored_fragment → Shows new (fs ++ f ∷ [])
shows_add old new fs f reserved mid sections stored_fragment shows goes =
    let end : stored_fragment.end ≡ end_of f = ap (λ (m : StoredFragment). m.end) goes.is_element in
    let w : Writes old.bytes mid (start_of f) f.bytes =
    subst (λ (xs : List ℕ). Writes xs mid (start_of f) f.bytes) goes.same_bytes
    (subst (λ (m : StoredFragment). Writes reserved mid m.start f.bytes) goes.is_element goes.writes) in
    let range : AddsRange old.sections new.sections (range_of f) =
    subst (λ (m : StoredFragment). AddsRange old.sections new.sections
    record { start = m.start; end = m.end }) goes.is_element
    (subst (λ (rs : List IpFragRange). AddsRange rs new.sections
    record { start = stored_fragment.start; end = stored_fragment.end }) goes.same_sections goes.adds) in
    let keeps = goes.keeps fs shows in
    elim goes.cut [
      | inl h ↦ shows_push old new fs f mid shows goes.unrefused w
          (h.1 ∙ rw h.0 refl) range (h.2 ∙ rw h.0 refl) keeps
      | inr h ↦ shows_push old new fs f mid shows goes.unrefused w (h.1 ∙ rw (h.0, end) refl) range
          (h.2 ∙ rw (h.0, end) refl) keeps
    ]

pub accepted_push : (rule : OverlapRule) (fs : List Fragment) (f : Fragment) → IsAccepted rule fs
    → refusal_at (named_end fs) f ≡ None → overlaps rule fs f ≡ false
    → IsAccepted rule (fs ++ f ∷ [])
accepted_push rule fs f is none alone = grind (arith, with_all_accepted-push)

-- the same, of a buffer that shows some accepted fragments
accepted_add : {N : Type 0} (old new : Contents N) (f : Fragment) (reserved mid : List ℕ)
    (sections : List IpFragRange) (stored_fragment : StoredFragment) → ShowsAccepted old
    → Goes old new f reserved mid sections stored_fragment → ShowsAccepted new
accepted_add old new f reserved mid sections stored_fragment shows_accepted goes =
    ∥∥₁_map shows_accepted (λ p. (
      p.0 ++ f ∷ [],
      subst (λ (r : OverlapRule). IsAccepted r (p.0 ++ f ∷ [])) (sym goes.same_rule)
          (accepted_push (rule_of old) p.0 f p.1
          (subst (λ (o : Option ℕ). refusal_at o f ≡ None) p.2.ended goes.unrefused)
          (goes.alone p.0 p.2)),
      shows_add old new p.0 f reserved mid sections stored_fragment p.2 goes,
    ))

pub sound_add : {N : Type 0} (old new : Contents N) (f : Fragment) (reserved mid : List ℕ)
    (sections : List IpFragRange) (stored_fragment : StoredFragment) → IsSound old → AreOrdered new.sections
    → Goes old new f reserved mid sections stored_fragment → IsSound new
sound_add old new f reserved mid sections stored_fragment sound ordered goes =
    record {
      shows_accepted = accepted_add old new f reserved mid sections stored_fragment sound.shows_accepted goes;
      ordered = ordered;
    }
