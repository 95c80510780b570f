-- Fragments that came in the order of their message, each from where the one before it ends.
use Rattle.std.proofs.Common.{◌≡◌, ◌∙◌, sym, ap, refl, inl, inr, ℕ, ◌%◌, ◌<◌, ◌≤◌, ◌==◌, ◌&&◌, [], Bool, true, false}
use Rattle.std.proofs.Common.{cond, not, if◌then◌else◌, List, ◌∷◌, ◌++◌, length, get_or, unwrap_or, map, Option, Some}
use Rattle.std.proofs.Common.{None, arith, length-append}
use Rattle.std.specs.List.{range_with_len}
use Rattle.std.specs.Option.{option_or}
use Rattle.std.proofs.lemmas.Bool.{cases_lt}
use Rattle.std.proofs.lemmas.Bool.Decides.{nat_tests}
use Rattle.std.proofs.lemmas.List.{get_or-append_right, get_or_append_left}
use Rattle.std.proofs.lemmas.List.FromFn.{fill_by_all}
use Rattle.etherparse.specs.declared.defrag.ip_defrag_error.IpDefragError.{IpDefragError}
use Rattle.etherparse.specs.Fragments.{Fragment, Holds, end_of, greatest_end, is_complete, named_end, overlaps}
use Rattle.etherparse.specs.Fragments.{refusal_at, refusal_of, start_of, Covered}
use Rattle.etherparse.specs.declared.defrag.overlap_rule.OverlapRule.{OverlapRule}
use Rattle.etherparse.specs.declared.defrag.overlap_rule.OverlapRule.TheVariants.{Overwrites, Refuses}
use Rattle.etherparse.specs.FragmentBytes.{byte_at, text_of}
use Rattle.etherparse.proofs.Clash.{no_clash}
use Rattle.etherparse.proofs.Complete.{complete_Decides}
use Rattle.etherparse.proofs.Disjoint.{greatest_of}
use Rattle.etherparse.proofs.ListElements.{Any-from_AnyOf, AnyOf, AnyOf-left, AnyOf-right}
use Rattle.etherparse.proofs.OutcomeLemmas.{is_taken}
use Rattle.etherparse.proofs.Push.{byte_at-push, byte_of, byte_of-here, greatest_end-push, named_end-push, own_end}

-- these fragments hold the first bytes of a message, whose end isn't named
pub record ArePrefix (fs : List Fragment) (text : List ℕ) : Type 0 where
  pub unended : named_end fs ≡ None
  pub top : greatest_end fs ≡ length text
  pub bytes : (p : ℕ) → p < length text → byte_at fs p ≡ Some (get_or text p 0)
  pub covered : (p : ℕ) → p < length text → AnyOf (λ f. Holds f p) fs

pub no_prefix : ArePrefix [] []
no_prefix = record {
  unended = refl;
  top = refl;
  bytes = λ p below. absurd (omega arith);
  covered = λ p below. absurd (omega arith);
}

byte_before : (f : Fragment) (p : ℕ) → p < start_of f → byte_of f p ≡ None
byte_before f p before = grind (arith, nat_tests)

-- one more fragment, from where they end
module _ (fs : List Fragment) (text : List ℕ) (prefix : ArePrefix fs text) (f : Fragment)
    (follows : start_of f ≡ length text) where
  joined_len : length (text ++ f.bytes) ≡ end_of f
  joined_len = omega (arith, length-append text f.bytes)

  top_with : greatest_end (fs ++ f ∷ []) ≡ length (text ++ f.bytes)
  top_with = greatest_end-push fs f ∙ omega (arith, prefix.top, joined_len)

  bytes_with : (p : ℕ) → p < length (text ++ f.bytes)
      → byte_at (fs ++ f ∷ []) p ≡ Some (get_or (text ++ f.bytes) p 0)
  bytes_with p below =
      grind (
        arith,
        byte_at-push,
        byte_before,
        get_or_append_left,
        byte_of-here,
        joined_len,
        get_or-append_right,
      )

  covered_with : (p : ℕ) → p < length (text ++ f.bytes) → AnyOf (λ g. Holds g p) (fs ++ f ∷ [])
  covered_with p below = elim (cases_lt p (length text)) [
    | inl before_it ↦ AnyOf-left (λ g. Holds g p) fs (f ∷ []) (prefix.covered p before_it)
    | inr following ↦ AnyOf-right (λ g. Holds g p) fs (f ∷ [])
        (inl (omega arith, omega (arith, joined_len)))
  ]

  ended_with : named_end (fs ++ f ∷ []) ≡ own_end f
  ended_with = named_end-push fs f ∙ ap (λ o. option_or o (own_end f)) prefix.unended

  -- one that more follow,
  pub prefix_with : f.more ≡ true → ArePrefix (fs ++ f ∷ []) (text ++ f.bytes)
  prefix_with more = record {
    unended = cc (ended_with, more);
    top = top_with;
    bytes = bytes_with;
    covered = covered_with;
  }

  pub waits_with : f.more ≡ true → is_complete (fs ++ f ∷ []) ≡ false
  waits_with more = rw (ended_with ∙ ap (λ b. cond b None (Some (end_of f))) more) refl

  -- or the last one
  module _ (last : f.more ≡ false) where
    end_is : named_end (fs ++ f ∷ []) ≡ Some (end_of f)
    end_is = ended_with ∙ ap (λ b. cond b None (Some (end_of f))) last

    pub complete_with : is_complete (fs ++ f ∷ []) ≡ true
    complete_with = (complete_Decides (fs ++ f ∷ [])).1 (record {
      ended = rw end_is refl;
      covered = λ p below. Any-from_AnyOf (λ g. Holds g p) (fs ++ f ∷ [])
          (covered_with p (omega (arith, top_with)));
    })

    pub text_with : text_of (fs ++ f ∷ []) ≡ text ++ f.bytes
    text_with =
        ap (λ (o : Option ℕ). map (λ p. unwrap_or (byte_at (fs ++ f ∷ []) p) 0)
        (range_with_len 0 (unwrap_or o 0))) end_is
        ∙ sym (fill_by_all (λ p. unwrap_or (byte_at (fs ++ f ∷ []) p) 0) (text ++ f.bytes)
        (end_of f) 0 joined_len
        (λ p below. sym (ap (λ (o : Option ℕ). unwrap_or o 0)
        (bytes_with p (omega (arith, joined_len))))))

aligned : (more : Bool) (n : ℕ) (e : IpDefragError) → (more ≡ true → n % 8 ≡ 0)
    → (if more && not (n % 8 == 0) then Some e else None) ≡ None
aligned more n e is = grind arith

-- none is refused that fits and is of whole units where more follows
unrefused_with : (fs : List Fragment) (f : Fragment) → named_end fs ≡ None → end_of f ≤ 65535
    → (f.more ≡ true → length f.bytes % 8 ≡ 0) → refusal_at (named_end fs) f ≡ None
unrefused_with fs f unended short units = grind arith

below_top : (fs : List Fragment) (p : ℕ) → Covered fs p → p < greatest_end fs
below_top fs p c = omega (arith, greatest_of fs c.1 (c.0, c.2, c.3), c.4.1)

-- one that begins where they end overlaps none
no_overlap_with : (rule : OverlapRule) (fs : List Fragment) (text : List ℕ) → ArePrefix fs text
    → (f : Fragment) → start_of f ≡ length text → overlaps rule fs f ≡ false
no_overlap_with Overwrites fs text prefix f follows = refl
no_overlap_with Refuses fs text prefix f follows = no_clash fs f (λ clash. elim clash [
  | inl h ↦
      let below = below_top fs h.1.0 h.1.2 in
      let own = h.1.1 in
      omega (arith, below, own.0, prefix.top, follows)
  | inr h ↦
      omega (arith, below_top fs h.1.0 h.1.2, h.1.1, prefix.top, follows)
])

pub taken_with : (rule : OverlapRule) (fs : List Fragment) (text : List ℕ) → ArePrefix fs text
    → (f : Fragment) → start_of f ≡ length text → end_of f ≤ 65535
    → (f.more ≡ true → length f.bytes % 8 ≡ 0) → refusal_of rule fs f ≡ None
taken_with rule fs text prefix f follows short units =
    grind (arith, is_taken, unrefused_with, no_overlap_with)
