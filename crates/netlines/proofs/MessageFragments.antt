-- Fragments of one message, in any order, overlapping or repeated.
use Rattle.std.proofs.Common.{◌≡◌, ◌∙◌, sym, ap, refl, inl, inr, ◌⊎◌, ℕ, ◌-◌, ◌%◌, ◌<◌, ◌≤◌, [], ◌==◌, ◌&&◌, Bool, true}
use Rattle.std.proofs.Common.{false, not, cond, if◌then◌else◌, Option, Some, None, List, ◌∷◌, length, get_or, map}
use Rattle.std.proofs.Common.{unwrap_or, max, arith}
use Rattle.std.specs.List.{AllByRecursion, range_with_len}
use Rattle.std.proofs.lemmas.Bool.{le-ltb}
use Rattle.std.proofs.lemmas.Bool.Decides.{nat_tests}
use Rattle.std.proofs.lemmas.List.FromFn.{fill_by_all}
use Rattle.etherparse.specs.Fragments.{Fragment, Holds, end_of, greatest_end, holds, is_complete}
use Rattle.etherparse.specs.Fragments.{named_end, refusal_at, start_of}
use Rattle.etherparse.specs.declared.defrag.ip_defrag_error.IpDefragError.{IpDefragError}
use Rattle.etherparse.specs.FragmentBytes.{byte_at, text_of}
use Rattle.etherparse.proofs.Complete.{complete_Decides}
use Rattle.etherparse.proofs.ListElements.{AnyOf, AnyOf-from_Any}
use Rattle.etherparse.proofs.Push.{byte_of-here}

-- a fragment is one of a message: its bytes are those of the message at its offset, in whole units
-- of 8 bytes where more follow, and else up to the message's end
pub record IsFragmentOf (message : List ℕ) (f : Fragment) : Type 0 where
  pub within : end_of f ≤ length message
  pub bytes : (p : ℕ) → Holds f p → get_or f.bytes (p - start_of f) 0 ≡ get_or message p 0
  pub units : f.more ≡ true → length f.bytes % 8 ≡ 0
  pub last : f.more ≡ false → end_of f ≡ length message

abbrev pub AreFragmentsOf : List ℕ → List Fragment → Type 0
AreFragmentsOf message fs = AllByRecursion (IsFragmentOf message) fs

named-le : (fs : List Fragment) (end : ℕ) → named_end fs ≡ Some end → end ≤ greatest_end fs
named-le [] end is = cc
named-le (f ∷ fs) end is =
    elim f.more as (λ (b : Bool). cond b (named_end fs) (Some (end_of f)) ≡ Some end
    → end ≤ max (end_of f) (greatest_end fs)) [
      | true ↦ λ is. omega (arith, named-le fs end is)
      | false ↦ λ is. let same : end_of f ≡ end = cc in omega arith
    ] is

holds_is : (f : Fragment) (p : ℕ) → holds f p ≡ true → Holds f p
holds_is f p is = grind (arith, nat_tests)

module _ (message : List ℕ) where
  -- the one end that fragments name
  named_is : (fs : List Fragment) → AreFragmentsOf message fs
      → (named_end fs ≡ None) ⊎ (named_end fs ≡ Some (length message))
  named_is [] all = inl refl
  named_is (f ∷ fs) all = grind (arith, named_is fs all.1)

  pub greatest_within : (fs : List Fragment) → AreFragmentsOf message fs
      → greatest_end fs ≤ length message
  greatest_within [] all = omega arith
  greatest_within (f ∷ fs) all = omega (arith, greatest_within fs all.1, all.0.within)

  -- the byte that they hold at an offset
  byte_is : (fs : List Fragment) → AreFragmentsOf message fs → (p : ℕ)
      → (byte_at fs p ≡ None) ⊎ (byte_at fs p ≡ Some (get_or message p 0))
  byte_is [] all p = inl refl
  byte_is (f ∷ fs) all p = grind (arith, byte_is fs all.1 p)

  covered_byte : (fs : List Fragment) → AreFragmentsOf message fs → (p : ℕ)
      → AnyOf (λ f. Holds f p) fs → byte_at fs p ≡ Some (get_or message p 0)
  covered_byte [] all p h = absurd h
  covered_byte (f ∷ fs) all p (inr h) = rw (covered_byte fs all.1 p h) refl
  covered_byte (f ∷ fs) all p (inl h) = grind (arith, byte_is, byte_of-here)

  -- complete fragments reach to the end,
  pub complete_to_end : (fs : List Fragment) → AreFragmentsOf message fs → is_complete fs ≡ true
      → (p : ℕ) → p < length message → AnyOf (λ f. Holds f p) fs
  complete_to_end fs all is p below =
      let complete = (complete_Decides fs).0 is in
      elim (named_is fs all) [
        | inl none ↦ grind arith
        | inr some ↦ AnyOf-from_Any (λ f. Holds f p) fs
            (complete.covered p (omega (arith, named-le fs (length message) some)))
      ]

  -- and their contents are the message
  pub text_is : (fs : List Fragment) → AreFragmentsOf message fs → is_complete fs ≡ true
      → text_of fs ≡ message
  text_is fs all is =
      let complete = (complete_Decides fs).0 is in
      elim (named_is fs all) [
        | inl none ↦ grind arith
        | inr some ↦
            ap (λ (o : Option ℕ). map (λ p. unwrap_or (byte_at fs p) 0)
            (range_with_len 0 (unwrap_or o 0))) some
            ∙ sym (fill_by_all (λ p. unwrap_or (byte_at fs p) 0) message (length message) 0 refl
            (λ p below. sym (ap (λ (o : Option ℕ). unwrap_or o 0)
            (covered_byte fs all p (complete_to_end fs all is p below)))))
      ]

  aligned : (more : Bool) (n : ℕ) (e : IpDefragError) (o : Option IpDefragError)
      → (more ≡ true → n % 8 ≡ 0) → o ≡ None
      → (if more && not (n % 8 == 0) then Some e else o) ≡ None
  aligned more n e o is none = grind arith

  not_refused_at : (f : Fragment) → IsFragmentOf message f → length message ≤ 65535 → (o : Option ℕ)
      → (o ≡ None) ⊎ (o ≡ Some (length message)) → refusal_at o f ≡ None
  not_refused_at f posted_fragment short None h = grind (arith, le-ltb, aligned)
  not_refused_at f posted_fragment short (Some end) h = grind (arith, le-ltb, aligned)

  -- one more fragment isn't refused for its end
  pub fragment_not_refused : (fs : List Fragment) (f : Fragment) → length message ≤ 65535
      → AreFragmentsOf message fs → IsFragmentOf message f → refusal_at (named_end fs) f ≡ None
  fragment_not_refused fs f short all posted_fragment =
      not_refused_at f posted_fragment short (named_end fs) (named_is fs all)
