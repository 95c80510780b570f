-- The fragments that a message is posted in are one cut of it.
use Rattle.std.proofs.Common.{◌≡◌, ◌∙◌, sym, ap, subst, inl, inr, ℕ, ◌+◌, ◌-◌, ◌/◌, [], ◌<◌, ◌≤◌, true, false, List}
use Rattle.std.proofs.Common.{◌∷◌, length, take, drop, map, get_or, arith}
use Rattle.std.specs.List.{AllByRecursion}
use Rattle.std.proofs.lemmas.List.{get_or-drop, get_or-take}
use Rattle.etherparse.specs.Fragments.{Fragment, Holds, end_of, fragment, start_of}
use Rattle.netlines.specs.Posted.{PostedFragment, fragments_from}
use Rattle.etherparse.proofs.ListElements.{AnyOf}
use Rattle.netlines.proofs.CoverLemmas.{IsFragmentationOf, IsIn, all-in}
use Rattle.netlines.proofs.MessageFragments.{AreFragmentsOf, IsFragmentOf}
use Rattle.netlines.proofs.PostedFragments.{Goes, goes_after, is_good, text_len}

-- a posted fragment as one of a reassembly
abbrev pub pool_fragment : PostedFragment → Fragment
pool_fragment posted_fragment = fragment posted_fragment.offset posted_fragment.more posted_fragment.text

-- the fragments from an offset of the message on: one cut of the bytes there
record IsFragmentationFrom (message : List ℕ) (start : ℕ) (parts : List Fragment) : Type 0 where
  fragments : AreFragmentsOf message parts
  some : AllByRecursion (λ f. start_of f < end_of f) parts
  following : AllByRecursion (λ f. start ≤ start_of f) parts
  cover : (p : ℕ) → start ≤ p → p < length message → AnyOf (λ f. Holds f p) parts
  apart : (f g : Fragment) (p : ℕ) → IsIn f parts → IsIn g parts → Holds f p → Holds g p → f ≡ g
  last : AnyOf (λ f. f.more ≡ false) parts

module _ (message : List ℕ) (room : ℕ) where
  -- one fragment before them
  module _ (start cut : ℕ) (f : Fragment) (parts : List Fragment) (from : start_of f ≡ start)
      (to : end_of f ≡ cut) (some : start < cut) (posted_fragment : IsFragmentOf message f)
      (rest : IsFragmentationFrom message cut parts) where
    later : (g : Fragment) (p : ℕ) → IsIn g parts → Holds f p → Holds g p → ⊥
    later g p in' here there = grind (arith, all-in)

    apart_with : (g h : Fragment) (p : ℕ) → IsIn g (f ∷ parts) → IsIn h (f ∷ parts) → Holds g p
        → Holds h p → g ≡ h
    apart_with g h p (inl a) (inl b) at_g at_h = sym a ∙ b
    apart_with g h p (inl a) (inr b) at_g at_h =
        absurd (later h p b (subst (λ (x : Fragment). Holds x p) (sym a) at_g) at_h)
    apart_with g h p (inr a) (inl b) at_g at_h =
        absurd (later g p a (subst (λ (x : Fragment). Holds x p) (sym b) at_h) at_g)
    apart_with g h p (inr a) (inr b) at_g at_h = rest.apart g h p a b at_g at_h

    farther : (gs : List Fragment) → AllByRecursion (λ g. cut ≤ start_of g) gs
        → AllByRecursion (λ g. start ≤ start_of g) gs
    farther [] all = tt
    farther (g ∷ gs) all = (omega (arith, all.0, some), farther gs all.1)

    fragmentation_with : IsFragmentationFrom message start (f ∷ parts)
    fragmentation_with = record {
      fragments = (posted_fragment, rest.fragments);
      some = (omega (arith, from, to, some), rest.some);
      following = (omega (arith, from), farther parts rest.following);
      cover = grind arith;
      apart = apart_with;
      last = inr rest.last;
    }

  -- the bytes from an offset of the message on
  abbrev StandsAt : ℕ → List ℕ → Type 0
  StandsAt start rest = (i : ℕ) → get_or rest i 0 ≡ get_or message (start + i) 0

  fragmentation_from : (start : ℕ) (later rest : List ℕ) → Goes room (length message) start later rest
      → start < length message → StandsAt start rest
      → IsFragmentationFrom message start (map pool_fragment (fragments_from start later rest))
  fragmentation_from start [] rest goes below stands = grind arith
  fragmentation_from start (cut ∷ later) rest goes below stands =
      let text = take (cut - start) rest in
      let f : Fragment = fragment (start / 8) true text in
      let good = is_good room (length message) start cut later rest goes in
      let size = text_len room (length message) start cut later rest goes in
      let from : start_of f ≡ start = omega (arith, goes.units) in
      let to : end_of f ≡ cut = omega (arith, from, size, good.following) in
      let posted_fragment : IsFragmentOf message f = grind (arith, get_or-take) in
      fragmentation_with start cut f (map pool_fragment (fragments_from cut later (drop (cut - start) rest))) from to
      good.following posted_fragment
      (fragmentation_from cut later (drop (cut - start) rest)
      (goes_after room (length message) start cut later rest goes) good.within
      (λ i. get_or-drop (cut - start) rest i 0 ∙ stands (cut - start + i)
      ∙ ap (λ (k : ℕ). get_or message k 0) (omega (arith, good.following))))

  pub fragmentation_is : (cuts : List ℕ) → Goes room (length message) 0 cuts message → 0 < length message
      → IsFragmentationOf message (map pool_fragment (fragments_from 0 cuts message))
  fragmentation_is cuts goes some =
      let all = fragmentation_from 0 cuts message goes some
      (λ i. ap (λ (k : ℕ). get_or message k 0) (omega arith)) in
      record {
        fragments = all.fragments;
        some = all.some;
        cover = λ p below. all.cover p (omega arith) below;
        apart = all.apart;
        last = all.last;
      }
