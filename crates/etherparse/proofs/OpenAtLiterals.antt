-- Counts of reassemblies at literal lists.
use Rattle.std.proofs.Common.{◌≡◌, ◌≢◌, ◌∙◌, ◌&&◌, ◌↔◌, ◌≤◌, sym, ap, refl, arith, ℕ, zero, suc, true, cond, List, []}
use Rattle.std.proofs.Common.{◌∷◌, length, replicate, take}
use Rattle.std.specs.Prelude.{◌==◌, IsTrue}
use Rattle.ep_packet.specs.Class.{Class, FragmentName}
use Rattle.ep_packet.specs.Class.Class.{Cut}
use Rattle.etherparse.specs.declared.defrag.overlap_rule.OverlapRule.{OverlapRule}
use Rattle.etherparse.specs.Fragments.{Fragment, fragment}
use Rattle.etherparse.specs.Outcome.{Held, held_after, outcome}
use Rattle.etherparse.specs.declared.defrag.pool_calls.PoolCall.TheVariants.{RetainFrom}
use Rattle.etherparse.specs.IpFragId.{same_name}
use Rattle.etherparse.specs.OpenReassemblies.{AreOpen, NeverMore}
use Rattle.etherparse.specs.PoolCalls.{Lists, after_frame, lists_after, no_lists}

abbrev pub first : Fragment
first = fragment 0 true (replicate 8 1)

abbrev started : Held
started = record { fragments = first ∷ []; time = 4 }

abbrev empty : Held
empty = record { fragments = []; time = 0 }

pub some : (f : Fragment) → f ∷ [] ≢ []
some f is = let none = ap length is in omega arith

-- ---- there is none

none_open : (lists : Lists)
    → ((name : FragmentName) (channel : ℕ) → (lists name channel).fragments ≡ [])
    → (datagrams : List (FragmentName × ℕ)) → AreOpen lists datagrams → length datagrams ≤ 0
none_open lists none [] are = omega arith
none_open lists none (m ∷ datagrams) are = absurd (are.each 0 m (omega arith) (none m.0 m.1))

none_after : (lists : Lists)
    → ((name : FragmentName) (channel : ℕ) → (lists name channel).fragments ≡ [])
    → (k : ℕ) (datagrams : List (FragmentName × ℕ)) → AreOpen (lists_after lists (take k [])) datagrams
    → length datagrams ≤ 0
none_after lists none zero datagrams are = none_open lists none datagrams are
none_after lists none (suc k) datagrams are = none_open lists none datagrams are

pub never_any : NeverMore no_lists [] 0
never_any k datagrams are = none_after no_lists (λ name channel. refl) k datagrams are

pub none_dropped : NeverMore no_lists (RetainFrom 5 ∷ []) 0
none_dropped zero datagrams are = none_open no_lists (λ name channel. refl) datagrams are
none_dropped (suc k) datagrams are = none_after _ (λ name channel. refl) k datagrams are

-- ---- there are two, of one name on two channels

abbrev pub IsOpen : Lists → FragmentName × ℕ → Type 0
IsOpen lists m = (lists m.0 m.1).fragments ≢ []

pub open_on_two : (lists : Lists) (name : FragmentName) → (lists name 3).fragments ≢ []
    → (lists name 4).fragments ≢ [] → AreOpen lists ((name, 3) ∷ (name, 4) ∷ [])
open_on_two lists name one other = grind arith

-- ---- there is one

abbrev one_list : FragmentName → Lists
one_list only name channel = cond (same_name name only && (channel == 3)) started empty

module _ (same : (a b : FragmentName) → IsTrue (same_name a b) ↔ (a ≡ b)) where
  is_only : (only name : FragmentName) (channel : ℕ) → (one_list only name channel).fragments ≢ []
      → (name ≡ only) × (channel ≡ 3)
  is_only only name channel filled = grind arith

  one_open : (only : FragmentName) (datagrams : List (FragmentName × ℕ))
      → AreOpen (one_list only) datagrams → length datagrams ≤ 1
  one_open only [] are = omega arith
  one_open only (m ∷ []) are = omega arith
  one_open only (m ∷ n ∷ datagrams) are =
      let p = is_only only m.0 m.1 (are.each 0 m (omega arith)) in
      let q = is_only only n.0 n.1 (are.each 1 m (omega arith)) in
      let names = p.0 ∙ sym q.0 in let channels = p.1 ∙ sym q.1 in
      absurd (are.differ 0 1 m (omega arith) (omega arith) (λ i. (names i, channels i)))

  pub only_one : (only : FragmentName) → NeverMore (one_list only) [] 1
  only_one only zero datagrams are = one_open only datagrams are
  only_one only (suc k) datagrams are = one_open only datagrams are

  -- ---- there are more

  pub two_before : (name : FragmentName) → NeverMore (λ n c. started) (RetainFrom 5 ∷ []) 1 → ⊥
  two_before name h =
      omega (
        arith,
        h 0 ((name, 3) ∷ (
          name,
          4,
        ) ∷ []) (open_on_two (λ n c. started) name (some first) (some first)),
      )

  began : (rule : OverlapRule) → (held_after empty 4 (outcome rule [] first)).fragments ≡ first ∷ []
  began rule = grind arith

  pub started_by : (name : FragmentName) (class : Class) → class ≡ Cut name 0 true (replicate 8 1)
      → (after_frame name 3 class 4 3 empty).fragments ≡ first ∷ []
  started_by name class is = grind arith
