-- What can't hold of two fragments, and of the first fragment of a joined text, for the laws at
-- literals.
use Rattle.std.proofs.Common.{◌≡◌, ap, refl, arith, ℕ, ◌<◌, ◌⊎◌, List, Some, [], ◌∷◌, ◌++◌, length, get_or, None}
use Rattle.std.proofs.Common.{length-append}
use Rattle.std.specs.Prelude.{All, Contains}
use Rattle.etherparse.specs.declared.defrag.ip_defrag_error.IpDefragError.{IpDefragError}
use Rattle.etherparse.specs.declared.defrag.ip_defrag_error.IpDefragError.TheVariants.{AllocationFailure}
use Rattle.etherparse.specs.declared.defrag.overlap_rule.OverlapRule.{OverlapRule}
use Rattle.etherparse.specs.Fragments.{end_of, refusal_of, with_all_accepted, AreDisjoint, Fragment, Holds, named_end}
use Rattle.etherparse.specs.Fragments.{start_of}
use Rattle.etherparse.specs.IpDefragBuf.{Contents, Shows, Stops}
use Rattle.etherparse.specs.Joined.{IsJoined, AreInRow, joined_bytes}

module _ {X : Type 0} where
  at_index_of_two : (a b x : X) (i : ℕ) → i < 2 → get_or (a ∷ b ∷ []) i x ≡ x
      → (a ≡ x) ⊎ (b ≡ x)
  at_index_of_two a b x i lt at = grind arith

  pub one_of_two : (a b x : X) → Contains (a ∷ b ∷ []) x → (a ≡ x) ⊎ (b ≡ x)
  one_of_two a b x h = at_index_of_two a b x h.0 h.1 h.2

  at_index_of_one : (a x : X) (i : ℕ) → i < 1 → get_or (a ∷ []) i x ≡ x → a ≡ x
  at_index_of_one a x i lt at = grind arith

  pub only_one : (a x : X) → Contains (a ∷ []) x → a ≡ x
  only_one a x h = at_index_of_one a x h.0 h.1 h.2

-- two disjoint fragments that cover one offset are the same
pub same_where_shared : (f g : Fragment) (p : ℕ) → AreDisjoint (f ∷ g ∷ []) → Holds f p → Holds g p
    → f ≡ g
same_where_shared f g p h here there =
    h.apart f g p (0, omega arith, refl) (1, omega arith, refl) here there

-- the second one of two disjoint fragments covers no offset at or after the end of the datagram
pub none_at_end : (f g : Fragment) (end p : ℕ) → AreDisjoint (f ∷ g ∷ [])
    → named_end (f ∷ g ∷ []) ≡ Some end → Holds g p → p < end
none_at_end f g end p h named there =
    h.within end p named (1, g, omega arith, refl, there)

-- the first fragment of a text that isn't empty
pub record FirstFragment (fs : List Fragment) (text : List ℕ) : Type 0 where
  pub leading : Fragment
  pub among : Contains fs leading
  pub prefix : start_of leading ≡ 0
  pub rest : List ℕ
  pub text_is : text ≡ leading.bytes ++ rest

first_of : (fs parts : List Fragment) (text : List ℕ) → All (Contains fs) parts → AreInRow 0 parts
    → text ≡ joined_bytes parts → (text ≡ [] → ⊥) → FirstFragment fs text
first_of fs [] text among row is some = absurd (some is)
first_of fs (f ∷ parts) text among row is some = record {
  leading = f;
  among = among 0 f (omega arith);
  prefix = row.0;
  rest = joined_bytes parts;
  text_is = is;
}

pub first_fragment : (fs : List Fragment) (text : List ℕ) → (text ≡ [] → ⊥) → IsJoined fs text
    → FirstFragment fs text
first_fragment fs text some h = first_of fs h.parts text h.among h.in_row h.text_is some

-- adding one fragment stops at it, after those of the list
pub record StopsAtOnly {Number : Type 0} (rule : OverlapRule) (fs : List Fragment) (f : Fragment)
    (buf : Contents Number) (error : IpDefragError) : Type 0 where
  pub shown : Shows buf fs
  pub unrefused : refusal_of rule fs f ≡ None
  pub memory : error ≡ AllocationFailure (end_of f)

no_more : {X : Type 0} (x y : X) (xs : List X) → x ∷ [] ≡ y ∷ xs → x ≡ y
no_more x y xs is = cc

stops_at : {Number : Type 0} (rule : OverlapRule) (fs : List Fragment) (f : Fragment)
    (buf : Contents Number) (error : IpDefragError) (before : List Fragment) (next : Fragment)
    (following : List Fragment) → f ∷ [] ≡ before ++ next ∷ following
    → Shows buf (with_all_accepted rule fs before)
    → refusal_of rule (with_all_accepted rule fs before) next ≡ None
    → error ≡ AllocationFailure (end_of next) → StopsAtOnly rule fs f buf error
stops_at rule fs f buf error [] next following is shown unrefused memory =
    let same = no_more f next following is in
    record {
      shown = shown;
      unrefused = rw same unrefused;
      memory = rw same memory;
    }
stops_at rule fs f buf error (g ∷ before) next following is shown unrefused memory =
    let long = ap length is in let rest = length-append before (next ∷ following) in
    absurd (omega arith)

pub stops_at_only : {Number : Type 0} (rule : OverlapRule) (fs : List Fragment) (f : Fragment)
    (buf : Contents Number) (error : IpDefragError) → Stops rule fs (f ∷ []) buf error
    → StopsAtOnly rule fs f buf error
stops_at_only rule fs f buf error h =
    stops_at rule fs f buf error h.before h.next h.following h.in_order h.shown h.unrefused h.memory

pub stops_nowhere : {Number : Type 0} (rule : OverlapRule) (fs : List Fragment)
    (buf : Contents Number) (error : IpDefragError) → Stops rule fs [] buf error → ⊥
stops_nowhere rule fs buf error h =
    let long = ap length h.in_order in let all = length-append h.before (h.next ∷ h.following) in
    omega arith
