-- The fragments of one datagram, the oldest first (RFC 791, section 3.2; RFC 8200, section 4.5):
-- where each ends, which of them are accepted, and when the datagram is complete.
use Rattle.std.specs.Prelude.{◌≡◌, is_some, ℕ, ◌+◌, ◌*◌, ◌%◌, ◌<◌, ◌≤◌, ◌==◌, nat_lt, nat_le, nat_eq, Bool}
use Rattle.std.specs.Prelude.{true, false, not, ◌&&◌, ◌||◌, if◌then◌else◌, max, min, Option, Some, None, IsSome, List}
use Rattle.std.specs.Prelude.{[], ◌∷◌, ◌++◌, length, All, Any, Contains, ◌⊎◌}
use Rattle.std.specs.Bool.{beq}
use Rattle.std.specs.Cmp.Lexicographic.{pointwise}
use Rattle.std.specs.List.{list_all, list_any, range_with_len}
use Rattle.std.specs.Option.{option_and_then, option_or}
use Rattle.etherparse.specs.declared.defrag.ip_defrag_error.IpDefragError.{IpDefragError}
use Rattle.etherparse.specs.declared.defrag.ip_defrag_error.IpDefragError.TheVariants.{SegmentTooBig}
use Rattle.etherparse.specs.declared.defrag.ip_defrag_error.IpDefragError.TheVariants.{UnalignedFragmentPayloadLen}
use Rattle.etherparse.specs.declared.defrag.ip_defrag_error.IpDefragError.TheVariants.{ConflictingEnd}
use Rattle.etherparse.specs.declared.defrag.ip_defrag_error.IpDefragError.TheVariants.{OverlappingFragment}
use Rattle.etherparse.specs.declared.defrag.overlap_rule.OverlapRule.{OverlapRule}
use Rattle.etherparse.specs.declared.defrag.overlap_rule.OverlapRule.TheVariants.{Overwrites, Refuses}

-- a fragment of a datagram: its offset in units of 8 bytes, whether more fragments follow, and its
-- bytes
pub record Fragment : Type 0 where
  pub offset : ℕ
  pub more : Bool
  pub bytes : List ℕ

abbrev pub fragment : ℕ → Bool → List ℕ → Fragment
fragment offset more bytes = record { offset = offset; more = more; bytes = bytes }

-- the offset of its first byte in the datagram, in bytes
abbrev pub start_of : Fragment → ℕ
start_of f = 8 * f.offset

-- the offset after its last byte, in bytes
abbrev pub end_of : Fragment → ℕ
end_of f = start_of f + length f.bytes

-- the end of the datagram: that of a fragment after which no more follows, if there is one
abbrev pub named_end : List Fragment → Option ℕ
named_end [] = None
named_end (f ∷ fs) = (if f.more then named_end fs else Some (end_of f))

-- the greatest end of a fragment, 0 where there is none
abbrev pub greatest_end : List Fragment → ℕ
greatest_end [] = 0
greatest_end (f ∷ fs) = max (end_of f) (greatest_end fs)

-- the offset is that of one of its bytes
abbrev pub Holds : Fragment → ℕ → Type 0
Holds f p = (start_of f ≤ p) × (p < end_of f)

-- some fragment covers the offset
abbrev pub Covered : List Fragment → ℕ → Type 0
Covered fs p = Any (λ f. Holds f p) fs

-- the end of the datagram is named, and no byte below the greatest end is missing
pub record Complete (fs : List Fragment) : Type 0 where
  pub ended : IsSome (named_end fs)
  pub covered : (p : ℕ) → p < greatest_end fs → Covered fs p

-- why a fragment is refused where this end of the datagram is named, if it is: it ends after
-- 65535; more follows it, and it has no whole units of 8 bytes; it ends after that end; or it is the
-- last one and has another end
abbrev pub refusal_at : Option ℕ → Fragment → Option IpDefragError
refusal_at named f =
    (if nat_lt 65535 (end_of f) then Some (SegmentTooBig f.offset (length f.bytes) 65535)
    else (if f.more && not (length f.bytes % 8 == 0)
    then Some (UnalignedFragmentPayloadLen f.offset (length f.bytes))
    else option_and_then (λ end. if nat_lt end (end_of f) || (not f.more && not (end_of f == end))
    then Some (ConflictingEnd end (end_of f)) else None) named))

-- ---- fragments that cover the same offset

-- it is one of the list again: offset, flag and bytes are the same
abbrev pub IsRepeat : List Fragment → Fragment → Type 0
IsRepeat fs f = Contains fs f

-- some fragment of the list covers an offset that it covers
abbrev pub SharesOffset : List Fragment → Fragment → Type 0
SharesOffset fs f = (p : ℕ) × Holds f p × Covered fs p

-- some fragment of the list covers an offset at its end or after it
abbrev pub EndsBelow : List Fragment → Fragment → Type 0
EndsBelow fs f = (p : ℕ) × (end_of f ≤ p) × Covered fs p

-- it is no repeat and shares an offset with a fragment of the list; or no more follows it, and one
-- of the list covers an offset at its end or after it
abbrev pub Clashes : List Fragment → Fragment → Type 0
Clashes fs f = ((IsRepeat fs f → ⊥) × SharesOffset fs f) ⊎ ((f.more ≡ false) × EndsBelow fs f)

-- whether it is a repeat
abbrev pub is_repeat : List Fragment → Fragment → Bool
is_repeat fs f = list_any (λ g. (g.offset == f.offset)
    && (beq g.more f.more && pointwise nat_eq g.bytes f.bytes)) fs

-- whether a fragment clashes (`Clashes`), where a clash ends its datagram
abbrev pub overlaps : OverlapRule → List Fragment → Fragment → Bool
overlaps Overwrites fs f = false
overlaps Refuses fs f =
    (not (is_repeat fs f)
    && list_any (λ g. nat_lt (max (start_of g) (start_of f)) (min (end_of g) (end_of f))) fs)
    || (not f.more && list_any (λ g. nat_lt (max (start_of g) (end_of f)) (end_of g)) fs)

-- ---- the accepted fragments

-- why a fragment is refused after these, if it is
abbrev pub refusal_of : OverlapRule → List Fragment → Fragment → Option IpDefragError
refusal_of rule fs f = option_or (refusal_at (named_end fs) f)
    (if overlaps rule fs f then Some (OverlappingFragment f.offset (length f.bytes)) else None)

-- the list with this fragment at its end, unless it is refused; none where it overlaps them
abbrev pub with_accepted : OverlapRule → List Fragment → Fragment → List Fragment
with_accepted rule fs f = (if is_some (refusal_at (named_end fs) f) then fs
    else (if overlaps rule fs f then [] else fs ++ f ∷ []))

-- the list with those of the fragments that are accepted, each after those before it
abbrev pub with_all_accepted : OverlapRule → List Fragment → List Fragment → List Fragment
with_all_accepted rule fs [] = fs
with_all_accepted rule fs (f ∷ rest) = with_all_accepted rule (with_accepted rule fs f) rest

-- how many of them are accepted
abbrev pub accepted_count : OverlapRule → List Fragment → List Fragment → ℕ
accepted_count rule fs [] = 0
accepted_count rule fs (f ∷ rest) = (if is_some (refusal_of rule fs f) then 0 else 1)
    + accepted_count rule (with_accepted rule fs f) rest

-- each fragment was accepted after those before it
abbrev pub IsAccepted : OverlapRule → List Fragment → Type 0
IsAccepted rule fs = with_all_accepted rule [] fs ≡ fs

-- fragments that cover the same offset are the same fragment, and none covers an offset at the end
-- of the datagram or after it
pub record AreDisjoint (fs : List Fragment) : Type 0 where
  pub apart : (f g : Fragment) (p : ℕ) → Contains fs f → Contains fs g → Holds f p → Holds g p
      → f ≡ g
  pub within : (end p : ℕ) → named_end fs ≡ Some end → Covered fs p → p < end

-- a fragment fits into the greatest datagram, more follows it only after whole units of 8 bytes,
-- and a last one names the end
pub record AgreesWith (fs : List Fragment) (f : Fragment) : Type 0 where
  pub short : end_of f ≤ 65535
  pub whole_units : f.more ≡ true → length f.bytes % 8 ≡ 0
  pub end : f.more ≡ false → named_end fs ≡ Some (end_of f)

-- so do all fragments of an accepted list: all last ones name the same end
abbrev pub FragmentsAgree : Type 0
FragmentsAgree = (rule : OverlapRule) (fs : List Fragment) → IsAccepted rule fs
    → All (AgreesWith fs) fs

-- where overlaps are refused they are disjoint, too
abbrev pub AcceptedAreDisjoint : Type 0
AcceptedAreDisjoint = (fs : List Fragment) → IsAccepted Refuses fs → AreDisjoint fs

-- ---- the tests of these propositions

abbrev pub holds : Fragment → ℕ → Bool
holds f p = nat_le (start_of f) p && nat_lt p (end_of f)

-- whether the datagram is complete
abbrev pub is_complete : List Fragment → Bool
is_complete fs = is_some (named_end fs)
    && list_all (λ p. list_any (λ f. holds f p) fs) (range_with_len 0 (greatest_end fs))
