-- The outcome of a fragment, by those of its datagram that were accepted before it (RFC 791,
-- section 3.2; RFC 8200, section 4.5). The fragments that are held after it, what is answered to
-- it, and the out-of-memory error that may be answered in place of that are each a function of this
-- one value.
use Rattle.std.specs.Prelude.{ℕ, if◌then◌else◌, Option, Some, None, List, [], ◌∷◌, ◌++◌, length}
use Rattle.std.specs.Option.{option_map_or}
use Rattle.etherparse.specs.declared.defrag.ip_defrag_error.IpDefragError.{IpDefragError}
use Rattle.etherparse.specs.declared.defrag.ip_defrag_error.IpDefragError.TheVariants.{AllocationFailure}
use Rattle.etherparse.specs.declared.defrag.ip_defrag_error.IpDefragError.TheVariants.{OverlappingFragment}
use Rattle.etherparse.specs.declared.defrag.overlap_rule.OverlapRule.{OverlapRule}
use Rattle.etherparse.specs.Fragments.{Fragment, end_of, is_complete, named_end, overlaps, refusal_at}
use Rattle.etherparse.specs.FragmentBytes.{text_of}

-- it is refused with an error; or it is refused since it overlaps, and its reassembly starts anew,
-- with no fragment; or it is accepted, and its datagram waits for more with these fragments, or is
-- complete with this text
pub data Outcome : Type 0 where
  Refusal : (error : IpDefragError) → Outcome
  Clash : (error : IpDefragError) → Outcome
  Waiting : (fragments : List Fragment) → Outcome
  Completed : (text : List ℕ) → Outcome

-- that of a fragment after those that were accepted: a refusal where there is a reason, and else by
-- whether it overlaps, and by whether the datagram is complete with it
abbrev pub outcome : OverlapRule → List Fragment → Fragment → Outcome
outcome rule fs f = option_map_or Refusal (refusal_at (named_end fs) f)
    (if overlaps rule fs f then Clash (OverlappingFragment f.offset (length f.bytes))
    else (if is_complete (fs ++ f ∷ []) then Completed (text_of (fs ++ f ∷ []))
    else Waiting (fs ++ f ∷ [])))

-- the error that refuses it
abbrev pub error_of : Outcome → Option IpDefragError
error_of (Refusal error) = Some error
error_of (Clash error) = Some error
error_of (Waiting fs) = None
error_of (Completed text) = None

-- the error that reports out of memory for a fragment: none for one that is refused
abbrev pub memory_error : Fragment → Outcome → Option IpDefragError
memory_error f (Refusal error) = None
memory_error f (Clash error) = None
memory_error f (Waiting fs) = Some (AllocationFailure (end_of f))
memory_error f (Completed text) = Some (AllocationFailure (end_of f))

-- the fragments of a datagram that were accepted since none was held, and the time of the last one
pub record Held : Type 0 where
  pub fragments : List Fragment
  pub time : ℕ

-- what is held after a fragment that came at this time: the same after one that is refused, and no
-- fragment of a datagram that is complete, or that one overlaps
abbrev pub held_after : Held → (time : ℕ) → Outcome → Held
held_after h time (Refusal error) = h
held_after h time (Clash error) = record { fragments = []; time = time }
held_after h time (Waiting fs) = record { fragments = fs; time = time }
held_after h time (Completed text) = record { fragments = []; time = time }
