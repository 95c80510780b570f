-- Refusals of fragments, compared in the order in which they are declared.
use Rattle.std.specs.Prelude.{ℕ, pos, Bool, true, false, List, [], ◌∷◌, ◌++◌}
use Rattle.std.specs.Hash as fed
use Rattle.etherparse.specs.declared.defrag.ip_defrag_error.IpDefragError.{IpDefragError}
use Rattle.etherparse.specs.declared.defrag.ip_defrag_error.IpDefragError.TheVariants as error

-- the position of a refusal among the five, and its fields
abbrev pub ordered_as : IpDefragError → List ℕ
ordered_as (error.UnalignedFragmentPayloadLen offset payload_len) = 0 ∷ offset ∷ payload_len ∷ []
ordered_as (error.SegmentTooBig offset payload_len max) = 1 ∷ offset ∷ payload_len ∷ max ∷ []
ordered_as (error.ConflictingEnd previous_end conflicting_end) =
    2 ∷ previous_end ∷ conflicting_end ∷ []
ordered_as (error.AllocationFailure len) = 3 ∷ len ∷ []
ordered_as (error.OverlappingFragment offset payload_len) = 4 ∷ offset ∷ payload_len ∷ []

-- what a hasher is fed
abbrev pub hashed_as : IpDefragError → fed.HashWrites
hashed_as (error.UnalignedFragmentPayloadLen offset payload_len) =
    fed.isize (pos 0) ++ fed.u16 offset ++ fed.usize payload_len
hashed_as (error.SegmentTooBig offset payload_len max) =
    fed.isize (pos 1) ++ fed.u16 offset ++ fed.usize payload_len ++ fed.u16 max
hashed_as (error.ConflictingEnd previous_end conflicting_end) =
    fed.isize (pos 2) ++ fed.u16 previous_end ++ fed.u16 conflicting_end
hashed_as (error.AllocationFailure len) = fed.isize (pos 3) ++ fed.usize len
hashed_as (error.OverlappingFragment offset payload_len) =
    fed.isize (pos 4) ++ fed.u16 offset ++ fed.usize payload_len

-- the one that ends a reassembly
abbrev pub is_overlap : IpDefragError → Bool
is_overlap (error.UnalignedFragmentPayloadLen offset payload_len) = false
is_overlap (error.SegmentTooBig offset payload_len max) = false
is_overlap (error.ConflictingEnd previous_end conflicting_end) = false
is_overlap (error.AllocationFailure len) = false
is_overlap (error.OverlappingFragment offset payload_len) = true

-- the one that reports out of memory
abbrev pub is_out_of_memory : IpDefragError → Bool
is_out_of_memory (error.UnalignedFragmentPayloadLen offset payload_len) = false
is_out_of_memory (error.SegmentTooBig offset payload_len max) = false
is_out_of_memory (error.ConflictingEnd previous_end conflicting_end) = false
is_out_of_memory (error.AllocationFailure len) = true
is_out_of_memory (error.OverlappingFragment offset payload_len) = false
