-- Why a fragment is refused, as numbers.
use Rattle.etherparse.specs.declared.defrag.ip_defrag_error.IpDefragError.{IpDefragError}
use Rattle.etherparse.specs.declared.defrag.ip_defrag_error.IpDefragError.TheVariants.{UnalignedFragmentPayloadLen}
use Rattle.etherparse.specs.declared.defrag.ip_defrag_error.IpDefragError.TheVariants.{SegmentTooBig, ConflictingEnd}
use Rattle.etherparse.specs.declared.defrag.ip_defrag_error.IpDefragError.TheVariants.{AllocationFailure}
use Rattle.etherparse.specs.declared.defrag.ip_defrag_error.IpDefragError.TheVariants.{OverlappingFragment}
use Rattle.etherparse_structs.specs.declared.part_refusal.EpPartRefusal.{EpPartRefusal}

abbrev pub no_part_refusal : EpPartRefusal
no_part_refusal = record { kind = 0; offset = 0; previous_end = 0; end = 0; len = 0 }

abbrev pub part_refusal_of : IpDefragError → EpPartRefusal
part_refusal_of (UnalignedFragmentPayloadLen offset len) =
    record no_part_refusal { kind = 1; offset = offset; len = len }
part_refusal_of (SegmentTooBig offset len most) =
    record no_part_refusal { kind = 2; offset = offset; len = len }
part_refusal_of (ConflictingEnd previous_end end) =
    record no_part_refusal { kind = 3; previous_end = previous_end; end = end }
part_refusal_of (AllocationFailure len) = no_part_refusal
part_refusal_of (OverlappingFragment offset len) =
    record no_part_refusal { kind = 4; offset = offset; len = len }
