-- The dissection of a packet, by its headers and by the fragments of its datagram that came before
-- it.
use Rattle.std.specs.Prelude.{◌≡◌, ℕ, Bool, true, false, Option, Some, None, IsSome, Result, Ok, Err, MatchResult}
use Rattle.etherparse.specs.IpDefragPool.{payload_parsed}
use Rattle.etherparse.specs.IpFragId.{fragment_in}
use Rattle.etherparse.specs.PoolCalls.{HasMemory, Lists, CallResult, answer_to_frame, lists_with_frame}
use Rattle.etherparse.specs.PoolCalls.CallResult.{Delivered, NoMemory, NotSliced, Nothing, Refused as FragmentRefused}
use Rattle.etherparse.specs.PoolCalls.CallResult.{Retained}
use Rattle.etherparse.specs.declared.defrag.ip_defrag_error.IpDefragError.{IpDefragError}
use Rattle.etherparse.specs.declared.defrag.ip_defrag_error.IpDefragError.TheVariants.{UnalignedFragmentPayloadLen}
use Rattle.etherparse.specs.declared.defrag.ip_defrag_error.IpDefragError.TheVariants.{SegmentTooBig, ConflictingEnd}
use Rattle.etherparse.specs.declared.defrag.ip_defrag_error.IpDefragError.TheVariants.{AllocationFailure}
use Rattle.etherparse.specs.declared.defrag.ip_defrag_error.IpDefragError.TheVariants.{OverlappingFragment}
use Rattle.ep_packet.specs.Class.{Class}
use Rattle.ep_packet.specs.Class.Class.{Cut, Other, Refused as Faulty, Whole}
use Rattle.ep_packet.specs.Readable.{ReadMessage, message_at}
use Rattle.ep_packet.specs.Readable.ReadMessage.{Icmpv4, Icmpv6, Raw, Tcp, Udp}
use Rattle.ep_packet.specs.declared.addresses.Addresses.{Addresses}
use Rattle.ep_packet.specs.declared.err.packet.slice_error.SliceError.{SliceError}
use Rattle.ep_packet.specs.declared.sliced_packet.SlicedPacket.{SlicedPacket}
use Rattle.checksum_verdicts.specs.Verdict.{verdict_of}
use Rattle.checksum_verdicts.specs.declared.verdict.Verdict.{Verdict}
use Rattle.checksum_verdicts.specs.declared.verdict.Verdict.TheVariants as verdict
use Rattle.packets.specs.declared.dissection.Fragment.{Fragment}
use Rattle.packets.specs.declared.dissection.Fragment.TheVariants.{Waits, Completes, Refused}
use Rattle.packets.specs.SourceRoute.{summed_addresses}
use Rattle.packets.specs.Started.{ShowsFragments}
use Rattle.packets.specs.declared.verification.Verification.{Verification}
use Rattle.packets.specs.declared.verification.Verification.TheVariants.{Off, Over, WithoutAddresses}
use Rattle.packets.specs.declared.datagrams.Finding.{Finding}
use Rattle.packets.specs.declared.datagrams.Datagrams.{Datagrams}

-- what is reported of a fragment, or of a packet that is none
abbrev pub fragment_result : Option Fragment → CallResult
fragment_result None = Nothing
fragment_result (Some (Waits started)) = Nothing
fragment_result (Some (Completes started message)) = Delivered (payload_parsed message)
fragment_result (Some (Refused started error)) = FragmentRefused error

-- what is reported of a packet: that it is refused, or what became of a fragment
abbrev pub packet_result : Result SlicedPacket SliceError → Option Fragment → CallResult
packet_result (Ok layers) fragment = fragment_result fragment
packet_result (Err e) fragment = NotSliced (Some e)

-- by the addresses in the pseudo header of a packet's message, if they are known
abbrev pub verification_over : Option Addresses → Verification
verification_over (Some addresses) = Over addresses
verification_over None = WithoutAddresses

-- how the checksum of a packet is verified, if checksums are
abbrev pub verification_of : (checksums : Bool) → Result SlicedPacket SliceError → Verification
verification_of false layers = Off
verification_of true (Ok packet) = verification_over (summed_addresses packet.net)
verification_of true (Err e) = WithoutAddresses

-- the verdict on the checksum of a message between these addresses in the IP header: by the
-- addresses that are summed, and without them only where no pseudo header is
abbrev pub verdict_by : Verification → (header : Addresses) → ReadMessage → Option Verdict
verdict_by (Over addresses) header message = Some (verdict_of addresses message)
verdict_by WithoutAddresses header (Icmpv4 bytes) = Some (verdict_of header (Icmpv4 bytes))
verdict_by WithoutAddresses header (Tcp bytes) = Some verdict.None
verdict_by WithoutAddresses header (Udp bytes) = Some verdict.None
verdict_by WithoutAddresses header (Icmpv6 bytes) = Some verdict.None
verdict_by WithoutAddresses header (Raw bytes) = Some verdict.None
verdict_by Off header message = None

-- of a message, if it can be read
abbrev pub verdict_if_read : Verification → Addresses → Result ReadMessage SliceError → Option Verdict
verdict_if_read verification header (Ok message) = verdict_by verification header message
verdict_if_read verification header (Err e) = None

-- of the message that a fragment completes, where it does
abbrev pub completed_verdict : Verification → Addresses → CallResult → Option Verdict
completed_verdict verification header Nothing = None
completed_verdict verification header (Delivered p) =
    verdict_if_read verification header (message_at p.ip_number.0 p.bytes)
completed_verdict verification header (FragmentRefused error) = None
completed_verdict verification header (NotSliced error) = None
completed_verdict verification header Retained = None
completed_verdict verification header NoMemory = None

-- the verdict on the checksum of a packet of a class, of which this is reported: of its message, or
-- of that which it completes
abbrev pub verdict_on : Verification → Class → CallResult → Option Verdict
verdict_on verification (Whole header number bytes message) reported =
    verdict_by verification header message
verdict_on verification (Cut name offset more bytes) reported =
    completed_verdict verification name.addresses reported
verdict_on verification Other reported = None
verdict_on verification Faulty reported = None

-- a packet of this class was answered, which came at this time on this channel: by the lists of all
-- names, and the pool shows them with it then; or memory ran out for a fragment, and it shows them
-- as they were
abbrev pub Answers : {E S H : Type 0} → (old new : Datagrams S H) → Class → (time channel : ℕ)
    → Option SliceError → Result CallResult E → Type 0
Answers old new class time channel fault result = (lists : Lists) → ShowsFragments old lists
    → MatchResult result
    (λ reported. (reported ≡ answer_to_frame lists class channel fault)
    × ShowsFragments new (lists_with_frame lists class time channel))
    (λ e. ShowsFragments new lists × IsSome (fragment_in class))

-- what is reported of a fragment, if anything is
abbrev pub found_reported : {E : Type 0} → Result Finding E → Result CallResult E
found_reported (Ok finding) = Ok (fragment_result finding.fragment)
found_reported (Err e) = Err e

-- what is reported of a packet with these headers, if anything is
abbrev pub result_if_found : {E : Type 0} → Result SlicedPacket SliceError → Result Finding E
    → Result CallResult E
result_if_found layers (Ok finding) = Ok (packet_result layers finding.fragment)
result_if_found layers (Err e) = Err e

-- memory ran out
abbrev pub is_out_of_memory : IpDefragError → Bool
is_out_of_memory (UnalignedFragmentPayloadLen offset len) = false
is_out_of_memory (SegmentTooBig offset len most) = false
is_out_of_memory (ConflictingEnd previous_end end) = false
is_out_of_memory (AllocationFailure len) = true
is_out_of_memory (OverlappingFragment offset len) = false

-- what is found in a fragment of which this is reported; nothing is where memory ran out
abbrev pub IsFound : {E : Type 0} → CallResult → Result Finding E → Type 0
IsFound reported (Ok finding) = (fragment_result finding.fragment ≡ reported) × HasMemory reported
IsFound reported (Err e) = HasMemory reported → ⊥
