-- What a pool makes of a frame: what is reported of it, which message is kept, and what is written.
use Rattle.std.specs.Prelude.{◌≡◌, ⊤, ℕ, nat_lt, if◌then◌else◌, List, ◌++◌, drop, length, Option, Some, None}
use Rattle.std.specs.Option.{option_map}
use Rattle.etherparse.specs.IpDefragPool.{Payload, payload_parsed}
use Rattle.etherparse.specs.PoolCalls.{FrameAnswered, Lists, CallResult}
use Rattle.etherparse.specs.PoolCalls.CallResult.{Delivered, NoMemory, NotSliced, Nothing, Refused, Retained}
use Rattle.etherparse.specs.declared.defrag.ip_defrag_error.IpDefragError.{IpDefragError}
use Rattle.etherparse.specs.declared.defrag.ip_defrag_error.IpDefragError.TheVariants.{UnalignedFragmentPayloadLen}
use Rattle.etherparse.specs.declared.defrag.ip_defrag_error.IpDefragError.TheVariants.{SegmentTooBig, ConflictingEnd}
use Rattle.etherparse.specs.declared.defrag.ip_defrag_error.IpDefragError.TheVariants.{AllocationFailure}
use Rattle.etherparse.specs.declared.defrag.ip_defrag_error.IpDefragError.TheVariants.{OverlappingFragment}
use Rattle.etherparse.specs.packet.Class.{Class}
use Rattle.etherparse.specs.packet.Class.Class.{Whole, Cut, Other, Refused as Faulty}
use Rattle.etherparse.specs.packet.declared.addresses.Addresses.{Addresses}
use Rattle.etherparse.specs.packet.declared.err.packet.slice_error.SliceError.{SliceError}
use Rattle.etherparse_structs.specs.Message.{message_of, no_message}
use Rattle.etherparse_structs.specs.PartRefusal.{no_part_refusal, part_refusal_of}
use Rattle.etherparse_structs.specs.Refusal.{no_refusal, refusal_of}
use Rattle.etherparse_structs.specs.declared.added.EpAdded.{EpAdded}
use Rattle.etherparse_structs.specs.declared.frame_pool.Added.{Added}
use Rattle.etherparse_structs.specs.declared.frame_pool.Added.TheVariants as made
use Rattle.etherparse_structs.specs.declared.frame_pool.Completed.{Completed as Message}

-- what is reported of a frame
abbrev pub call_result_of : Added → CallResult
call_result_of made.Nothing = Nothing
call_result_of (made.Completed message) = Delivered (payload_parsed message.payload)
call_result_of (made.Refused error) = Refused error
call_result_of (made.NotSliced error) = NotSliced (Some error)

-- the addresses of a fragment
abbrev pub addresses_in : Class → Option Addresses
addresses_in (Whole addresses number bytes message) = None
addresses_in (Cut name offset more bytes) = Some name.addresses
addresses_in Other = None
addresses_in Faulty = None

-- a message that is complete goes between these
abbrev pub HasAddresses : Option Addresses → Added → Type 0
HasAddresses addresses made.Nothing = ⊤
HasAddresses addresses (made.Completed message) = addresses ≡ Some message.addresses
HasAddresses addresses (made.Refused error) = ⊤
HasAddresses addresses (made.NotSliced error) = ⊤

-- a message and the addresses between which it goes
abbrev pub Kept : Type 0
Kept = Addresses × Payload

abbrev pub kept_of_message : Option Message → Option Kept
kept_of_message None = None
kept_of_message (Some message) = Some (message.addresses, payload_parsed message.payload)

-- the numbers that are returned: of a status alone
abbrev pub added : (status : ℕ) → EpAdded
added status = record {
  status = status;
  refusal = no_refusal;
  part = no_part_refusal;
  message = no_message;
}

-- of a message that is complete, where the output has so many bytes
abbrev pub completed : (capacity : ℕ) → Addresses → Payload → EpAdded
completed capacity addresses p =
    record (added (if nat_lt capacity (length p.bytes) then 1 else 5))
    { message = message_of addresses p }

abbrev pub completed_if : (capacity : ℕ) → Option Addresses → Payload → EpAdded
completed_if capacity None p = added 0
completed_if capacity (Some addresses) p = completed capacity addresses p

-- of a fragment that is refused, or for which there is no memory
abbrev pub error_status : IpDefragError → ℕ
error_status (UnalignedFragmentPayloadLen offset len) = 3
error_status (SegmentTooBig offset len most) = 3
error_status (ConflictingEnd previous_end end) = 3
error_status (AllocationFailure len) = 2
error_status (OverlappingFragment offset len) = 3

abbrev pub fragment_refused : IpDefragError → EpAdded
fragment_refused error = record (added (error_status error)) { part = part_refusal_of error }

-- of a frame that is refused
abbrev pub frame_refused : SliceError → EpAdded
frame_refused error = record (added 3) { refusal = refusal_of error }

abbrev pub frame_refused_if : Option SliceError → EpAdded
frame_refused_if None = added 3
frame_refused_if (Some error) = frame_refused error

-- of a frame
abbrev pub numbers_of : (capacity : ℕ) → Option Addresses → CallResult → EpAdded
numbers_of capacity addresses Nothing = added 0
numbers_of capacity addresses (Delivered p) = completed_if capacity addresses p
numbers_of capacity addresses (Refused error) = fragment_refused error
numbers_of capacity addresses (NotSliced error) = frame_refused_if error
numbers_of capacity addresses Retained = added 0
numbers_of capacity addresses NoMemory = added 2

-- the message that is kept, since the output is too short for it
abbrev pub kept_of : (capacity : ℕ) → Option Addresses → Payload → Option Kept
kept_of capacity addresses p = if nat_lt capacity (length p.bytes)
    then option_map (λ a. (a, p)) addresses else None

abbrev pub kept_after : (capacity : ℕ) → Option Addresses → CallResult → Option Kept
kept_after capacity addresses Nothing = None
kept_after capacity addresses (Delivered p) = kept_of capacity addresses p
kept_after capacity addresses (Refused error) = None
kept_after capacity addresses (NotSliced error) = None
kept_after capacity addresses Retained = None
kept_after capacity addresses NoMemory = None

-- the output: it starts with a message that is no longer than it
abbrev pub written : List ℕ → Payload → List ℕ
written output p = if nat_lt (length output) (length p.bytes) then output
    else p.bytes ++ drop (length p.bytes) output

abbrev pub output_after : List ℕ → CallResult → List ℕ
output_after output Nothing = output
output_after output (Delivered p) = written output p
output_after output (Refused error) = output
output_after output (NotSliced error) = output
output_after output Retained = output
output_after output NoMemory = output

-- a frame of this class was answered, which came at this time on this channel, by the lists of all
-- names; `ends` holds of the lists then and the message that is kept
pub record IsAnswered (ends : Lists → Option Kept → Type 0) (lists : Lists) (class : Class)
    (time channel : ℕ) (fault : Option SliceError) (old new : List ℕ) (result : EpAdded)
    : Type 0 where
  pub reported : CallResult
  pub answered : FrameAnswered
      (λ next. ends next (kept_after (length old) (addresses_in class) reported))
      lists class time channel fault reported
  pub numbers : result ≡ numbers_of (length old) (addresses_in class) reported
  pub output : new ≡ output_after old reported
