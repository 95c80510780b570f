-- Lists of calls of a pool, and what is answered to each, by recursion: the list of a name is that
-- of its datagram alone.
use Rattle.std.specs.Prelude.{◌≡◌, ◌⊎◌, ℕ, ◌==◌, ◌&&◌, nat_eq, nat_lt, if◌then◌else◌, Option, Some, None, IfSome}
use Rattle.std.specs.Prelude.{option_map, Result, Ok, Err, List, [], ◌∷◌}
use Rattle.ep_packet.specs.Class.{Class, FragmentName, class_of}
use Rattle.ep_packet.specs.Class.Class.{Whole, Cut, Other, Refused as Faulty}
use Rattle.ep_packet.specs.Sliced.{sliced_ethernet}
use Rattle.ep_packet.specs.declared.err.packet.slice_error.SliceError.{SliceError}
use Rattle.ep_packet.specs.declared.sliced_packet.SlicedPacket.{SlicedPacket}
use Rattle.etherparse.specs.declared.defrag.ip_defrag_error.IpDefragError.{IpDefragError}
use Rattle.etherparse.specs.declared.defrag.ip_defrag_error.IpDefragError.TheVariants.{AllocationFailure}
use Rattle.etherparse.specs.declared.defrag.ip_defrag_payload_vec.IpDefragPayloadVec.{IpDefragPayloadVec}
use Rattle.etherparse.specs.declared.defrag.ip_frag_id.IpFragId.{IpFragId}
use Rattle.etherparse.specs.declared.defrag.overlap_rule.OverlapRule.{OverlapRule}
use Rattle.etherparse.specs.declared.defrag.pool_calls.PoolCall.{PoolCall}
use Rattle.etherparse.specs.declared.defrag.pool_calls.PoolCall.TheVariants.{Frame, RetainFrom}
use Rattle.etherparse.specs.declared.defrag.pool_calls.PoolAnswer.{PoolAnswer}
use Rattle.etherparse.specs.declared.defrag.pool_calls.PoolAnswer.TheVariants as pool_answer
use Rattle.etherparse.specs.declared.defrag.reassembly.Reassembly.{Reassembly}
use Rattle.etherparse.specs.Fragments.{Fragment, fragment}
use Rattle.etherparse.specs.IpDefragPool.{Payload, payload_of, payload_parsed, same_id}
use Rattle.etherparse.specs.IpFragId.{id_named, rule_over, same_name}
use Rattle.etherparse.specs.Outcome.{Held, Outcome, held_after, memory_error, outcome}
use Rattle.etherparse.specs.Outcome.Outcome.{Clash, Completed, Refusal, Waiting}
use Rattle.etherparse.specs.ReassemblyTable.{Pool, ShowsReassembly, reassembly_at}

-- the list of each name and channel
abbrev pub Lists : Type 0
Lists = FragmentName → ℕ → Held

-- the outcome of a fragment of this name by its list
abbrev pub outcome_at : Lists → FragmentName → (channel : ℕ) → Fragment → Outcome
outcome_at lists name channel f =
    outcome (rule_over name.addresses) (lists name channel).fragments f

-- what an answer reports
pub data CallResult : Type 0 where
  Nothing : CallResult
  Delivered : (payload : Payload) → CallResult
  Refused : (error : IpDefragError) → CallResult
  NotSliced : (error : Option SliceError) → CallResult
  Retained : CallResult
  NoMemory : CallResult

abbrev pub answer_result : PoolAnswer → CallResult
answer_result pool_answer.Nothing = Nothing
answer_result (pool_answer.Payload payload) = Delivered (payload_parsed payload)
answer_result (pool_answer.Refused error) = Refused error
answer_result (pool_answer.NotSliced error) = NotSliced (Some error)
answer_result pool_answer.Retained = Retained
answer_result pool_answer.NoMemory = NoMemory

-- what a call requests, in plain values: the bytes of a frame, its time and channel; or the time
-- from which reassemblies stay
pub data PoolRequest : Type 0 where
  Came : (bytes : List ℕ) → (time channel : ℕ) → PoolRequest
  Stays : (from : ℕ) → PoolRequest

abbrev pub request_of_call : PoolCall → PoolRequest
request_of_call (Frame frame time channel) = Came frame.now time channel
request_of_call (RetainFrom from) = Stays from

-- the report of what becomes of a packet
abbrev pub as_call_result : Result (Option IpDefragPayloadVec) IpDefragError → CallResult
as_call_result (Ok None) = Nothing
as_call_result (Ok (Some payload)) = Delivered (payload_parsed payload)
as_call_result (Err error) = Refused error

-- out of memory is not reported
abbrev pub HasMemory : CallResult → Type 0
HasMemory Nothing = Unit {0}
HasMemory (Delivered payload) = Unit {0}
HasMemory (Refused (AllocationFailure len)) = ⊥
HasMemory (Refused error) = Unit {0}
HasMemory (NotSliced error) = Unit {0}
HasMemory Retained = Unit {0}
HasMemory NoMemory = ⊥

-- what a frame of a class, which came at this time on another channel or the same, makes of the
-- list of a name and channel
abbrev pub after_frame : FragmentName → ℕ → Class → ℕ → ℕ → Held → Held
after_frame name channel (Cut other offset more bytes) time other_channel h =
    if same_name other name && (other_channel == channel)
    then held_after h time
    (outcome (rule_over name.addresses) h.fragments (fragment offset more bytes)) else h
after_frame name channel (Whole addresses number bytes message) time other_channel h = h
after_frame name channel Other time other_channel h = h
after_frame name channel Faulty time other_channel h = h

-- what is left of a list where reassemblies from a time on stay
abbrev pub retained_from : ℕ → Held → Held
retained_from from h = if nat_lt h.time from then record { fragments = []; time = h.time } else h

-- what a call makes of the list of a name
abbrev pub after : FragmentName → ℕ → PoolCall → Held → Held
after name channel (Frame frame time other_channel) h =
    after_frame name channel (class_of frame.now) time other_channel h
after name channel (RetainFrom from) h = retained_from from h

-- what is answered to a fragment of a datagram with this name, by its outcome
abbrev pub result_of_outcome : IpFragId ℕ → Outcome → CallResult
result_of_outcome id (Refusal error) = Refused error
result_of_outcome id (Clash error) = Refused error
result_of_outcome id (Waiting fs) = Nothing
result_of_outcome id (Completed text) = Delivered (payload_of id text)

-- the fault of a frame that isn't sliced
abbrev pub fault_in : Result SlicedPacket SliceError → Option SliceError
fault_in (Ok packet) = None
fault_in (Err error) = Some error

-- what is answered to a frame, by its class and the lists of all names
abbrev pub answer_to_frame : Lists → Class → ℕ → Option SliceError → CallResult
answer_to_frame lists (Cut name offset more bytes) channel fault =
    result_of_outcome (id_named name channel) (outcome_at lists name channel (fragment offset more bytes))
answer_to_frame lists (Whole addresses number bytes message) channel fault = Nothing
answer_to_frame lists Other channel fault = Nothing
answer_to_frame lists Faulty channel fault = NotSliced fault

abbrev pub answer_to : Lists → PoolCall → CallResult
answer_to lists (Frame frame time channel) =
    answer_to_frame lists (class_of frame.now) channel (fault_in (sliced_ethernet frame.now))
answer_to lists (RetainFrom from) = Retained

-- the lists after a frame of a class
abbrev pub lists_with_frame : Lists → Class → ℕ → ℕ → Lists
lists_with_frame lists class time channel name other =
    after_frame name other class time channel (lists name other)

-- the lists after a call
abbrev pub lists_with : Lists → PoolCall → Lists
lists_with lists call name channel = after name channel call (lists name channel)

-- the out-of-memory error that may be answered to a frame of a class, if there is one
abbrev pub memory_error_at_frame : Lists → Class → ℕ → Option IpDefragError
memory_error_at_frame lists (Cut name offset more bytes) channel =
    memory_error (fragment offset more bytes) (outcome_at lists name channel (fragment offset more bytes))
memory_error_at_frame lists (Whole addresses number bytes message) channel = None
memory_error_at_frame lists Other channel = None
memory_error_at_frame lists Faulty channel = None

-- the out-of-memory error that may be answered to a call: to drop reassemblies takes no memory
abbrev pub memory_error_at : Lists → PoolCall → Option IpDefragError
memory_error_at lists (Frame frame time channel) = memory_error_at_frame lists (class_of frame.now) channel
memory_error_at lists (RetainFrom from) = None

-- what is reported, and the lists after it: the answer, and the lists with it; or the out-of-memory
-- error that may be answered in its place, and the lists as they were
abbrev pub GoesOn : (Lists → Type 0) → (old new : Lists) → CallResult → Option IpDefragError → CallResult
    → Type 0
GoesOn ends old new answer error reported =
    (reported ≡ answer) × ends new ⊎ (option_map Refused error ≡ Some reported) × ends old

-- what is reported of a frame of a class
abbrev pub FrameAnswered : (Lists → Type 0) → Lists → Class → ℕ → ℕ
    → Option SliceError → CallResult → Type 0
FrameAnswered ends lists class time channel fault reported =
    GoesOn ends lists (lists_with_frame lists class time channel)
    (answer_to_frame lists class channel fault) (memory_error_at_frame lists class channel) reported

-- what is reported of a call
abbrev pub Answered : (Lists → Type 0) → Lists → PoolCall → CallResult → Type 0
Answered ends lists call reported = GoesOn ends lists (lists_with lists call) (answer_to lists call)
    (memory_error_at lists call) reported

-- what is reported of all calls in turn; `ends` holds of the lists after the last one
abbrev pub CallsAnswered : (Lists → Type 0) → Lists → List PoolCall → List CallResult → Type 0
CallsAnswered ends lists [] [] = ends lists
CallsAnswered ends lists [] (reported ∷ tolds) = ⊥
CallsAnswered ends lists (call ∷ calls) [] = ⊥
CallsAnswered ends lists (call ∷ calls) (reported ∷ tolds) =
    Answered (λ next. CallsAnswered ends next calls tolds) lists call reported

-- the answers where no memory is lacking
abbrev pub answers : Lists → List PoolCall → List CallResult
answers lists [] = []
answers lists (call ∷ calls) = answer_to lists call ∷ answers (lists_with lists call) calls

-- the lists after all calls where no memory is lacking
abbrev pub lists_after : Lists → List PoolCall → Lists
lists_after lists [] = lists
lists_after lists (call ∷ calls) = lists_after (lists_with lists call) calls

-- no fragment was accepted
abbrev pub no_lists : Lists
no_lists name channel = record { fragments = []; time = 0 }

-- a reassembly is there exactly where the list has a fragment, and shows its fragments and its time
abbrev pub ShowsHeld : OverlapRule → Option (Reassembly ℕ) → Held → Type 0
ShowsHeld rule reassembly h =
    ShowsReassembly rule reassembly h.fragments × IfSome reassembly (λ s. s.timestamp ≡ h.time)

-- each reassembly shows the list of its name
abbrev pub ShowsLists : Pool (IpFragId ℕ) ℕ → Lists → Type 0
ShowsLists pool lists = (name : FragmentName) (channel : ℕ)
    → ShowsHeld (rule_over name.addresses)
    (reassembly_at (same_id nat_eq) pool (id_named name channel)) (lists name channel)
