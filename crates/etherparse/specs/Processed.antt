-- What a pool makes of a packet, in terms of the lists that its reassemblies show.
use Rattle.std.specs.Prelude.{◌≡◌, ℕ, nat_eq, Option, None, Some, option_map, Result, Ok, IfSome, IfErr}
use Rattle.ep_packet.specs.Class.{Class}
use Rattle.ep_packet.specs.Class.Class.{Refused as Faulty}
use Rattle.ep_packet.specs.declared.err.packet.slice_error.SliceError.{SliceError}
use Rattle.etherparse.specs.declared.defrag.ip_defrag_error.IpDefragError.{IpDefragError}
use Rattle.etherparse.specs.declared.defrag.ip_defrag_payload_vec.IpDefragPayloadVec.{IpDefragPayloadVec}
use Rattle.etherparse.specs.declared.defrag.ip_frag_id.IpFragId.{IpFragId}
use Rattle.etherparse.specs.IpDefragPool.{Accepts, Refuses, same_id}
use Rattle.etherparse.specs.IpFragId.{fragment_in, id_named}
use Rattle.etherparse.specs.PoolCalls.{FrameAnswered, HasMemory, Lists, ShowsLists, CallResult, answer_to_frame}
use Rattle.etherparse.specs.PoolCalls.{as_call_result, memory_error_at_frame}
use Rattle.etherparse.specs.PoolCalls.CallResult.{Refused}
use Rattle.etherparse.specs.ReassemblyTable.{OthersStay, Pool, Stays}

-- a packet of this class was processed, which came at this time on this channel: the clauses of
-- `process_sliced_packet`
pub record Processed {T : Type 0} (old : Pool (IpFragId ℕ) T) (class : Class) (time : T) (channel : ℕ)
    (result : Result (Option IpDefragPayloadVec) IpDefragError)
    (new : Pool (IpFragId ℕ) T) : Type 0 where
  pub passed : fragment_in class ≡ None → (result ≡ Ok None) × (new ≡ old)
  pub accepted : IfSome (fragment_in class)
      (λ reported. Accepts (same_id nat_eq) old new (id_named reported.0 channel) reported.1 time result)
  pub refused : IfSome (fragment_in class)
      (λ reported. Refuses (same_id nat_eq) old (id_named reported.0 channel) reported.1 result)
  pub others : IfSome (fragment_in class)
      (λ reported. OthersStay (same_id nat_eq) (id_named reported.0 channel) old new)
  pub err : IfSome (fragment_in class) (λ reported.
      IfErr result (Stays (same_id nat_eq) (id_named reported.0 channel) old new))

-- what becomes of the packet is the answer by the lists, and the reassemblies show the lists with
-- it; or it is the out-of-memory error that may be answered in its place, and they show the lists
-- as they were
abbrev pub PacketsAreAnswered : Type 0
PacketsAreAnswered = (old new : Pool (IpFragId ℕ) ℕ) (class : Class) (time channel : ℕ)
    (result : Result (Option IpDefragPayloadVec) IpDefragError)
    → Processed old class time channel result new → (class ≡ Faulty → ⊥)
    → (fault : Option SliceError) (lists : Lists) → ShowsLists old lists
    → FrameAnswered (ShowsLists new) lists class time channel fault (as_call_result result)

-- no answer to a frame reports out of memory, and what may be answered in its place always does
pub record MemoryErrorsAreReported : Type 0 where
  pub answers : (lists : Lists) (class : Class) (channel : ℕ) (fault : Option SliceError)
      → HasMemory (answer_to_frame lists class channel fault)
  pub memory_errors : (lists : Lists) (class : Class) (channel : ℕ) (reported : CallResult)
      → option_map Refused (memory_error_at_frame lists class channel) ≡ Some reported
      → HasMemory reported → ⊥
