-- What is known of the reassemblies of a pool when they are taken, and when they are put back.
use Rattle.std.proofs.Common.{arith, inl, inr, ◌≡◌, ◌∙◌, sym, ap, subst, ℕ, List, Option, Some, None, IsSome, true}
use Rattle.std.proofs.Common.{length}
use Rattle.etherparse.specs.declared.defrag.ip_defrag_error.IpDefragError.{IpDefragError}
use Rattle.etherparse.specs.IpDefragPool.{payload_parsed}
use Rattle.etherparse.specs.PoolCalls.{FrameAnswered, GoesOn, Lists, ShowsLists, CallResult, answer_to_frame}
use Rattle.etherparse.specs.PoolCalls.{lists_with_frame, memory_error_at_frame}
use Rattle.etherparse.specs.PoolCalls.CallResult.{Delivered}
use Rattle.etherparse.specs.packet.Class.{Class, net_class, packet_parsed}
use Rattle.etherparse.specs.packet.Class.Class.{Refused as Faulty}
use Rattle.etherparse.specs.packet.Tags.{vlan_ids_of}
use Rattle.etherparse.specs.packet.declared.net.net_slice.NetSlice.{NetSlice}
use Rattle.etherparse.specs.packet.declared.sliced_packet.SlicedPacket.{SlicedPacket}
use Rattle.etherparse.specs.packet.declared.transport.transport_slice.TransportSlice.{TransportSlice}
use Rattle.etherparse.specs.packet.declared.addresses.Addresses.{Addresses}
use Rattle.etherparse.specs.packet.declared.err.packet.slice_error.SliceError.{SliceError}
use Rattle.etherparse_structs.specs.FramePool.{HasAddresses, IsAnswered, Kept, call_result_of, addresses_in, completed}
use Rattle.etherparse_structs.specs.FramePool.{completed_if, kept_after, kept_of, kept_of_message, numbers_of}
use Rattle.etherparse_structs.specs.FramePool.{output_after, written}
use Rattle.etherparse_structs.specs.Pool.{Keeps}
use Rattle.etherparse_structs.specs.declared.added.EpAdded.{EpAdded}
use Rattle.etherparse_structs.specs.declared.frame_pool.Added.{Added}
use Rattle.etherparse_structs.specs.declared.frame_pool.Added.TheVariants as made
use Rattle.etherparse_structs.specs.declared.frame_pool.Completed.{Completed}
use Rattle.etherparse_structs.specs.declared.frame_pool.FramePool.{FramePool}
use Rattle.etherparse_structs.specs.declared.pool.EpPool.{EpPool}

-- a packet that was sliced has a class other than that of refused ones
net_is_read : (vlan_ids : List ℕ) (packet : Option NetSlice) (message : Option TransportSlice)
    → net_class vlan_ids packet message ≡ Faulty → ⊥
net_is_read vlan_ids packet message same = grind arith

pub packet_is_read : (packet : SlicedPacket) → packet_parsed packet ≡ Faulty → ⊥
packet_is_read packet same =
    net_is_read (vlan_ids_of packet.link_exts.items) packet.net packet.transport same

-- the reassemblies show these lists, and this message is kept
pub record Show (frames : FramePool) (lists : Lists) (kept : Option Kept) : Type 0 where
  pub shows : ShowsLists frames.pool lists
  pub is_kept : kept_of_message frames.kept ≡ kept

pub show_of : (x y : FramePool) (lists : Lists) (kept : Option Kept) → x ≡ y → Show y lists kept
    → Show x lists kept
show_of x y lists kept same s = subst (λ (z : FramePool). Show z lists kept) (sym same) s

-- the reassemblies that are taken, and are read as these
pub taken_show : (p : EpPool) (x y : FramePool) (lists : Lists) (kept : Option Kept)
    → Keeps p lists kept → p.held.value ≡ Some y → x ≡ y → Show x lists kept
taken_show p x y lists kept k held same = grind arith

-- the reassemblies that are put back
pub put_keeps : (p : EpPool) (x : FramePool) (lists : Lists) (kept : Option Kept)
    → p.held.value ≡ Some x → p.is_open ≡ true → Show x lists kept → Keeps p lists kept
put_keeps p x lists kept held is_open s = grind arith

-- what goes on with one proposition goes on with one that follows from it
goes_on : (ends after : Lists → Type 0) (old new : Lists) (reported answer : CallResult)
    (memory_result : Option IpDefragError) → ((l : Lists) → ends l → after l)
    → GoesOn ends old new answer memory_result reported → GoesOn after old new answer memory_result reported
goes_on ends after old new reported answer memory_result then (inl is) = inl (is.0, then new is.1)
goes_on ends after old new reported answer memory_result then (inr is) = inr (is.0, then old is.1)

pub frame_goes_on : (ends after : Lists → Type 0) (lists : Lists) (class : Class)
    (time channel : ℕ) (fault : Option SliceError) (reported : CallResult) → ((l : Lists) → ends l → after l)
    → FrameAnswered ends lists class time channel fault reported
    → FrameAnswered after lists class time channel fault reported
frame_goes_on ends after lists class time channel fault reported then a =
    goes_on ends after lists (lists_with_frame lists class time channel) reported
    (answer_to_frame lists class channel fault) (memory_error_at_frame lists class channel) then a

pub answered_then : (ends after : Lists → Option Kept → Type 0) (lists : Lists) (class : Class)
    (time channel : ℕ) (fault : Option SliceError) (old new : List ℕ) (result : EpAdded)
    → ((l : Lists) (kept : Option Kept) → ends l kept → after l kept)
    → IsAnswered ends lists class time channel fault old new result
    → IsAnswered after lists class time channel fault old new result
answered_then ends after lists class time channel fault old new result then a =
    let kept : Option Kept = kept_after (length old) (addresses_in class) a.reported in
    record {
      reported = a.reported;
      answered = frame_goes_on (λ l. ends l kept) (λ l. after l kept) lists class time channel fault
          a.reported (λ l e. then l kept e) a.answered;
      numbers = a.numbers;
      output = a.output;
    }

-- no message is kept, or one is
pub kept_none : (m : Option Completed) → kept_of_message m ≡ None → m ≡ None
kept_none m is = grind arith

pub kept_some : (m : Option Completed) (kept : Kept) → kept_of_message m ≡ Some kept → IsSome m
kept_some m kept is = grind arith

-- a frame with which no message is complete
pub none_completed : (was now : Added) (shows : Lists → Type 0) (lists : Lists) (class : Class)
    (time channel : ℕ) (fault : Option SliceError) (old new : List ℕ) (result : EpAdded)
    (kept : Option Completed) → was ≡ now
    → FrameAnswered shows lists class time channel fault (call_result_of was)
    → kept_after (length old) (addresses_in class) (call_result_of now) ≡ None → kept ≡ None
    → result ≡ numbers_of (length old) (addresses_in class) (call_result_of now)
    → new ≡ output_after old (call_result_of now)
    → IsAnswered (λ l k. shows l × (kept_of_message kept ≡ k)) lists class time channel fault old new
    result
none_completed was now shows lists class time channel fault old new result kept is answered keeps
    none numbers output =
    let reported = call_result_of now in
    let kept_then = kept_after (length old) (addresses_in class) reported in
    record {
      reported = reported;
      answered = frame_goes_on shows (λ l. shows l × (kept_of_message kept ≡ kept_then)) lists class time
          channel fault reported (λ l s. (s, ap kept_of_message none ∙ sym keeps))
          (subst (λ (a : Added). FrameAnswered shows lists class time channel fault (call_result_of a))
          is answered);
      numbers = numbers;
      output = output;
    }

-- a frame with which this message is complete
pub one_completed : (was : Added) (message : Completed) (shows after : Lists → Type 0)
    (lists : Lists) (class : Class) (time channel : ℕ) (fault : Option SliceError)
    (old new : List ℕ) (result : EpAdded) (kept : Option Completed) → was ≡ made.Completed message
    → FrameAnswered shows lists class time channel fault (call_result_of was)
    → HasAddresses (addresses_in class) was
    → result ≡ completed (length old) message.addresses (payload_parsed message.payload)
    → kept_of_message kept ≡ kept_of (length old) (Some message.addresses) (payload_parsed message.payload)
    → new ≡ written old (payload_parsed message.payload) → ((l : Lists) → shows l → after l)
    → IsAnswered (λ l k. after l × (kept_of_message kept ≡ k)) lists class time channel fault old new
    result
one_completed was message shows after lists class time channel fault old new result kept is answered
    has numbers keeps output then =
    let payload = payload_parsed message.payload in
    let between : addresses_in class ≡ Some message.addresses =
    subst (λ (a : Added). HasAddresses (addresses_in class) a) is has in
    record {
      reported = Delivered payload;
      answered = frame_goes_on shows (λ l. after l
          × (kept_of_message kept ≡ kept_of (length old) (addresses_in class) payload)) lists class time
          channel fault (Delivered payload) (λ l s. (
            then l s,
            keeps ∙ sym (ap (λ (o : Option Addresses). kept_of (length old) o payload) between),
          ))
          (subst (λ (a : Added). FrameAnswered shows lists class time channel fault (call_result_of a))
          is answered);
      numbers = numbers
          ∙ sym (ap (λ (o : Option Addresses). completed_if (length old) o payload) between);
      output = output;
    }
