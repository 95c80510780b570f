-- What the pool reports of a fragment.
use Rattle.std.proofs.Common.{arith, inl, inr, ◌≡◌, ◌∙◌, refl, sym, subst, ℕ, true, false, nat_eq, Option, None, Result}
use Rattle.std.proofs.Common.{Ok, Err}
use Rattle.std.specs.Prelude.{IfErr, IfSome, IsSome, MatchResult}
use Rattle.etherparse.specs.IpDefragPool.{Accepts, Refuses, same_id}
use Rattle.etherparse.specs.IpFragId.{fragment_in, id_named}
use Rattle.etherparse.specs.PoolCalls.{FrameAnswered, HasMemory, Lists, ShowsLists, CallResult, answer_to_frame}
use Rattle.etherparse.specs.PoolCalls.{lists_with_frame, as_call_result}
use Rattle.etherparse.specs.PoolCalls.CallResult.{Refused}
use Rattle.etherparse.specs.Processed.{PacketsAreAnswered, Processed, MemoryErrorsAreReported}
use Rattle.etherparse.specs.ReassemblyTable.{OthersStay, Pool, Stays}
use Rattle.etherparse.specs.declared.defrag.ip_defrag_payload_vec.IpDefragPayloadVec.{IpDefragPayloadVec}
use Rattle.etherparse.specs.declared.defrag.ip_frag_id.IpFragId.{IpFragId}
use Rattle.etherparse.specs.declared.defrag.ip_defrag_error.IpDefragError.{IpDefragError}
use Rattle.ep_packet.specs.Class.{FragmentName, as_class, sliced_class, packet_parsed}
use Rattle.ep_packet.specs.Class.Class.{Cut, Refused as Faulty}
use Rattle.ep_packet.specs.declared.class.Class.TheVariants as cut
use Rattle.ep_packet.specs.declared.class.IpFragment.{IpFragment}
use Rattle.ep_packet.specs.declared.err.packet.slice_error.SliceError.{SliceError}
use Rattle.ep_packet.specs.declared.net.net_slice.NetSlice.TheVariants as net
use Rattle.ep_packet.specs.declared.sliced_packet.SlicedPacket.{SlicedPacket}
use Rattle.packets.specs.Dissected.{IsFound, found_reported, is_out_of_memory, result_if_found}
use Rattle.packets.specs.declared.datagrams.Finding.{Finding}

-- a fragment is none of the packets that are refused, and is one that the pool takes
cut_sound : (message : IpFragment) → as_class (cut.Cut message) ≡ Faulty → ⊥
cut_sound message is = cc

cut_is_fragment : (message : IpFragment) → fragment_in (as_class (cut.Cut message)) ≡ None → ⊥
cut_is_fragment message none = cc

-- the name of the datagram that a fragment belongs to
abbrev pub name_of_fragment : IpFragment → FragmentName
name_of_fragment message = record {
  vlan_ids = message.vlan_ids.items;
  addresses = message.addresses;
  identification = message.identification;
  number = message.ip_number.0;
}

pub fragment_processed : {T : Type 0} (old new : Pool (IpFragId ℕ) T) (message : IpFragment) (time : T)
    (channel : ℕ) (result : Result (Option IpDefragPayloadVec) IpDefragError)
    → IfSome (fragment_in (as_class (cut.Cut message))) (λ reported.
    Accepts (same_id nat_eq) old new (id_named reported.0 channel) reported.1 time result)
    → IfSome (fragment_in (as_class (cut.Cut message))) (λ reported.
    Refuses (same_id nat_eq) old (id_named reported.0 channel) reported.1 result)
    → IfSome (fragment_in (as_class (cut.Cut message))) (λ reported.
    OthersStay (same_id nat_eq) (id_named reported.0 channel) old new)
    → IfSome (fragment_in (as_class (cut.Cut message))) (λ reported.
    IfErr result (Stays (same_id nat_eq) (id_named reported.0 channel) old new))
    → Processed old (as_class (cut.Cut message)) time channel result new
fragment_processed old new message time channel result accepted refused others err = record {
  passed = λ none. absurd (cut_is_fragment message none);
  accepted = accepted;
  refused = refused;
  others = others;
  err = err;
}

-- what the pool made of a fragment
module _ (answered : PacketsAreAnswered) (notify : MemoryErrorsAreReported) (old new : Pool (IpFragId ℕ) ℕ)
    (message : IpFragment) (time channel : ℕ)
    (result : Result (Option IpDefragPayloadVec) IpDefragError)
    (processed : Processed old (as_class (cut.Cut message)) time channel result new)
    (lists : Lists) (shows : ShowsLists old lists) where
  answered_by : FrameAnswered (ShowsLists new) lists (as_class (cut.Cut message)) time channel None
      (as_call_result result)
  answered_by = answered old new (as_class (cut.Cut message)) time channel result processed
      (cut_sound message) None lists shows

  reported_with : HasMemory (as_call_result result)
      → (as_call_result result ≡ answer_to_frame lists (as_class (cut.Cut message)) channel None)
      × ShowsLists new (lists_with_frame lists (as_class (cut.Cut message)) time channel)
  reported_with has = elim answered_by [
    | inl goes_on ↦ goes_on
    | inr memory_errors ↦
        absurd (notify.memory_errors lists (as_class (cut.Cut message)) channel (as_call_result result) memory_errors.0 has)
  ]

  fragment_takes_memory : (r : Result (Option IpDefragPayloadVec) IpDefragError) → result ≡ r
      → (HasMemory (as_call_result r) → ⊥) → ShowsLists new lists
  fragment_takes_memory r is lacks = elim answered_by [
    | inl goes_on ↦
        absurd (lacks
        (subst (λ (q : Result (Option IpDefragPayloadVec) IpDefragError). HasMemory
        (as_call_result q)) is
        (subst HasMemory (sym goes_on.0) (notify.answers lists (as_class (cut.Cut message)) channel None))))
    | inr memory_errors ↦ memory_errors.1
  ]

  pub fragment_found : {E : Type 0} → (r : Result Finding E) → IsFound (as_call_result result) r
      → MatchResult (found_reported r)
      (λ reported. (reported ≡ answer_to_frame lists (as_class (cut.Cut message)) channel None)
      × ShowsLists new (lists_with_frame lists (as_class (cut.Cut message)) time channel))
      (λ e. ShowsLists new lists × IsSome (fragment_in (as_class (cut.Cut message))))
  fragment_found (Ok finding) found =
      let a = reported_with found.1 in (found.0 ∙ a.0, a.1)
  fragment_found (Err e) lacks = (fragment_takes_memory result refl lacks, refl)

-- an error other than an allocation failure does not report that memory ran out
pub refused_has_memory : (e : IpDefragError) → is_out_of_memory e ≡ false → HasMemory (Refused e)
refused_has_memory e is = grind arith

pub out_of_memory_has_none : (e : IpDefragError) → is_out_of_memory e ≡ true → HasMemory (Refused e) → ⊥
out_of_memory_has_none e is has = grind arith

-- of a packet without a fault what is found is reported
pub found_alike : {E : Type 0} (layers : SlicedPacket) (found : Result Finding E)
    → result_if_found (Ok layers) found ≡ found_reported found
found_alike layers (Ok finding) = refl
found_alike layers (Err e) = refl

-- nothing is found in a packet only where memory ran out
pub none_found : {E : Type 0} (layers reported : Result SlicedPacket SliceError)
    (found : Result Finding E) (e : E) (P : CallResult → Type 0) (stay : Type 0)
    → MatchResult (result_if_found layers found) P
    (λ failure. stay × IsSome (fragment_in (sliced_class layers))) → found ≡ Err e → layers ≡ reported
    → stay × IsSome (fragment_in (sliced_class reported))
none_found {E = E} layers reported found e P stay answers is same =
    subst (λ (l : Result SlicedPacket SliceError). stay × IsSome (fragment_in (sliced_class l))) same
    (subst (λ (r : Result Finding E). MatchResult (result_if_found layers r) P
    (λ failure. stay × IsSome (fragment_in (sliced_class layers)))) is answers)

pub packet_sound : (packet : SlicedPacket) → packet_parsed packet ≡ Faulty → ⊥
packet_sound packet is = grind arith
