-- The result of a call that advances to the next packet.
use Rattle.std.proofs.Common.{◌≡◌, sym, ap, refl, subst, ℕ, ◌≤◌, arith, false, List, ◌++◌, length, Option, Some, Result}
use Rattle.std.proofs.Common.{Ok, Err}
use Rattle.std.specs.Io.KnownBytes.{IsAtEnd}
use Rattle.std.specs.Prelude.{Bool, true, None}
use Rattle.captures.specs.Dropped.{IsDropped}
use Rattle.captures.specs.Readers.{ComesTo, EndsBy, FindsPacket, HasRead, HeldTo, IsRefusedWith}
use Rattle.captures.specs.CaptureRuns.{fault_at_end}
use Rattle.captures.specs.declared.capture_error.CaptureError.{CaptureError}
use Rattle.device_runs.specs.declared.limits.TheConstants.{READ_COUNT_LIMIT}
use Rattle.captures.specs.declared.packet.Packet.{Packet}
use Rattle.captures.specs.declared.pcapng.long_block.LongBlock.{LongBlock}
use Rattle.captures.specs.declared.reading.packet_reader.PacketReader.{PacketReader}
use Rattle.captures.specs.declared.reading.read_error.ReadError.{ReadError}
use Rattle.captures.specs.declared.reading.read_error.ReadError.TheVariants.{Read, Capture, TooManyReads}
use Rattle.captures.specs.declared.state.State.{State}
use Rattle.captures.specs.declared.unfit.Unfit.{Unfit}
use Rattle.captures.proofs.ReadLemmas.{ends_whole, refused_end, refused_next}

-- a refusal changes nothing else
pub same_refused : {R : Type 0} (old new : PacketReader R) (error : CaptureError)
    (result : Result Bool ReadError) → IsRefusedWith old new error result
    → (new.found ≡ old.found) × (new.reader ≡ old.reader)
same_refused {R} old new error result w =
    (ap (λ (n : PacketReader R). n.found) w.2, ap (λ (n : PacketReader R). n.reader) w.2)

-- nor does a stop
pub same_stopped : {R : Type 0} (old new : PacketReader R) (ended : Option (Result Unit ReadError))
    → new ≡ record old { ended = ended }
    → (new.reader ≡ old.reader) × (new.ended ≡ ended) × (new.state ≡ old.state)
same_stopped {R} old new ended is = (
  ap (λ (n : PacketReader R). n.reader) is,
  ap (λ (n : PacketReader R). n.ended) is,
  ap (λ (n : PacketReader R). n.state) is,
)

-- with no current packet it has read the same bytes and given the same packets
pub has_read_without : {R : Type 0} (unfit : Unfit) (reader : PacketReader R) (read : List ℕ)
    (given : List Packet) → HasRead unfit reader read given
    → HasRead unfit (record reader { found = None }) read given
has_read_without unfit reader read given h = record {
  dropped = h.dropped;
  is_dropped = h.is_dropped;
  gives = h.gives;
  passed = h.passed;
  reads = h.reads;
  going = h.going;
}

-- what is found in the held bytes is the result of a call that reads nothing
pub held_next : {R : Type 0} (unfit : Unfit) (new : PacketReader R) (read : List ℕ)
    (given : List Packet) (left : Option (List ℕ)) (found : Bool)
    → FindsPacket unfit new read given (Ok found) → HeldTo unfit new left read given (Ok found)
held_next unfit new read given left true f = f
held_next unfit new read given left false f = f

module _ {R : Type 0} (unfit : Unfit) (prefix new : PacketReader R) (read : List ℕ)
    (given : List Packet) (left : Option (List ℕ)) (result : Result Bool ReadError) where
  pub held_refused : (error : CaptureError) → IsRefusedWith prefix new error result
      → ComesTo unfit new left read given result → HeldTo unfit new left read given result
  held_refused error w comes =
      subst (λ (r : Result Bool ReadError). HeldTo unfit new left read given r) (sym w.1)
      (subst (λ (r : Result Bool ReadError). ComesTo unfit new left read given r) w.1 comes)

  -- the capture can't continue
  pub comes_refused : (error : CaptureError) → FindsPacket unfit prefix read given (Err error)
      → IsRefusedWith prefix new error result → ComesTo unfit new left read given result
  comes_refused error f w =
      subst (λ (r : Result Bool ReadError). ComesTo unfit new left read given r) (sym w.1)
      (subst (λ (n : PacketReader R). ComesTo unfit n left read given (Err (Capture error w.0)))
      (sym w.2) (refl, refused_next unfit prefix read given f.0 w.0 w.3 w.4 w.5 error left f.1))

  -- too many reads were made
  pub comes_too_many : FindsPacket unfit prefix read given (Ok false)
      → READ_COUNT_LIMIT ≤ prefix.reads → result ≡ Err TooManyReads
      → new.ended ≡ Some (Err TooManyReads) → new.state ≡ prefix.state
      → ComesTo unfit new left read given result
  comes_too_many f many is ended state = grind arith

  -- a read failed
  pub comes_failed : FindsPacket unfit prefix read given (Ok false) → result ≡ Err Read
      → new.ended ≡ Some (Err Read) → new.state ≡ prefix.state
      → ComesTo unfit new left read given result
  comes_failed f is ended state = grind arith

  module _ (f : FindsPacket unfit prefix read given (Ok false)) (ends : IsAtEnd left)
      (mid : PacketReader R) (state : mid.state ≡ prefix.state) (started : mid.started ≡ prefix.started)
      (passed : mid.passed ≡ prefix.passed)
      (held : mid.window.held ≡ prefix.window.held) where
    ends_as : (fault : Result Unit CaptureError)
        → fault_at_end prefix.state (length (f.0.dropped ++ prefix.window.held)) ≡ fault
        → EndsBy mid new fault result → ComesTo unfit new left read given result
    ends_as fault fault' e = grind (arith, ends_whole, refused_end)

    -- the end of the input
    pub comes_end : ((dropped : List ℕ) → IsDropped mid.state mid.started dropped
        → EndsBy mid new (fault_at_end mid.state (length (dropped ++ mid.window.held))) result)
        → ComesTo unfit new left read given result
    comes_end reported =
        ends_as (fault_at_end prefix.state (length (f.0.dropped ++ prefix.window.held))) refl
        (subst (λ (l : List ℕ). EndsBy mid new
        (fault_at_end prefix.state (length (f.0.dropped ++ l))) result) held
        (subst (λ (s : State). EndsBy mid new
        (fault_at_end s (length (f.0.dropped ++ mid.window.held))) result) state
        (reported f.0.dropped
        (subst (λ (s : State). IsDropped s mid.started f.0.dropped) (sym state)
        (subst (λ (b : Option LongBlock). IsDropped prefix.state b f.0.dropped) (sym started)
        f.0.is_dropped)))))
