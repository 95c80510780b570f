-- The results of a reader of packets.
use Rattle.std.proofs.Common.{◌≡◌, ◌≢◌, ◌∙◌, sym, ap, refl, subst, ℕ, ◌+◌, ◌-◌, ◌^◌, ◌≤◌, ◌<◌, arith, Bool, false, List}
use Rattle.std.proofs.Common.{[], ◌∷◌, ◌++◌, length, map, length-append, length-drop, append_assoc, append-nil, inl}
use Rattle.std.proofs.Common.{Option, Some, None, Result, Ok, Err}
use Rattle.std.specs.Io.KnownBytes.{Consumes, IsAtEnd, Keeps}
use Rattle.std.specs.Prelude.{min, nat_lt, if◌then◌else◌}
use Rattle.captures.specs.Dropped.{DropsMore, IsDropped, last_of}
use Rattle.captures.specs.PacketSteps.{Gives, HasNone, IsFirst, taken_of}
use Rattle.captures.specs.Numbers.{capped}
use Rattle.captures.specs.Positions.{IsPosition, block_type}
use Rattle.captures.specs.Readers.{FindsPacket, HasRead, IsRefusedAt}
use Rattle.captures.specs.CaptureRuns.{IsCapture, fault_at_end}
use Rattle.captures.specs.Units.{HasUnit, IsIncomplete, Refuses, seen_in, skipped_in}
use Rattle.captures.specs.declared.capture_error.CaptureError.{CaptureError}
use Rattle.captures.specs.declared.capture_error.CaptureError.TheVariants.{CutOff, NotCapture}
use Rattle.captures.specs.declared.limits.TheConstants.{FIRST_UNIT_LEN}
use Rattle.captures.specs.declared.origin.Origin.{Origin}
use Rattle.captures.specs.declared.packet.Packet.{Packet}
use Rattle.captures.specs.declared.pcapng.long_block.LongBlock.{LongBlock}
use Rattle.captures.specs.declared.position.Position.{Position}
use Rattle.captures.specs.declared.reading.packet_reader.PacketReader.{PacketReader}
use Rattle.captures.specs.declared.state.State.{State}
use Rattle.captures.specs.declared.state.State.TheVariants.{Start, Classic, Pcapng}
use Rattle.captures.specs.declared.unfit.Unfit.{Unfit}
use Rattle.captures.proofs.CountLemmas.{capped_more}
use Rattle.captures.proofs.GivenLemmas.{gives_first, gives_none, gives_passes, gives_wide}
use Rattle.captures.proofs.UnitLemmas.{passes_start, passes_unit}

gives_len : (state after : State) (bytes rest : List ℕ) (packets : List Packet)
    → Gives state bytes packets after rest → length rest ≤ length bytes
gives_len state after bytes rest packets g = grind (arith, gives_passes, length-append)

last_len : (bytes : List ℕ) (n : ℕ) → n ≤ length bytes → length (last_of n bytes) ≡ n
last_len bytes n few = omega (arith, length-drop (length bytes - n) bytes)

module _ {R : Type 0} (unfit : Unfit) (old : PacketReader R) (read : List ℕ)
    (given : List Packet) (h : HasRead unfit old read given) where
  -- all that is left is held
  all_held : old.started ≡ None → h.dropped ++ old.window.held ≡ old.window.held
  all_held none = grind arith

  pub gives_held : old.started ≡ None → Gives (Start unfit) read given old.state old.window.held
  gives_held none = grind arith

  held_passed : old.started ≡ None → old.passed ≡ capped (length read - length old.window.held)
  held_passed none = grind arith

  module _ (none : old.started ≡ None) (after : State) (left passed : ℕ)
      (fits : left ≤ length old.window.held)
      (passed_is : passed ≡ min (old.passed + (length old.window.held - left)) (2 ^ 64 - 1)) where
    -- this many bytes were passed when this many are left
    pub left_passed : passed ≡ capped (length read - length (last_of left old.window.held))
    left_passed = grind (arith, last_len, gives_len, gives_held, held_passed, capped_more)

    -- a packet is found
    pub finds_packet : (new : PacketReader R) (packet : Packet) → new.state ≡ after
        → new.started ≡ None → new.passed ≡ passed
        → new.window.held ≡ last_of left old.window.held
        → new.reads ≡ old.reads
        → new.ended ≡ old.ended
        → IsFirst old.state old.window.held after packet (last_of left old.window.held)
        → HasRead unfit new read (given ++ packet ∷ [])
    finds_packet new packet state started passed_new held reads ended first =
        grind (arith, gives_first, gives_held, capped_more, length-append, left_passed)

    -- no packet is
    abbrev pub finds_none : (new : PacketReader R) (dropped : List ℕ) → new.state ≡ after
        → IsDropped after new.started dropped → new.passed ≡ passed
        → dropped ++ new.window.held ≡ last_of left old.window.held
        → new.reads ≡ old.reads → new.ended ≡ old.ended
        → (refusal : Option CaptureError)
        → HasNone old.state old.window.held after (last_of left old.window.held) refusal
        → HasRead unfit new read given
    finds_none new dropped state is_dropped passed_new held reads ended refusal first =
        record {
          dropped = dropped;
          is_dropped = subst (λ (s : State). IsDropped s new.started dropped) (sym state) is_dropped;
          gives = rw (state, held) (gives_none (Start unfit) old.state after read old.window.held
              (last_of left old.window.held) given (gives_held none) first.passes);
          passed = passed_new ∙ left_passed
              ∙ ap (λ (l : List ℕ). capped (length read - length l)) (sym held);
          reads = subst (λ (n : ℕ). n ≤ length read) (sym reads) h.reads;
          going = ended ∙ h.going;
        }

-- ---- known bytes

pub consumes_more : (a b c : Option (List ℕ)) (xs ys : List ℕ) → Consumes a b xs
    → Consumes b c ys → Consumes a c (xs ++ ys)
consumes_more None b c xs ys p q = tt
consumes_more (Some x) None c xs ys p q = absurd p
consumes_more (Some x) (Some y) None xs ys p q = absurd q
consumes_more (Some x) (Some y) (Some z) xs ys p q =
    p ∙ ap (λ (l : List ℕ). xs ++ l) q ∙ sym (append_assoc xs ys z)

keeps_consumes : (a b : Option (List ℕ)) → Keeps a b → Consumes a b []
keeps_consumes None b k = tt
keeps_consumes (Some x) None k = absurd k
keeps_consumes (Some x) (Some y) k = sym k

pub consumes_kept : (a b c : Option (List ℕ)) (xs : List ℕ) → Consumes a b xs → Keeps b c
    → Consumes a c xs
consumes_kept a b c xs p k =
    subst (λ (l : List ℕ). Consumes a c l) (append-nil xs)
    (consumes_more a b c xs [] p (keeps_consumes b c k))

pub consumes_end : (a b c : Option (List ℕ)) (xs chunk : List ℕ) → Consumes a b xs
    → Consumes b c chunk → chunk ≡ [] → Consumes a c xs
consumes_end a b c xs chunk p q none = grind arith

pub no_chunk : (chunk : List ℕ) → length chunk ≡ 0 → chunk ≡ []
no_chunk [] none = refl
no_chunk (b ∷ bytes) none = absurd (omega arith)

-- ---- the result of a call

module _ {R : Type 0} (unfit : Unfit) (old new : PacketReader R) (read : List ℕ)
    (given : List Packet) (h : HasRead unfit old read given) (state : new.state ≡ old.state)
    (started : new.started ≡ old.started)
    (passed : new.passed ≡ old.passed) where
  dropped_same : IsDropped new.state new.started h.dropped
  dropped_same = rw (state, started) h.is_dropped

  -- a chunk is read
  pub reads_more : (chunk : List ℕ) → new.window.held ≡ old.window.held ++ chunk
      → new.reads ≡ old.reads + 1 → new.ended ≡ old.ended → 0 < length chunk
      → HasRead unfit new (read ++ chunk) given
  reads_more chunk held reads ended some =
      grind (arith, append_assoc, dropped_same, gives_wide, length-append)

  -- nothing is
  pub reads_none : new.window.held ≡ old.window.held → new.reads ≡ old.reads
      → new.ended ≡ old.ended → HasRead unfit new (read ++ []) given
  reads_none held reads ended = grind (arith, append-nil, dropped_same)

module _ {R : Type 0} (unfit : Unfit) (reader : PacketReader R) (read : List ℕ)
    (given : List Packet) (h : HasRead unfit reader read given) (position : Position)
    (packet : position.packet ≡ capped (seen_in reader.state + 1)) (offset : position.offset ≡ reader.passed)
    (block : (dropped : List ℕ) → IsDropped reader.state reader.started dropped
    → position.block ≡ block_type reader.state (dropped ++ reader.window.held)) where
  its_position : IsPosition reader.state read (h.dropped ++ reader.window.held) position
  its_position = record {
    packet = packet;
    offset = offset ∙ h.passed;
    block = block h.dropped h.is_dropped;
  }

  -- the capture can't continue
  pub refused_next : (error : CaptureError) (left : Option (List ℕ))
      → Refuses reader.state (h.dropped ++ reader.window.held) error
      → IsRefusedAt unfit (skipped_in reader.state) error position left read given
  refused_next error left refuses = record {
    state = reader.state;
    rest = h.dropped ++ reader.window.held;
    gives = h.gives;
    is_position = its_position;
    counts = refl;
    why = inl refuses;
  }

  -- or it ends there
  pub refused_end : (error : CaptureError) (left : Option (List ℕ)) → IsAtEnd left
      → IsIncomplete reader.state (h.dropped ++ reader.window.held)
      → fault_at_end reader.state (length (h.dropped ++ reader.window.held)) ≡ Err error
      → IsRefusedAt unfit (skipped_in reader.state) error position left read given
  refused_end error left ends started fault = grind arith

abbrev start_fault : Bool → Result Unit CaptureError
start_fault short = if short then Err NotCapture else Err CutOff

start_ends : (short : Bool) → start_fault short ≡ Ok tt → ⊥
start_ends short ends = grind arith

-- the end of a capture: all was taken
ends_known : (unfit : Unfit) (state : State) (rest : List ℕ)
    → fault_at_end state (length rest) ≡ Ok tt → (rest ≡ []) × (state ≢ Start unfit)
ends_known unfit (Start u) rest ends = absurd (start_ends (nat_lt (length rest) FIRST_UNIT_LEN) ends)
ends_known unfit (Classic order time_unit link passing) [] ends = (refl, λ e. cc e)
ends_known unfit (Classic order time_unit link passing) (b ∷ bytes) ends = absurd (cc)
ends_known unfit (Pcapng section) [] ends = (refl, λ e. cc e)
ends_known unfit (Pcapng section) (b ∷ bytes) ends = absurd (cc)

pub ends_whole : (unfit : Unfit) (state : State) (read rest : List ℕ) (given : List Packet)
    → Gives (Start unfit) read given state rest → fault_at_end state (length rest) ≡ Ok tt
    → IsCapture unfit read (map taken_of given) (skipped_in state)
ends_whole unfit state read rest given g ends =
    let e = ends_known unfit state rest ends in
    grind (arith, gives_passes)

-- ---- a long block is started

module _ {R : Type 0} (unfit : Unfit) (old new : PacketReader R) (read : List ℕ)
    (given : List Packet) (h : HasRead unfit old read given) (left : ℕ)
    (state : new.state ≡ old.state) (held : new.window.held ≡ last_of left old.window.held)
    (reads : new.reads ≡ old.reads)
    (ended : new.ended ≡ old.ended) where
  -- more of it is dropped
  module _ (started : LongBlock) (started_is : new.started ≡ Some started)
      (passed : new.passed ≡ old.passed)
      (d : DropsMore old.state h.dropped old.window.held started left) where
    pub same_left : h.dropped ++ old.window.held ≡ (h.dropped ++ d.prefix) ++ new.window.held
    same_left = grind (arith, append_assoc)

    abbrev pub drops_more : HasRead unfit new read given
    drops_more = record {
      dropped = h.dropped ++ d.prefix;
      is_dropped = rw (state, started_is) d.is_dropped;
      gives = rw state (subst (λ (l : List ℕ). Gives (Start unfit) read given old.state l)
          same_left h.gives);
      passed = passed ∙ h.passed
          ∙ ap (λ (l : List ℕ). capped (length read - length l)) same_left;
      reads = subst (λ (n : ℕ). n ≤ length read) (sym reads) h.reads;
      going = ended ∙ h.going;
    }

    pub drops_incomplete : IsIncomplete old.state (h.dropped ++ old.window.held)
        → FindsPacket unfit new read given (Ok false)
    drops_incomplete begins = (
      drops_more,
      grind (arith, same_left),
    )

    pub drops_refused : (error : CaptureError)
        → Refuses old.state (h.dropped ++ old.window.held) error
        → FindsPacket unfit new read given (Err error)
    drops_refused error refuses = (
      drops_more,
      grind (arith, same_left),
    )

  -- it is passed
  pub drops_passed : (len : ℕ) (origin : Origin) → new.started ≡ None
      → new.passed ≡ min (old.passed + len) (2 ^ 64 - 1)
      → HasUnit old.state (h.dropped ++ old.window.held) old.state origin []
      (last_of left old.window.held)
      → length h.dropped + length old.window.held ≡ len + left → left ≤ length old.window.held
      → HasRead unfit new read given
  drops_passed len origin started passed unit size fits =
      let rest = h.dropped ++ old.window.held in
      let last = last_of left old.window.held in
      let within = gives_len (Start unfit) old.state read rest given h.gives in
      let left_is = last_len old.window.held left fits in
      let whole = length-append h.dropped old.window.held in
      let same : length read - length rest + len ≡ length read - length last = omega arith in
      record {
        dropped = [];
        is_dropped = rw started;
        gives = rw (state, held) (gives_none (Start unfit) old.state old.state read rest last given
            h.gives (passes_unit old.state old.state old.state rest rest last [] origin []
            (passes_start old.state rest) unit));
        passed =
            grind arith;
        reads = grind arith;
        going = ended ∙ h.going;
      }
