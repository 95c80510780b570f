-- What a parser has parsed is what a reader has read that holds the bytes which it isn't done with.
use Rattle.std.proofs.Common.{◌≡◌, ◌∙◌, sym, ap, refl, subst, ℕ, ◌+◌, ◌-◌, ◌^◌, ◌≤◌, arith, List, [], ◌∷◌, ◌++◌}
use Rattle.std.proofs.Common.{length, map, take, append_assoc, length-append, length-drop, Option, Some, None}
use Rattle.std.proofs.Common.{Result, Ok, Err, MatchOption}
use Rattle.std.proofs.lemmas.List.{take-append-drop}
use Rattle.std.specs.Prelude.{min}
use Rattle.captures.specs.CaptureRuns.{IsCapture, fault_at_end}
use Rattle.captures.specs.Dropped.{DropsMore, IsDropped, last_of}
use Rattle.captures.specs.PacketSteps.{HasNone, IsFirst, taken_of}
use Rattle.captures.specs.Parsers.{FindsNext, HasParsed, LeavesOff, StopsAt, skipped_of}
use Rattle.captures.specs.Positions.{IsPosition}
use Rattle.captures.specs.Readers.{HasRead, packet_with}
use Rattle.captures.specs.Units.{HasUnit, IsIncomplete, IsLeft, Refuses}
use Rattle.captures.specs.declared.capture_error.CaptureError.{CaptureError}
use Rattle.captures.specs.declared.origin.Origin.{Origin}
use Rattle.captures.specs.declared.packet.Packet.{Packet}
use Rattle.captures.specs.declared.pcapng.long_block.LongBlock.{LongBlock}
use Rattle.captures.specs.declared.reading.ahead.Ahead.{Ahead}
use Rattle.captures.specs.declared.reading.packet_parser.PacketParser.{PacketParser}
use Rattle.captures.specs.declared.reading.packet_reader.PacketReader.{PacketReader}
use Rattle.captures.specs.declared.reading.refused_at.RefusedAt.{RefusedAt}
use Rattle.captures.specs.declared.unfit.Unfit.{Unfit}
use Rattle.captures.proofs.GivenLemmas.{gives_wide}
use Rattle.captures.proofs.ReadLemmas.{drops_more, drops_passed, ends_whole, finds_none, finds_packet, same_left}
use Rattle.captures.proofs.SkipLemmas.{last_is}

-- a reader of nothing that holds these bytes
abbrev as_reader : PacketParser → List ℕ → PacketReader Unit
as_reader parser held = record {
  reader = tt;
  reads = 0;
  window = record { held = held; marked = [] };
  state = parser.state;
  started = parser.started;
  passed = parser.passed;
  found = None;
  ended = None;
}

abbrev as_read : (unfit : Unfit) (parser : PacketParser) (read held : List ℕ) (given : List Packet)
    → HasParsed unfit parser read held given → HasRead unfit (as_reader parser held) read given
as_read unfit parser read held given h = record {
  dropped = h.dropped;
  is_dropped = h.is_dropped;
  gives = h.gives;
  passed = h.passed;
  reads = omega arith;
  going = refl;
}

abbrev as_parsed : (unfit : Unfit) (parser : PacketParser) (read held : List ℕ) (given : List Packet)
    → parser.refused ≡ None → HasRead unfit (as_reader parser held) read given
    → HasParsed unfit parser read held given
as_parsed unfit parser read held given going h = record {
  dropped = h.dropped;
  is_dropped = h.is_dropped;
  gives = h.gives;
  passed = h.passed;
  going = going;
}

-- another fact where there is no value
pub match_other : {A : Type 0} (found : Option A) (none other : Type 0) (some : A → Type 0) → (none → other)
    → MatchOption found none some → MatchOption found other some
match_other None none other some follows h = follows h
match_other (Some x) none other some follows h = h

-- more bytes are passed
parsed_wide : (unfit : Unfit) (parser : PacketParser) (read held more : List ℕ) (given : List Packet)
    → HasParsed unfit parser read held given
    → HasParsed unfit parser (read ++ more) (held ++ more) given
parsed_wide unfit parser read held more given h =
    let same : h.dropped ++ (held ++ more) ≡ (h.dropped ++ held) ++ more =
    sym (append_assoc h.dropped held more) in
    record {
      dropped = h.dropped;
      is_dropped = h.is_dropped;
      gives = rw same (gives_wide _ parser.state read (h.dropped ++ held) more given h.gives);
      passed = h.passed ∙ omega (
        arith,
        ap length same,
        length-append read more,
        length-append (h.dropped ++ held) more,
      );
      going = h.going;
    }

pub parsed_then : (unfit : Unfit) (parser : PacketParser) (read held more bytes : List ℕ)
    (given : List Packet) → HasParsed unfit parser read held given → bytes ≡ held ++ more
    → HasParsed unfit parser (read ++ more) bytes given
parsed_then unfit parser read held more bytes given h same =
    subst (λ (l : List ℕ). HasParsed unfit parser (read ++ more) l given) (sym same)
    (parsed_wide unfit parser read held more given h)

-- the last bytes of a suffix
last_within : (bytes prefix rest : List ℕ) (n : ℕ) → bytes ≡ prefix ++ rest → n ≤ length rest
    → last_of n rest ≡ last_of n bytes
last_within bytes prefix rest n parts few =
    let front = take (length rest - n) rest in
    last_is bytes (prefix ++ front) (last_of n rest) n
    (parts ∙ ap (λ (l : List ℕ). prefix ++ l) (sym (take-append-drop (length rest - n) rest))
    ∙ sym (append_assoc prefix front (last_of n rest)))
    (omega (arith, length-drop (length rest - n) rest))

-- what is found in a suffix is found in the bytes
pub finds_within : (unfit : Unfit) (new : PacketParser) (read bytes prefix rest : List ℕ)
    (given : List Packet) (ahead : Ahead) → bytes ≡ prefix ++ rest → ahead.left ≤ length rest
    → ahead.from ≤ length rest → FindsNext unfit new read rest given ahead
    → FindsNext unfit new read bytes given ahead
finds_within unfit new read bytes prefix rest given ahead parts left from f =
    subst (λ (l : List ℕ). MatchOption ahead.found (LeavesOff unfit new read l given ahead.refusal)
    (λ found. HasParsed unfit new read l
    (given ++ packet_with found (take ahead.len (last_of ahead.from bytes)) ∷ [])))
    (last_within bytes prefix rest ahead.left parts left)
    (subst (λ (l : List ℕ). MatchOption ahead.found
    (LeavesOff unfit new read (last_of ahead.left rest) given ahead.refusal)
    (λ found. HasParsed unfit new read (last_of ahead.left rest)
    (given ++ packet_with found (take ahead.len l) ∷ [])))
    (last_within bytes prefix rest ahead.from parts from) f)

module _ (unfit : Unfit) (old new : PacketParser) (read held : List ℕ) (given : List Packet)
    (h : HasParsed unfit old read held given) (refused : new.refused ≡ old.refused)
    (left : ℕ) (fits : left ≤ length held) where
  module _ (none : old.started ≡ None) (passed : new.passed ≡ min (old.passed + (length held - left)) (2 ^ 64 - 1)) where
    -- a packet is found
    pub parsed_packet : (packet : Packet) → new.started ≡ None
        → IsFirst old.state held new.state packet (last_of left held)
        → HasParsed unfit new read (last_of left held) (given ++ packet ∷ [])
    parsed_packet packet started first =
        as_parsed unfit new read (last_of left held) (given ++ packet ∷ []) (refused ∙ h.going)
        (finds_packet unfit (as_reader old held) read given (as_read unfit old read held given h) none
        new.state left new.passed fits passed (as_reader new (last_of left held)) packet refl started
        refl refl refl refl first)

    -- none is, and of what is left some bytes are dropped
    pub parsed_none : (dropped rest : List ℕ) (refusal : Option CaptureError)
        → IsDropped new.state new.started dropped → dropped ++ rest ≡ last_of left held
        → HasNone old.state held new.state (last_of left held) refusal
        → LeavesOff unfit new read rest given refusal
    parsed_none dropped rest refusal is_dropped whole first = record {
      parsed = as_parsed unfit new read rest given (refused ∙ h.going)
          (finds_none unfit (as_reader old held) read given (as_read unfit old read held given h) none
          new.state left new.passed fits passed (as_reader new rest) dropped refl is_dropped refl whole
          refl refl refusal first);
      left = subst (λ (l : List ℕ). IsLeft new.state l refusal) (sym whole) first.left;
    }

  module _ (state : new.state ≡ old.state) where
    -- more of a long block is dropped
    pub parsed_more : (started : LongBlock) (refusal : Option CaptureError)
        → new.started ≡ Some started → new.passed ≡ old.passed
        → DropsMore old.state h.dropped held started left
        → IsLeft old.state (h.dropped ++ held) refusal
        → LeavesOff unfit new read (last_of left held) given refusal
    parsed_more started refusal started_is passed drops is_left =
        let r = as_read unfit old read held given h in
        let o = as_reader old held in
        let n = as_reader new (last_of left held) in
        record {
          parsed = as_parsed unfit new read (last_of left held) given (refused ∙ h.going)
              (drops_more unfit o n read given r left state refl refl refl started started_is passed drops);
          left = rw state (subst (λ (l : List ℕ). IsLeft old.state l refusal)
              (same_left unfit o n read given r left state refl refl refl started started_is passed drops)
              is_left);
        }

    -- it is passed
    pub parsed_passed : (len : ℕ) (origin : Origin) → new.started ≡ None
        → new.passed ≡ min (old.passed + len) (2 ^ 64 - 1)
        → HasUnit old.state (h.dropped ++ held) old.state origin [] (last_of left held)
        → length h.dropped + length held ≡ len + left
        → HasParsed unfit new read (last_of left held) given
    parsed_passed len origin started passed unit size =
        as_parsed unfit new read (last_of left held) given (refused ∙ h.going)
        (drops_passed unfit (as_reader old held) (as_reader new (last_of left held)) read given
        (as_read unfit old read held given h) left state refl refl refl len origin started passed unit
        size fits)

-- the capture can't continue
pub stops_there : (unfit : Unfit) (parser : PacketParser) (read held : List ℕ) (given : List Packet)
    (error : CaptureError) (l : LeavesOff unfit parser read held given (Some error)) (refused : RefusedAt)
    → refused.error ≡ error → IsPosition parser.state read (l.parsed.dropped ++ held) refused.position
    → StopsAt unfit read given refused.position (λ state rest. Refuses state rest refused.error)
stops_there unfit parser read held given error l refused same position = record {
  state = parser.state;
  rest = l.parsed.dropped ++ held;
  gives = l.parsed.gives;
  is_position = position;
  why = subst (λ (e : CaptureError). Refuses parser.state (l.parsed.dropped ++ held) e) (sym same) l.left;
}

module _ (unfit : Unfit) (parser : PacketParser) (read held : List ℕ) (given : List Packet)
    (l : LeavesOff unfit parser read held given None) (result : Result Unit CaptureError)
    (ends : (dropped : List ℕ) → IsDropped parser.state parser.started dropped
    → result ≡ fault_at_end parser.state (length dropped + length held)) where
  end_is : fault_at_end parser.state (length (l.parsed.dropped ++ held)) ≡ result
  end_is = ap (λ (n : ℕ). fault_at_end parser.state n) (length-append l.parsed.dropped held)
      ∙ sym (ends l.parsed.dropped l.parsed.is_dropped)

  -- it ends whole
  pub ends_whole_there : result ≡ Ok tt → IsCapture unfit read (map taken_of given) (skipped_of parser)
  ends_whole_there is = ends_whole unfit parser.state read (l.parsed.dropped ++ held) given l.parsed.gives
      (end_is ∙ is)

  -- or is cut off
  pub ends_cut : (error : CaptureError) (refused : RefusedAt) → result ≡ Err error
      → refused.error ≡ error
      → IsPosition parser.state read (l.parsed.dropped ++ held) refused.position
      → StopsAt unfit read given refused.position
      (λ state rest. IsIncomplete state rest × (fault_at_end state (length rest) ≡ Err refused.error))
  ends_cut error refused is same position = record {
    state = parser.state;
    rest = l.parsed.dropped ++ held;
    gives = l.parsed.gives;
    is_position = position;
    why = (l.left, rw same (end_is ∙ is));
  }
