-- The packets of some bytes of a capture, one after the other.
use Rattle.std.specs.Prelude.{◌≡◌, ℕ, ◌<◌, nat_lt, Bool, List, [], ◌∷◌, ◌++◌, length, Option, None, MatchOption}
use Rattle.captures.specs.Framed.{captured_len, frame_bytes, frame_wire_len}
use Rattle.captures.specs.Lines.{Packet as TakenPacket}
use Rattle.captures.specs.Units.{HasPacket, IsLeft, Passes, seen_in}
use Rattle.captures.specs.declared.capture_error.CaptureError.{CaptureError}
use Rattle.captures.specs.declared.origin.Origin.{Origin}
use Rattle.captures.specs.declared.packet.Packet.{Packet}
use Rattle.captures.specs.declared.reading.prefix.FirstPacket.{FirstPacket}
use Rattle.captures.specs.declared.reading.packets.Packets.{Packets}
use Rattle.captures.specs.declared.state.State.{State}

abbrev pub origin_of : Packet → Origin
origin_of packet = record {
  channel = packet.interface;
  time = packet.time;
  wire_len = frame_wire_len (length (frame_bytes packet.frame)) (captured_len packet.link packet.frame)
      packet.wire_len;
}

-- what is taken of a packet, beside its link and the parts of its frame
abbrev pub taken_of : Packet → TakenPacket
taken_of packet = record { origin = origin_of packet; frame = frame_bytes packet.frame }

-- fewer of its bytes were captured than were on the wire
abbrev pub is_cut : Packet → Bool
is_cut packet = nat_lt (captured_len packet.link packet.frame) packet.wire_len

-- the first packet of the bytes that is reported: it comes after units that hold none, in a whole
-- unit, was captured on such a link, had so many bytes on the wire, and has its number in the capture
pub record IsFirst (state : State) (bytes : List ℕ) (after : State) (packet : Packet)
    (rest : List ℕ) : Type 0 where
  pub mid : State
  pub between : List ℕ
  pub passes : Passes state bytes [] mid between
  pub has : HasPacket mid between after (origin_of packet) packet.link packet.wire_len packet.frame
      rest
  pub some : 0 < length (frame_bytes packet.frame)
  pub number : packet.number ≡ seen_in after

-- no whole packet: units that hold none, after which bytes are missing or nothing can follow
pub record HasNone (state : State) (bytes : List ℕ) (after : State) (rest : List ℕ)
    (refusal : Option CaptureError) : Type 0 where
  pub passes : Passes state bytes [] after rest
  pub left : IsLeft after rest refusal

-- how many of the bytes are left from these on
pub record IsFromEnd (bytes : List ℕ) (from : ℕ) (part : List ℕ) : Type 0 where
  pub before : List ℕ
  pub following : List ℕ
  pub parts : bytes ≡ before ++ (part ++ following)
  pub position : length (part ++ following) ≡ from

-- the first packet of the bytes, or none
abbrev pub IsFirstPacket : State → List ℕ → State → FirstPacket → Type 0
IsFirstPacket state bytes after prefix = MatchOption prefix.packet
    (HasNone state bytes after prefix.rest.now prefix.refusal)
    (λ packet. IsFirst state bytes after packet prefix.rest.now × (prefix.refusal ≡ None)
    × IsFromEnd bytes prefix.from packet.frame.bytes)

-- a step of the iterator: its first packet, and what it has left, or none
abbrev pub StepsTo : Packets → Option Packet → Packets → Type 0
StepsTo old found new = MatchOption found
    (HasNone old.state old.rest.now new.state new.rest.now new.refusal)
    (λ packet. IsFirst old.state old.rest.now new.state packet new.rest.now
    × (new.refusal ≡ None))

-- the packets of the bytes, one after the other: the first, and those of what follows it
abbrev pub Gives : State → List ℕ → List Packet → State → List ℕ → Type 0
Gives state bytes [] after rest = Passes state bytes [] after rest
Gives state bytes (packet ∷ packets) after rest = (mid : State) × (between : List ℕ)
    × IsFirst state bytes mid packet between × Gives mid between packets after rest
