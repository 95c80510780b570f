-- Packets of some bytes, one after the other.
use Rattle.std.proofs.Common.{◌≡◌, ◌∙◌, sym, ap, refl, subst, ℕ, ◌≤◌, arith, List, [], ◌∷◌, ◌++◌, length, take}
use Rattle.std.proofs.Common.{append_assoc, append-nil, length-append, map, Option}
use Rattle.std.proofs.Math.Seq.{take-append_seam}
use Rattle.captures.specs.Dropped.{last_of}
use Rattle.captures.specs.Framed.{IsBack}
use Rattle.captures.specs.PacketSteps.{Gives, HasNone, IsFirst, IsFromEnd, taken_of}
use Rattle.captures.specs.Readers.{packet_with}
use Rattle.captures.specs.Units.{Passes, in_a_row}
use Rattle.captures.specs.declared.capture_error.CaptureError.{CaptureError}
use Rattle.captures.specs.declared.link.header.Header.{Header}
use Rattle.captures.specs.declared.packet.Packet.{Packet}
use Rattle.captures.specs.declared.state.State.{State}
use Rattle.captures.proofs.FirstPacketLemmas.{passes_first}
use Rattle.captures.proofs.SkipLemmas.{last_is}
use Rattle.captures.proofs.UnitLemmas.{passes_none, passes_on, passes_start}

-- units without a packet before the first packet
first_after : (state mid after : State) (bytes rest rest' : List ℕ) (packet : Packet)
    → Passes state bytes [] mid rest → IsFirst mid rest after packet rest'
    → IsFirst state bytes after packet rest'
first_after state mid after bytes rest rest' packet p f = record {
  mid = f.mid;
  between = f.between;
  passes = passes_none state mid f.mid bytes rest f.between [] p f.passes;
  has = f.has;
  some = f.some;
  number = f.number;
}

-- one more packet
pub gives_first : (state mid after : State) (bytes rest rest' : List ℕ) (packets : List Packet)
    (packet : Packet) → Gives state bytes packets mid rest → IsFirst mid rest after packet rest'
    → Gives state bytes (packets ++ packet ∷ []) after rest'
gives_first state mid after bytes rest rest' [] packet g f = (
  after,
  rest',
  first_after state mid after bytes rest rest' packet g f,
  passes_start after rest',
)
gives_first state mid after bytes rest rest' (p ∷ ps) packet g f =
    (g.0, g.1, g.2, gives_first g.0 mid after g.1 rest rest' ps packet g.3 f)

-- units without a packet after the last packet
pub gives_none : (state mid after : State) (bytes rest rest' : List ℕ) (packets : List Packet)
    → Gives state bytes packets mid rest → Passes mid rest [] after rest'
    → Gives state bytes packets after rest'
gives_none state mid after bytes rest rest' [] g q =
    passes_none state mid after bytes rest rest' [] g q
gives_none state mid after bytes rest rest' (p ∷ ps) g q =
    (g.0, g.1, g.2, gives_none g.0 mid after g.1 rest rest' ps g.3 q)

-- more bytes
passes_wide : (state after : State) (bytes rest chunk : List ℕ) → Passes state bytes [] after rest
    → Passes state (bytes ++ chunk) [] after (rest ++ chunk)
passes_wide state after bytes rest chunk p = record {
  units = p.units;
  row = p.row;
  parts = grind (arith, append_assoc);
}

first_wide : (state after : State) (bytes rest chunk : List ℕ) (packet : Packet)
    → IsFirst state bytes after packet rest
    → IsFirst state (bytes ++ chunk) after packet (rest ++ chunk)
first_wide state after bytes rest chunk packet f = record {
  mid = f.mid;
  between = f.between ++ chunk;
  passes = passes_wide state f.mid bytes f.between chunk f.passes;
  has = record {
    has_unit = grind (arith, append_assoc);
    is_on = f.has.is_on;
  };
  some = f.some;
  number = f.number;
}

pub gives_wide : (state after : State) (bytes rest chunk : List ℕ) (packets : List Packet)
    → Gives state bytes packets after rest
    → Gives state (bytes ++ chunk) packets after (rest ++ chunk)
gives_wide state after bytes rest chunk [] g = passes_wide state after bytes rest chunk g
gives_wide state after bytes rest chunk (p ∷ ps) g = (
  g.0,
  g.1 ++ chunk,
  first_wide state g.0 bytes g.1 chunk p g.2,
  gives_wide g.0 after g.1 rest chunk ps g.3,
)

-- what is taken of them
pub gives_passes : (state after : State) (bytes rest : List ℕ) (packets : List Packet)
    → Gives state bytes packets after rest
    → Passes state bytes (map taken_of packets) after rest
gives_passes state after bytes rest [] g = g
gives_passes state after bytes rest (p ∷ ps) g =
    passes_on state g.0 after bytes g.1 rest (taken_of p ∷ []) (map taken_of ps)
    (passes_first state state g.0 bytes bytes g.1 [] p (passes_start state bytes) g.2)
    (gives_passes g.0 after g.1 rest ps g.3)

-- ---- what follows is a suffix of the bytes

pub passes_back : (state after : State) (bytes rest : List ℕ) → Passes state bytes [] after rest
    → IsBack bytes rest
passes_back state after bytes rest p = record { prefix = in_a_row p.units; parts = p.parts }

pub first_back : (state after : State) (bytes rest : List ℕ) (packet : Packet)
    → IsFirst state bytes after packet rest → IsBack bytes rest
first_back state after bytes rest packet f = record {
  prefix = in_a_row f.passes.units ++ f.has.has_unit.unit;
  parts = grind (arith, append_assoc);
}

pub back_is : (bytes rest : List ℕ) → IsBack bytes rest → rest ≡ last_of (length rest) bytes
back_is bytes rest b = last_is bytes b.prefix rest (length rest) b.parts refl

-- the bytes from there on begin with these
pub from_is : (bytes part : List ℕ) (from : ℕ) → IsFromEnd bytes from part
    → part ≡ take (length part) (last_of from bytes)
from_is bytes part from e = grind (arith, last_is, take-append_seam)

pub from_fits : (bytes part : List ℕ) (from : ℕ) → IsFromEnd bytes from part
    → (length part ≤ from) × (from ≤ length bytes)
from_fits bytes part from e = grind (arith, length-append)

-- ---- what a look ahead finds

same_parts : (packet : Packet) (header : Option Header) (bytes : List ℕ)
    → packet.frame.header ≡ header → packet.frame.bytes ≡ bytes
    → packet ≡ packet_with (record {
      number = packet.number;
      interface = packet.interface;
      time = packet.time;
      link = packet.link;
      wire_len = packet.wire_len;
      header = header;
    }) bytes
same_parts packet header bytes h b = grind arith

pub ahead_found : (state after : State) (bytes rest part : List ℕ) (from : ℕ) (packet : Packet)
    (header : Option Header) → IsFirst state bytes after packet rest
    → IsFromEnd bytes from packet.frame.bytes → part ≡ packet.frame.bytes
    → header ≡ packet.frame.header
    → (length part ≤ from) × (from ≤ length bytes) × IsFirst state bytes after
    (packet_with (record {
      number = packet.number;
      interface = packet.interface;
      time = packet.time;
      link = packet.link;
      wire_len = packet.wire_len;
      header = header;
    }) (take (length part) (last_of from bytes))) (last_of (length rest) bytes)
ahead_found state after bytes rest part from packet header f e same made =
    let fits = from_fits bytes packet.frame.bytes from e in
    let is = from_is bytes packet.frame.bytes from e
    ∙ ap (λ (l : List ℕ). take (length l) (last_of from bytes)) (sym same) in (
      grind arith,
      fits.1,
      grind (arith, same_parts, back_is, first_back),
    )

pub ahead_none : (state after : State) (bytes rest : List ℕ) (refusal : Option CaptureError)
    → HasNone state bytes after rest refusal
    → HasNone state bytes after (last_of (length rest) bytes) refusal
ahead_none state after bytes rest refusal n =
    subst (λ (l : List ℕ). HasNone state bytes after l refusal)
    (back_is bytes rest (passes_back state after bytes rest n.passes)) n

pub last_none : (bytes : List ℕ) → last_of 0 bytes ≡ []
last_none bytes = sym (last_is bytes bytes [] 0 (sym (append-nil bytes)) refl)
