-- The packets of a capture, and the lines that are written of them.
use Rattle.std.specs.Prelude.{ℕ, ◌+◌, ◌/◌, ◌%◌, ◌==◌, ◌&&◌, nat_lt, Bool, if◌then◌else◌, List, [], ◌∷◌, ◌++◌, codes}
use Rattle.std.specs.Prelude.{decimal, length}
use Rattle.line_grammar.specs.Written.{time_text, written_forget, written_frame}
use Rattle.captures.specs.Numbers.{capped}
use Rattle.captures.specs.Spans.{have_passed}
use Rattle.captures.specs.declared.extra.Extra.{Extra}
use Rattle.captures.specs.declared.extra.Extra.TheVariants.{Nothing, Times, Forget}
use Rattle.captures.specs.declared.origin.Origin.{Origin}
use Rattle.captures.specs.declared.text.ledger.Ledger.{Ledger}

-- a packet, of which at least one byte was captured: the number of its interface, its time and the
-- length of its frame on the wire, and the bytes of that
pub record Packet : Type 0 where
  pub origin : Origin
  pub frame : List ℕ

-- the packet whose bytes these are, and none where there are none
abbrev pub packets_of : Origin → List ℕ → List Packet
packets_of origin [] = []
packets_of origin (byte ∷ bytes) = record { origin = origin; frame = byte ∷ bytes } ∷ []

-- the line that gives a packet's frame
abbrev pub line_of : Packet → List ℕ
line_of packet = written_frame packet.origin.channel packet.frame ++ 10 ∷ []

-- a time with its nanoseconds, be they 0, and the length of a frame on the wire
abbrev pub wire_text : (time wire_len : ℕ) → List ℕ
wire_text time wire_len = codes " " ++ decimal (time / 1000000000) ++ codes " "
    ++ decimal (time / 1000 % 1000000) ++ codes " " ++ decimal (time % 1000) ++ codes " " ++ decimal wire_len

-- what follows the digits of a frame of so many bytes: its time, and its length on the wire where
-- that is another
abbrev pub origin_text : (len time wire_len : ℕ) → List ℕ
origin_text len time wire_len =
    if wire_len == len then time_text time else wire_text time wire_len

-- the same line with that
abbrev pub timed_line_of : Packet → List ℕ
timed_line_of packet = written_frame packet.origin.channel packet.frame
    ++ origin_text (length packet.frame) packet.origin.time packet.origin.wire_len ++ 10 ∷ []

-- the line that has all reassemblies dropped of which no fragment came on the line with this number
-- or later
abbrev pub forget_line : ℕ → List ℕ
forget_line number = written_forget number ++ 10 ∷ []

-- before the first line
abbrev pub blank : Extra → Ledger
blank extra = record { extra = extra; lines = 0; begin = 0; line = 0 }

-- whether the span that is running has passed with a packet of this time
abbrev pub has_passed : ℕ → Ledger → ℕ → Bool
has_passed seconds ledger time =
    nat_lt 0 ledger.lines && have_passed seconds ledger.begin time

-- the line before a packet's where a span has passed: what came before that span is dropped
abbrev pub forget_text : Bool → Ledger → List ℕ
forget_text passed ledger = if passed then forget_line ledger.line else []

-- the lines of a packet
abbrev pub reported_as : Extra → Ledger → Packet → List ℕ
reported_as Nothing ledger packet = line_of packet
reported_as Times ledger packet = timed_line_of packet
reported_as (Forget seconds) ledger packet =
    forget_text (has_passed seconds ledger packet.origin.time) ledger ++ line_of packet

abbrev pub reported : Ledger → Packet → List ℕ
reported ledger packet = reported_as ledger.extra ledger packet

-- a span begins with the first packet of all, and with each at which the one before has passed:
-- there with the line that drops what came before that one
abbrev pub counted_by : Bool → Ledger → ℕ → Ledger
counted_by passed ledger time =
    if ledger.lines == 0 then record ledger { lines = 1; begin = time; line = 1 }
    else if passed then record ledger {
      lines = capped (ledger.lines + 2);
      begin = time;
      line = capped (ledger.lines + 1);
    }
    else record ledger { lines = capped (ledger.lines + 1) }

-- after the lines of a packet. Lines are counted where spans are
abbrev pub noted_as : Extra → Ledger → Packet → Ledger
noted_as Nothing ledger packet = ledger
noted_as Times ledger packet = ledger
noted_as (Forget seconds) ledger packet =
    counted_by (has_passed seconds ledger packet.origin.time) ledger packet.origin.time

abbrev pub noted : Ledger → Packet → Ledger
noted ledger packet = noted_as ledger.extra ledger packet

-- the lines of some packets, in their order, after the lines of others
abbrev pub lines_from : Ledger → List Packet → List ℕ
lines_from ledger [] = []
lines_from ledger (packet ∷ packets) = reported ledger packet
    ++ lines_from (noted ledger packet) packets

-- after the lines of some packets
abbrev pub noted_all : Ledger → List Packet → Ledger
noted_all ledger [] = ledger
noted_all ledger (packet ∷ packets) = noted_all (noted ledger packet) packets

-- the lines of all packets of a capture
abbrev pub lines_of : Extra → List Packet → List ℕ
lines_of extra packets = lines_from (blank extra) packets
