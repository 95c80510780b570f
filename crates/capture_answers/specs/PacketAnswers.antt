-- What is answered to the packets of a capture, one after another: to the frame of each, on the
-- channel of its interface, by the accepted fragments of the packets before it. The first packet is
-- number 1.
use Rattle.std.specs.Prelude.{ℕ, ◌+◌, Bool, if◌then◌else◌, List, [], ◌∷◌, ◌++◌, codes}
use Rattle.captures.specs.Lines.{Packet, blank, has_passed, noted}
use Rattle.captures.specs.declared.extra.Extra.TheVariants.{Forget, Nothing}
use Rattle.etherparse.specs.PoolCalls.{Lists, lists_with_frame, no_lists, retained_from}
use Rattle.etherparse.specs.packet.Class.{class_of}
use Rattle.netlines.specs.Answers.{class_answer}

-- the answer to a packet, where these are the accepted fragments of each datagram
abbrev pub packet_answer : Lists → Packet → List ℕ
packet_answer lists packet = class_answer lists (class_of packet.frame) packet.origin.channel

-- the accepted fragments of each datagram after the packet of this number
abbrev pub lists_with_packet : Lists → (number : ℕ) → Packet → Lists
lists_with_packet lists number packet =
    lists_with_frame lists (class_of packet.frame) number packet.origin.channel

-- the answers to packets, of which this is the first one's number
abbrev pub answers_from : Lists → (number : ℕ) → List Packet → List (List ℕ)
answers_from lists number [] = []
answers_from lists number (packet ∷ packets) =
    packet_answer lists packet
    ∷ answers_from (lists_with_packet lists number packet) (number + 1) packets

-- the answers to all packets of a capture
abbrev pub packet_answers : List Packet → List (List ℕ)
packet_answers packets = answers_from no_lists 1 packets

abbrev type_of : {A : Type 0} → A → Type 0
type_of {A} a = A

-- how far the lines of packets have come, and which span is running
abbrev pub Ledger : Type 0
Ledger = type_of (blank Nothing)

-- the accepted fragments of the datagrams of which one came with this packet or after it
abbrev pub lists_since : (first : ℕ) → Lists → Lists
lists_since first lists name channel = retained_from first (lists name channel)

abbrev pub kept : (passed : Bool) → (first : ℕ) → Lists → Lists
kept passed first lists = if passed then lists_since first lists else lists

-- the same where a `forget` line comes before each packet with which a span has passed. That line
-- is answered `ok`, and datagrams stay of which a fragment was accepted since that span began, with
-- the packet of this number
abbrev pub spanned_from : (seconds : ℕ) → Ledger → (first : ℕ) → Lists → (number : ℕ)
    → List Packet → List (List ℕ)
spanned_from seconds ledger first lists number [] = []
spanned_from seconds ledger first lists number (packet ∷ packets) =
    let passed = has_passed seconds ledger packet.origin.time in
    (if passed then codes "ok" ∷ [] else [])
    ++ packet_answer (kept passed first lists) packet
    ∷ spanned_from seconds (noted ledger packet) (if passed then number else first)
    (lists_with_packet (kept passed first lists) number packet) (number + 1) packets

abbrev pub spanned_answers : (seconds : ℕ) → List Packet → List (List ℕ)
spanned_answers seconds packets = spanned_from seconds (blank (Forget seconds)) 1 no_lists 1 packets
