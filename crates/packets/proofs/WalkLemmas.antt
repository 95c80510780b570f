-- Walks over the packets of a capture: one packet more, and how they end.
use Rattle.std.proofs.Common.{◌≡◌, ◌∙◌, sym, ap, refl, subst, ℕ, Bool, List, ◌∷◌, ◌++◌, Option, Some, Err, inl, []}
use Rattle.std.proofs.Common.{append_assoc, append-nil, arith, map}
use Rattle.std.specs.List.{filter}
use Rattle.std.proofs.lemmas.List.{map-append}
use Rattle.std.proofs.lemmas.List.Elements.{filter-append}
use Rattle.captures.specs.Endings.{cause, read_cause}
use Rattle.captures.specs.Readers.{ComesTo, HasRead, skipped_by}
use Rattle.captures.specs.declared.packet.Packet.{Packet}
use Rattle.captures.specs.declared.reading.packet_reader.PacketReader.{PacketReader}
use Rattle.captures.specs.declared.reading.read_error.ReadError.{ReadError}
use Rattle.captures.specs.declared.reading.read_error.ReadError.TheVariants as read
use Rattle.captures.specs.declared.translation.run_error.RunError.{RunError}
use Rattle.captures.specs.declared.translation.run_error.RunError.TheVariants.{Read, TooManyReads, Capture}
use Rattle.captures.specs.declared.unfit.Unfit.{Unfit}
use Rattle.packets.specs.Expressions.{lets_through}
use Rattle.packets.specs.Courses.{AreDissected, Course, IsDissected, course_after, forgotten, next_course, shown}
use Rattle.packets.specs.PacketRuns.{AreButLast, AreFirst, EndsBy, Unbroken}
use Rattle.packets.specs.Counts.{Counts}
use Rattle.packets.specs.Flows.{CountsFlows}
use Rattle.packets.specs.declared.dissection.Dissection.{Dissection}
use Rattle.packets.specs.declared.flows.conversation.Conversation.{Conversation}
use Rattle.packets.specs.declared.flows.counted_flows.CountedFlows.{CountedFlows}
use Rattle.packets.specs.declared.flows.transfer.Transfer.{Transfer}
use Rattle.packets.specs.declared.filter.Filter.{Filter}
use Rattle.packets.proofs.EndLemmas.{all_first}

-- the error of a run by a reader's error
abbrev as_run_error : ReadError → RunError
as_run_error read.Read = Read
as_run_error (read.Capture error position) = Capture error position
as_run_error read.TooManyReads = TooManyReads

same_error : (from : ReadError) (error : RunError) → cause error ≡ read_cause from
    → error ≡ as_run_error from
same_error from error is = grind arith

-- what a reader has given are the first packets
pub first_given : {R : Type 0} (unfit : Unfit) (reader : PacketReader R) (bytes : List ℕ)
    (given : List Packet) → HasRead unfit reader bytes given
    → AreFirst unfit (skipped_by reader) bytes given
first_given unfit reader bytes given h =
    (reader.state, h.dropped ++ reader.window.held, h.gives, refl)

-- and none is left out
pub given_but_none : {R : Type 0} (unfit : Unfit) (reader : PacketReader R) (bytes : List ℕ)
    (given : List Packet) → HasRead unfit reader bytes given
    → AreButLast unfit (skipped_by reader) bytes given
given_but_none unfit reader bytes given h =
    all_first unfit (skipped_by reader) bytes given reader.state (h.dropped ++ reader.window.held)
    h.gives refl

-- all but the last one
pub first_but_last : {R : Type 0} (unfit : Unfit) (reader : PacketReader R) (bytes : List ℕ)
    (given : List Packet) (packet : Packet) → HasRead unfit reader bytes (given ++ packet ∷ [])
    → AreButLast unfit (skipped_by reader) bytes given
first_but_last unfit reader bytes given packet h = (
  packet ∷ [],
  omega arith,
  (reader.state, h.dropped ++ reader.window.held, h.gives, refl),
)

-- an error of a reader is how a run ends
comes_ends : {R : Type 0} (writes : Bool) (unfit : Unfit) (reader : PacketReader R)
    (left : Option (List ℕ)) (bytes : List ℕ) (given : List Packet) (from : ReadError)
    → ComesTo unfit reader left bytes given (Err from)
    → EndsBy writes unfit (skipped_by reader) left bytes given (Err (as_run_error from))
comes_ends writes unfit reader left bytes given read.Read comes = comes.1
comes_ends writes unfit reader left bytes given read.TooManyReads comes = inl (comes.1, comes.2)
comes_ends writes unfit reader left bytes given (read.Capture error position) comes = comes.1

pub reader_ends : {R : Type 0} (writes : Bool) (unfit : Unfit) (reader : PacketReader R)
    (left : Option (List ℕ)) (bytes : List ℕ) (given : List Packet) (from : ReadError)
    (error : RunError) → cause error ≡ read_cause from
    → ComesTo unfit reader left bytes given (Err from)
    → EndsBy writes unfit (skipped_by reader) left bytes given (Err error)
reader_ends writes unfit reader left bytes given from error is comes =
    subst (λ (e : RunError). EndsBy writes unfit (skipped_by reader) left bytes given (Err e))
    (sym (same_error from error is))
    (comes_ends writes unfit reader left bytes given from comes)

-- and no write ended it
reader_unbroken : (from : ReadError) (Goes Breaks : Type 0) → Goes
    → Unbroken (Err (as_run_error from)) Goes Breaks
reader_unbroken read.Read Goes Breaks goes = goes
reader_unbroken (read.Capture error position) Goes Breaks goes = goes
reader_unbroken read.TooManyReads Goes Breaks goes = goes

pub unbroken_by_read : (from : ReadError) (error : RunError) (Goes Breaks : Type 0)
    → cause error ≡ read_cause from → Goes → Unbroken (Err error) Goes Breaks
unbroken_by_read from error Goes Breaks is goes =
    subst (λ (e : RunError). Unbroken (Err e) Goes Breaks) (sym (same_error from error is))
    (reader_unbroken from Goes Breaks goes)

pub same_packet : (one other : Packet) → Some one ≡ Some other → one ≡ other
same_packet one other same = cc

pub course_more : (forget : Option ℕ) (course : Course) (given : List Packet) (packet : Packet)
    → course_after forget course (given ++ packet ∷ [])
    ≡ next_course forget (course_after forget course given) packet
course_more forget course [] packet = refl
course_more forget course (first ∷ later) packet =
    course_more forget (next_course forget course first) later packet

pub dissected_more : (checksums : Bool) (forget : Option ℕ) (course : Course) (given : List Packet)
    (reported : List Dissection) (packet : Packet) (last : Dissection)
    → AreDissected checksums forget course given reported
    → IsDissected checksums (forgotten forget packet.time (course_after forget course given)) packet last
    → AreDissected checksums forget course (given ++ packet ∷ []) (reported ++ last ∷ [])
dissected_more checksums forget course [] reported packet last are is =
    (last, [], ap (λ (l : List Dissection). l ++ last ∷ []) are, is, refl)
dissected_more checksums forget course (first ∷ later) reported packet last are is = (
  are.0,
  are.1 ++ last ∷ [],
  ap (λ (l : List Dissection). l ++ last ∷ []) are.2,
  are.3,
  dissected_more checksums forget (next_course forget course first) later are.1 packet last are.4 is,
)

pub shown_more : (conditions : Filter) (reported : List Dissection) (last : Dissection)
    → shown conditions (reported ++ last ∷ [])
    ≡ shown conditions reported ++ filter (lets_through conditions) (last ∷ [])
shown_more conditions reported last = filter-append (lets_through conditions) reported (last ∷ [])

-- what holds of packets that are counted holds of them with none more
pub none_more : {X : Type 0} (Holds : List X → Type 0) (counted : List X) → Holds counted
    → Holds (counted ++ [])
none_more Holds counted = subst Holds (sym (append-nil counted))

pub flows_none : {S H : Type 0} (same : Conversation → Conversation → Bool) (flows : CountedFlows S H)
    (counted : List Transfer) → CountsFlows same flows counted
    → CountsFlows same flows (counted ++ [])
flows_none same flows = none_more (CountsFlows same flows)

-- and of them with one more
pub counted_more : {X : Type 0} (Holds : List X → Type 0) (of : Dissection → X) (counted : List X)
    (seen : List Dissection) (packet : Dissection) → Holds ((counted ++ map of seen) ++ of packet ∷ [])
    → Holds (counted ++ map of (seen ++ packet ∷ []))
counted_more {X} Holds of counted seen packet = subst Holds
    (sym (ap (λ (l : List X). counted ++ l) (map-append of seen (packet ∷ []))
    ∙ sym (append_assoc counted (map of seen) (of packet ∷ []))))
