-- What is known of the packets of a capture, one after the other: which datagrams are not complete
-- when each comes, and when their fragments are dropped.
use Rattle.std.specs.Prelude.{◌≡◌, ℕ, ◌+◌, Bool, List, [], ◌∷◌, filter, length, Option, Some, None}
use Rattle.captures.specs.Framed.{captured_len, frame_bytes}
use Rattle.captures.specs.Numbers.{capped}
use Rattle.captures.specs.Spans.{begin_with, passed_with}
use Rattle.captures.specs.declared.packet.Packet.{Packet}
use Rattle.captures.specs.declared.spans.Spans.{Spans}
use Rattle.etherparse.specs.PoolCalls.{Lists, answer_to_frame, fault_in, lists_with_frame, no_lists, retained_from}
use Rattle.ep_packet.specs.Class.{Class, sliced_class}
use Rattle.packets.specs.ReassemblyMemory.{Order, ShowsOrder, dropped_within, lists_within, order_of_waiting, order_with}
use Rattle.packets.specs.ReassemblyMemory.{order_within}
use Rattle.packets.specs.Started.{Started, ShowsStarted, ShowsFragments, ReportsStarted, started_with, none_started}
use Rattle.packets.specs.Expressions.{lets_through}
use Rattle.packets.specs.Dissected.{fragment_result, packet_result, verdict_on, verification_of}
use Rattle.packets.specs.Layers.{layers_of}
use Rattle.packets.specs.declared.dissection.Dissection.{Dissection}
use Rattle.packets.specs.declared.dissector.Dissector.{Dissector}
use Rattle.packets.specs.declared.filter.Filter.{Filter}

-- how far a capture has come: when the first packet came and the last one, the fragments of each datagram that is not
-- complete, in which packet it started, and when the span began at whose end reassemblies are dropped;
-- how many bytes the datagrams that are not complete may take, these in the order in which they
-- started, and how many were dropped to keep them within that, up to the greatest number of 64 bits
pub record Course : Type 0 where
  pub first : Option ℕ
  pub last : Option ℕ
  pub lists : Lists
  pub started : Started
  pub begin : Option ℕ
  pub memory : ℕ
  pub order : Order
  pub dropped : ℕ

-- no packet came, and datagrams may take so many bytes
abbrev pub no_course : (memory : ℕ) → Course
no_course memory = record {
  first = None;
  last = None;
  lists = no_lists;
  started = none_started;
  begin = None;
  memory = memory;
  order = [];
  dropped = 0;
}

-- the lists without those of which no fragment was accepted since a span began, if one has passed
abbrev pub lists_since : Option ℕ → Lists → Lists
lists_since None lists = lists
lists_since (Some begin) lists = λ name channel. retained_from begin (lists name channel)

-- the lists when a packet of this time comes
abbrev pub lists_at : Option ℕ → Option ℕ → ℕ → Lists → Lists
lists_at None begin time lists = lists
lists_at (Some seconds) begin time lists = lists_since (passed_with seconds begin time) lists

-- the order without those of which no fragment was accepted since then
abbrev pub order_since : Option ℕ → Lists → Order → Order
order_since None lists order = order
order_since (Some begin) lists order =
    order_of_waiting (λ name channel. retained_from begin (lists name channel)) order

-- and the order then
abbrev pub order_at : Option ℕ → Option ℕ → ℕ → Lists → Order → Order
order_at None begin time lists order = order
order_at (Some seconds) begin time lists order = order_since (passed_with seconds begin time) lists order

-- and when the span began that lasts then
abbrev pub begin_at : Option ℕ → Option ℕ → ℕ → Option ℕ
begin_at None begin time = begin
begin_at (Some seconds) begin time = begin_with seconds begin time

abbrev pub forgotten : Option ℕ → ℕ → Course → Course
forgotten seconds time course = record course {
  lists = lists_at seconds course.begin time course.lists;
  begin = begin_at seconds course.begin time;
  order = order_at seconds course.begin time course.lists course.order;
}

-- when the first packet came, or the last one, if this one comes next: itself where none came
abbrev pub first_at : Option ℕ → ℕ → ℕ
first_at None time = time
first_at (Some first) time = first

abbrev pub class_of : Packet → Class
class_of packet = sliced_class (layers_of packet.frame.header packet.frame.bytes)

-- one packet more
abbrev pub with_packet : Course → Packet → Course
with_packet course packet =
    let lists = lists_with_frame course.lists (class_of packet) packet.time packet.interface in
    record {
      first = Some (first_at course.first packet.time);
      last = Some packet.time;
      lists = lists;
      started = started_with course.lists course.started (class_of packet) packet.interface packet.number;
      begin = course.begin;
      memory = course.memory;
      order = order_with course.lists lists (class_of packet) packet.interface course.order;
      dropped = course.dropped;
    }

-- those that started first are dropped until the others take no more than they may
abbrev pub within_memory : Course → Course
within_memory course = record course {
  lists = lists_within course.memory course.lists course.order;
  order = order_within course.memory course.lists course.order;
  dropped = capped (course.dropped + dropped_within course.memory course.lists course.order);
}

abbrev pub next_course : Option ℕ → Course → Packet → Course
next_course seconds course packet =
    within_memory (with_packet (forgotten seconds packet.time course) packet)

-- after some packets
abbrev pub course_after : Option ℕ → Course → List Packet → Course
course_after seconds course [] = course
course_after seconds course (packet ∷ packets) =
    course_after seconds (next_course seconds course packet) packets

-- the dissection of a packet that comes after others: its number in the capture, time, lengths and headers,
-- what becomes of it as a fragment by the fragments before it, in which packet its datagram started,
-- and whether its checksum is right, if checksums are verified
pub record IsDissected (checksums : Bool) (course : Course) (packet : Packet) (reported : Dissection)
    : Type 0 where
  pub number : reported.number ≡ packet.number
  pub first_time : reported.first_time ≡ first_at course.first packet.time
  pub previous_time : reported.previous_time ≡ first_at course.last packet.time
  pub time : reported.time ≡ packet.time
  pub interface : reported.interface ≡ packet.interface
  pub link : reported.link ≡ packet.link
  pub header : reported.header ≡ packet.frame.header
  pub bytes : reported.bytes ≡ packet.frame.bytes
  pub len : reported.len ≡ length (frame_bytes packet.frame)
  pub captured_len : reported.captured_len ≡ captured_len packet.link packet.frame
  pub wire_len : reported.wire_len ≡ packet.wire_len
  pub layers : reported.layers ≡ layers_of packet.frame.header packet.frame.bytes
  pub answered : packet_result reported.layers reported.fragment
      ≡ answer_to_frame course.lists (sliced_class reported.layers) packet.interface
      (fault_in reported.layers)
  pub started : ReportsStarted course.lists course.started (sliced_class reported.layers) packet.interface
      reported.number reported.fragment
  pub verified : reported.checksums ≡ checksums
  pub verdict : reported.verdict ≡ verdict_on (verification_of checksums reported.layers)
      (sliced_class reported.layers) (fragment_result reported.fragment)

-- the dissections of some packets, one by one, in their order
abbrev pub AreDissected : (checksums : Bool) → Option ℕ → Course → List Packet → List Dissection
    → Type 0
AreDissected checksums seconds course [] reported = reported ≡ []
AreDissected checksums seconds course (packet ∷ packets) reported = (first : Dissection)
    × (later : List Dissection) × (reported ≡ first ∷ later)
    × IsDissected checksums (forgotten seconds packet.time course) packet first
    × AreDissected checksums seconds (next_course seconds course packet) packets later

-- those of them that a filter lets through
abbrev pub shown : Filter → List Dissection → List Dissection
shown conditions reported = filter (lets_through conditions) reported

-- a capture has come so far with these
pub record HasCourse {S H : Type 0} (course : Course) (dissector : Dissector S H) (spans : Spans)
    : Type 0 where
  pub first : dissector.first_time ≡ course.first
  pub last : dissector.last_time ≡ course.last
  pub lists : ShowsFragments dissector.datagrams course.lists
  pub started : ShowsStarted dissector.datagrams course.started
  pub begin : spans.begin ≡ course.begin
  pub order_is : ShowsOrder dissector.datagrams course.order
  pub dropped : dissector.dropped ≡ course.dropped
