-- What datagrams take in a capture, packet by packet.
use Rattle.std.proofs.Common.{arith, ◌≡◌, refl, sym, ℕ, ◌≤◌, false, List, [], ◌∷◌}
use Rattle.std.proofs.Common.{Option, None, Some}
use Rattle.std.specs.Prelude.{◌↔◌, IsTrue}
use Rattle.captures.specs.Spans.{passed_with}
use Rattle.captures.specs.declared.packet.Packet.{Packet}
use Rattle.etherparse.specs.Fragments.{Fragment}
use Rattle.etherparse.specs.IpFragId.{same_name}
use Rattle.etherparse.specs.PoolCalls.{Lists, lists_with_frame, retained_from}
use Rattle.ep_packet.specs.Class.{Class, FragmentName}
use Rattle.ep_packet.specs.Class.Class.{Whole, Cut, Other, Refused}
use Rattle.packets.specs.Courses.{Course, class_of, course_after, forgotten, lists_at, lists_since, next_course, no_course}
use Rattle.packets.specs.Courses.{order_at, order_since, with_packet}
use Rattle.packets.specs.ReassemblyMemory.{Order, Tracks, is_some_fragment, order_with, taken}
use Rattle.packets.proofs.TrackLemmas.{tracked_by, tracked_waiting, tracked_within}
use Rattle.packets.proofs.WithinLemmas.{held_within, none_within}

pub next_within : (forget : Option ℕ) (course : Course) (packet : Packet)
    → taken (next_course forget course packet).lists (next_course forget course packet).order ≤ course.memory
next_within forget course packet =
    let next = with_packet (forgotten forget packet.time course) packet in
    held_within course.memory next.lists next.order

none_waits : (fs : List Fragment) → is_some_fragment fs ≡ false → fs ≡ []
none_waits [] h = refl
none_waits (f ∷ fs) h = absurd (grind (arith, h))

zero_order : (forget : Option ℕ) (course : Course) (packets : List Packet) → course.memory ≡ 0
    → course.order ≡ [] → (course_after forget course packets).order ≡ []
zero_order forget course [] zero none = none
zero_order forget course (packet ∷ packets) zero none =
    let next = with_packet (forgotten forget packet.time course) packet in
    zero_order forget (next_course forget course packet) packets zero
    (rw zero (none_within next.lists next.order))

module _ (alike : (a b : FragmentName) → IsTrue (same_name a b) ↔ (a ≡ b)) where
  tracked_since : (o : Option ℕ) (lists : Lists) (order : Order) → Tracks lists order
      → Tracks (lists_since o lists) (order_since o lists order)
  tracked_since None lists order t = t
  tracked_since (Some begin) lists order t =
      tracked_waiting alike lists (λ name channel. retained_from begin (lists name channel)) order t
      (λ d h. grind (arith, h))

  tracked_at : (forget begin : Option ℕ) (time : ℕ) (lists : Lists) (order : Order) → Tracks lists order
      → Tracks (lists_at forget begin time lists) (order_at forget begin time lists order)
  tracked_at None begin time lists order t = t
  tracked_at (Some seconds) begin time lists order t =
      tracked_since (passed_with seconds begin time) lists order t

  tracked_class : (class : Class) (lists : Lists) (order : Order) (time channel : ℕ) → Tracks lists order
      → Tracks (lists_with_frame lists class time channel)
      (order_with lists (lists_with_frame lists class time channel) class channel order)
  tracked_class (Cut own offset more bytes) lists order time channel t =
      tracked_by alike lists
      (lists_with_frame lists (Cut own offset more bytes) time channel) order
      (own, channel) t (λ e h. rw h refl)
  tracked_class (Whole addresses number bytes message) lists order time channel t = t
  tracked_class Other lists order time channel t = t
  tracked_class Refused lists order time channel t = t

  tracked_next : (forget : Option ℕ) (course : Course) (packet : Packet) → Tracks course.lists course.order
      → Tracks (next_course forget course packet).lists (next_course forget course packet).order
  tracked_next forget course packet t =
      let next = with_packet (forgotten forget packet.time course) packet in
      tracked_within alike course.memory next.lists next.order
      (tracked_class (class_of packet) (lists_at forget course.begin packet.time course.lists)
      (order_at forget course.begin packet.time course.lists course.order) packet.time packet.interface
      (tracked_at forget course.begin packet.time course.lists course.order t))

  tracked_all : (forget : Option ℕ) (course : Course) (packets : List Packet) → Tracks course.lists course.order
      → Tracks (course_after forget course packets).lists (course_after forget course packets).order
  tracked_all forget course [] t = t
  tracked_all forget course (packet ∷ packets) t =
      tracked_all forget (next_course forget course packet) packets (tracked_next forget course packet t)

  pub tracked_after : (forget : Option ℕ) (memory : ℕ) (packets : List Packet)
      → Tracks (course_after forget (no_course memory) packets).lists
      (course_after forget (no_course memory) packets).order
  tracked_after forget memory packets =
      tracked_all forget (no_course memory) packets (record { distinct = tt; each = λ d. refl })

  pub nothing_waits : (forget : Option ℕ) (packets : List Packet) (name : FragmentName) (channel : ℕ)
      → ((course_after forget (no_course 0) packets).lists name channel).fragments ≡ []
  nothing_waits forget packets name channel =
      let t = tracked_after forget 0 packets in
      let none = zero_order forget (no_course 0) packets refl refl in
      none_waits ((course_after forget (no_course 0) packets).lists name channel).fragments
      (sym (rw none at (t.each (name, channel))))
