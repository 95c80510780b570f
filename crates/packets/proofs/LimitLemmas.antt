-- Limits of a run: one packet more, and what ends at one.
use Rattle.std.proofs.Common.{◌≡◌, refl, ap, arith, ℕ, ◌<◌, false, List, [], ◌∷◌, ◌++◌, length, Option, Some, None}
use Rattle.std.proofs.Common.{Result, Err, inl, inr, true}
use Rattle.std.specs.List.{AllByRecursion}
use Rattle.std.specs.Prelude.{unwrap_or}
use Rattle.captures.specs.declared.packet.Packet.{Packet}
use Rattle.captures.specs.declared.skipped.Skipped.{Skipped}
use Rattle.captures.specs.declared.translation.run_error.RunError.{RunError}
use Rattle.packets.specs.Courses.{Course, course_after, first_at, next_course, no_course}
use Rattle.packets.specs.Limits.{AreFewer, AreInTime, first_time, is_late}
use Rattle.packets.specs.PacketRuns.{BreaksBy, EndsWithin}
use Rattle.packets.specs.declared.run.rules.Rules.{Rules}
use Rattle.packets.proofs.EndLemmas.{break_ends, ends_taken, weaker_break}

pub none_fewer : (count : Option ℕ) → AreFewer count []
none_fewer None = tt
none_fewer (Some n) = inl refl

pub fewer_than : (count : Option ℕ) (most limit taken : ℕ) (given : List Packet)
    → limit ≡ unwrap_or count most → taken ≡ length given → taken < limit → AreFewer count given
fewer_than None most limit taken given is counted below = tt
fewer_than (Some n) most limit taken given is counted below = inr (omega (arith, is, counted, below))

-- a run that took as many as its limit, where the rules set one
pub all_taken : (count : Option ℕ) (most limit taken n : ℕ) (given : List Packet)
    → limit ≡ unwrap_or count most → taken ≡ length given → taken ≡ limit → count ≡ Some n
    → count ≡ Some (length given)
all_taken count most limit taken n given is counted all some = grind arith

all_more : (Holds : Packet → Type 0) (packets : List Packet) (last : Packet)
    → AllByRecursion Holds packets → Holds last → AllByRecursion Holds (packets ++ last ∷ [])
all_more Holds [] last all holds = (holds, tt)
all_more Holds (first ∷ later) last all holds = (all.0, all_more Holds later last all.1 holds)

pub in_time_more : (duration : Option ℕ) (given : List Packet) (packet : Packet)
    → AreInTime duration given → is_late duration (first_time given) packet.time ≡ false
    → AreInTime duration (given ++ packet ∷ [])
in_time_more duration [] packet are is = tt
in_time_more duration (first ∷ later) packet are is =
    all_more (λ p. is_late duration (Some first.time) p.time ≡ false) later packet are is

first_kept : (forget : Option ℕ) (course : Course) (time : ℕ) (given : List Packet)
    → course.first ≡ Some time → (course_after forget course given).first ≡ Some time
first_kept forget course time [] is = is
first_kept forget course time (packet ∷ packets) is =
    first_kept forget (next_course forget course packet) time packets
    (ap (λ (first : Option ℕ). Some (first_at first packet.time)) is)

-- when the first packet came, by the course
pub first_known : (forget : Option ℕ) (memory : ℕ) (given : List Packet)
    → (course_after forget (no_course memory) given).first ≡ first_time given
first_known forget memory [] = refl
first_known forget memory (packet ∷ packets) =
    first_kept forget (next_course forget (no_course memory) packet) packet.time packets refl

-- what datagrams may take doesn't change
pub memory_kept : (forget : Option ℕ) (course : Course) (given : List Packet)
    → (course_after forget course given).memory ≡ course.memory
memory_kept forget course [] = refl
memory_kept forget course (packet ∷ packets) =
    memory_kept forget (next_course forget course packet) packets

-- a write that fails after a run is how it ends
pub breaks_within : (rules : Rules) (skipped : Skipped) (left : Option (List ℕ)) (bytes : List ℕ)
    (given : List Packet) (result : Result Unit RunError) (error : RunError) (Breaks : Type 0)
    → BreaksBy true error Breaks → EndsWithin true rules skipped left bytes given result
    → EndsWithin true rules skipped left bytes given (Err error)
breaks_within rules skipped left bytes given result error Breaks by (time, inl (fewer, ends)) = (
  time,
  inl (
    fewer,
    break_ends true rules.unfit skipped left bytes given error Breaks by
        (ends_taken rules.unfit skipped left bytes given true result ends),
  ),
)
breaks_within rules skipped left bytes given result error Breaks by (time, inr (limit, done)) =
    (time, inr (limit, weaker_break true error Breaks (Unit {0}) (λ breaks. tt) by))
