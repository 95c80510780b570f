use Rattle.std.proofs.Common.{◌≡◌, ◌≤◌, ◌-◌, List, ℕ, length}
use Rattle.std.specs.Prelude.{unwrap_or}
use Rattle.std.specs.Io.KnownBytes.{Consumes}
use Rattle.captures.specs.Readers.{HasRead, source_of}
use Rattle.captures.specs.declared.packet.Packet.{Packet}
use Rattle.packets.specs.Courses.{AreDissected, HasCourse, course_after, no_course, shown}
use Rattle.packets.specs.Limits.{AreInTime}
use Rattle.packets.specs.declared.dissection.Dissection.{Dissection}
use Rattle.packets.proofs.run.walk.walk.Given as goal

-- what was read, and the packets that were given and dissected so far
abbrev pub invariant-packets : goal.invariant-packets
invariant-packets g l = record {
  read : List ℕ;
  given : List Packet;
  reported : List Dissection;
  has : HasRead l.fn.rules.unfit l.packets read given;
  consumed : Consumes (g.R.Read.remaining (source_of l.fn.packets))
      (g.R.Read.remaining (source_of l.packets)) read;
  dissected : AreDissected l.fn.rules.checksums l.fn.rules.forget (no_course l.fn.rules.reassembly_memory) given reported;
  course : HasCourse (course_after l.fn.rules.forget (no_course l.fn.rules.reassembly_memory) given) l.dissector l.spans;
  goes : g.V.Visitor.goes l.fn.visitor l.visitor (shown l.fn.rules.filter reported);
  in_time : AreInTime l.fn.rules.duration given;
  counted : l.count ≡ length given;
  below : l.count ≤ l.limit;
  limit : l.limit ≡ unwrap_or l.fn.rules.count 18446744073709551615;
}

abbrev pub decreases-packets : goal.decreases-packets
decreases-packets g l = l.limit - l.count
