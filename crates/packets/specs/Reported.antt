-- What a run over a capture reports.
use Rattle.std.specs.Prelude.{◌≡◌, ℕ, Bool, List, Option}
use Rattle.std.specs.Io.KnownBytes.{Consumes}
use Rattle.captures.specs.declared.packet.Packet.{Packet}
use Rattle.etherparse.specs.OpenReassemblies.{IsOpenCount}
use Rattle.packets.specs.Courses.{AreDissected, Course, course_after, no_course}
use Rattle.packets.specs.PacketRuns.{EndsWithin, UnlessOutOfMemory}
use Rattle.packets.specs.declared.dissection.Dissection.{Dissection}
use Rattle.packets.specs.declared.run.rules.Rules.{Rules}
use Rattle.packets.specs.declared.run.visit_all.Ending.{Ending}

-- after packets the run ended so: with as many messages that still lack fragments, unless memory ran
-- out, and as many that were dropped
abbrev pub EndsAfter : Course → Ending → Type 0
EndsAfter course ending = UnlessOutOfMemory ending.result (IsOpenCount course.lists ending.open)
    × (ending.dropped ≡ course.dropped)

-- a run by these rules over a reader of these bytes ended so, and these are the packets of the bytes
-- that it read, dissected
abbrev pub Reports : (writes : Bool) → Rules → (remaining : Option (List ℕ)) → Ending
    → List Dissection → Type 0
Reports writes rules remaining ending reported = (read : List ℕ) × (left : Option (List ℕ))
    × (given : List Packet) × Consumes remaining left read
    × EndsWithin writes rules ending.skipped left read given ending.result
    × AreDissected rules.checksums rules.forget (no_course rules.reassembly_memory) given reported
    × EndsAfter (course_after rules.forget (no_course rules.reassembly_memory) given) ending
