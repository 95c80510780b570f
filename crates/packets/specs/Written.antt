-- What is written of packets: a line for each, or another text.
use Rattle.std.specs.Prelude.{◌≡◌, ℕ, ◌==◌, not, true, List, [], ◌∷◌, ◌++◌, filter, Option, Result}
use Rattle.std.specs.Io.KnownBytes.{Appends, Consumes}
use Rattle.captures.specs.declared.packet.Packet.{Packet}
use Rattle.captures.specs.declared.translation.run_error.RunError.{RunError}
use Rattle.packets.specs.Courses.{AreDissected, course_after, no_course, shown}
use Rattle.packets.specs.PacketRuns.{EndsWithin, IsWritten}
use Rattle.packets.specs.declared.dissection.Dissection.{Dissection}
use Rattle.packets.specs.declared.run.omitted.Omitted.{Omitted}
use Rattle.packets.specs.declared.run.rules.Rules.{Rules}

-- a line: a text without ends of lines, and its own end
abbrev pub one_line : List ℕ → List ℕ
one_line text = filter (λ byte. not (byte == 10)) text ++ 10 ∷ []

-- the texts of some packets, one by one, in their order, where such a text may be made of each
abbrev pub AreTexts : (Dissection → List ℕ → Type 0) → List Dissection → List ℕ → Type 0
AreTexts IsTextOf [] text = text ≡ []
AreTexts IsTextOf (packet ∷ packets) text = (first : List ℕ) × (later : List ℕ)
    × (text ≡ first ++ later) × IsTextOf packet first × AreTexts IsTextOf packets later

-- the text is a line whose content may describe the packet, and the lines below it
abbrev pub IsLineOf : (Dissection → List ℕ → Type 0) → (Dissection → List ℕ) → Dissection → List ℕ → Type 0
IsLineOf describes details packet text = (content : List ℕ)
    × (text ≡ one_line content ++ details packet) × describes packet content

-- the lines of some packets, one by one, in their order, where such a text may describe each
abbrev pub AreLines : (Dissection → List ℕ → Type 0) → (Dissection → List ℕ) → List Dissection
    → List ℕ → Type 0
AreLines describes details packets text = AreTexts (IsLineOf describes details) packets text

-- a run with this result read from the source, left this out, and wrote after the first bytes such a
-- text of those packets that its rules let through
abbrev pub Writes : (List Dissection → List ℕ → Type 0) → Rules → Omitted
    → (source first now : Option (List ℕ)) → Result Unit RunError → Type 0
Writes IsTextOf rules omitted source first now result = (read : List ℕ)
    × (left : Option (List ℕ)) × (given : List Packet) × (reported : List Dissection)
    × Consumes source left read × EndsWithin true rules omitted.skipped left read given result
    × (omitted.dropped ≡ (course_after rules.forget (no_course rules.reassembly_memory) given).dropped)
    × AreDissected rules.checksums rules.forget (no_course rules.reassembly_memory) given reported
    × (text : List ℕ)
    × IsTextOf (shown rules.filter reported) text × (written : List ℕ)
    × Appends first now written × IsWritten result text written

-- the same of the lines of those packets
abbrev pub WritesLines : (Dissection → List ℕ → Type 0) → (Dissection → List ℕ) → Rules → Omitted
    → (source first now : Option (List ℕ)) → Result Unit RunError → Type 0
WritesLines describes details rules omitted source first now result =
    Writes (AreLines describes details) rules omitted source first now result
