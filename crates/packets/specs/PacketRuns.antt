-- Runs over the packets of a capture, and how they end.
use Rattle.std.specs.Prelude.{◌≡◌, ◌⊎◌, ℕ, ◌-◌, ◌^◌, ◌≤◌, Bool, true, List, [], ◌∷◌, ◌++◌, length, map, Option, Some}
use Rattle.std.specs.Prelude.{Result, Ok, Err, MatchResult}
use Rattle.std.specs.Io.KnownBytes.{IsAtEnd}
use Rattle.captures.specs.PacketSteps.{Gives, taken_of}
use Rattle.captures.specs.Readers.{AreGiven, IsRefusedAt}
use Rattle.captures.specs.CaptureRuns.{IsCapture}
use Rattle.captures.specs.Units.{skipped_in}
use Rattle.device_runs.specs.declared.limits.TheConstants.{READ_COUNT_LIMIT}
use Rattle.captures.specs.declared.packet.Packet.{Packet}
use Rattle.captures.specs.declared.skipped.Skipped.{Skipped}
use Rattle.captures.specs.declared.state.State.{State}
use Rattle.captures.specs.declared.state.State.TheVariants.{Start}
use Rattle.captures.specs.declared.translation.run_error.RunError.{RunError}
use Rattle.captures.specs.declared.translation.run_error.RunError.TheVariants.{Read, Write, WriteZero, Memory}
use Rattle.captures.specs.declared.translation.run_error.RunError.TheVariants.{TooManyReads, Capture, BadLine}
use Rattle.captures.specs.declared.unfit.Unfit.{Unfit}
use Rattle.packets.specs.Limits.{AreFewer, AreInTime, first_time, is_late}
use Rattle.packets.specs.declared.run.rules.Rules.{Rules}

-- these are the first packets of the bytes, each once and in their order; so many were passed over
abbrev pub AreFirst : Unfit → Skipped → List ℕ → List Packet → Type 0
AreFirst unfit skipped read given = (state : State) × (rest : List ℕ)
    × Gives (Start unfit) read given state rest × (skipped_in state ≡ skipped)

-- these are the first packets of the bytes, but perhaps the last one, for which memory ran out
abbrev pub AreButLast : Unfit → Skipped → List ℕ → List Packet → Type 0
AreButLast unfit skipped read given = (last : List Packet) × (length last ≤ 1)
    × AreFirst unfit skipped read (given ++ last)

-- these are packets of the bytes, each once and in their order: the first ones, all of a capture,
-- or, as memory may run out before a write fails, all but the last one; so many were passed over
abbrev pub AreTaken : Unfit → Skipped → List ℕ → List Packet → Type 0
AreTaken unfit skipped read given = AreButLast unfit skipped read given
    ⊎ IsCapture unfit read (map taken_of given) skipped

-- a run with this result that came to no limit has read these bytes, of which it was given these
-- packets and passed over so many: all of a whole capture; all before a refusal or a failed read; or
-- some. Only a run that writes ends by a write
abbrev pub EndsBy : (writes : Bool) → Unfit → Skipped → (left : Option (List ℕ)) → (read : List ℕ)
    → (given : List Packet) → Result Unit RunError → Type 0
EndsBy writes unfit skipped left read given (Ok done) =
    IsCapture unfit read (map taken_of given) skipped × IsAtEnd left
EndsBy writes unfit skipped left read given (Err Read) = AreGiven unfit skipped read given
EndsBy writes unfit skipped left read given (Err Write) =
    (writes ≡ true) × AreTaken unfit skipped read given
EndsBy writes unfit skipped left read given (Err WriteZero) =
    (writes ≡ true) × AreTaken unfit skipped read given
EndsBy writes unfit skipped left read given (Err Memory) = AreButLast unfit skipped read given
EndsBy writes unfit skipped left read given (Err TooManyReads) =
    (AreGiven unfit skipped read given × (READ_COUNT_LIMIT ≤ length read))
    ⊎ (AreFirst unfit skipped read given × (2 ^ 64 - 1 ≤ length given))
EndsBy writes unfit skipped left read given (Err (Capture error position)) =
    IsRefusedAt unfit skipped error position left read given
EndsBy writes unfit skipped left read given (Err (BadLine number)) = ⊥

-- after a run the first holds, or the second where a write ended it
abbrev pub Unbroken : Result Unit RunError → Type 0 → Type 0 → Type 0
Unbroken (Ok done) Goes Breaks = Goes
Unbroken (Err Read) Goes Breaks = Goes
Unbroken (Err Write) Goes Breaks = Breaks
Unbroken (Err WriteZero) Goes Breaks = Breaks
Unbroken (Err Memory) Goes Breaks = Goes
Unbroken (Err TooManyReads) Goes Breaks = Goes
Unbroken (Err (Capture error position)) Goes Breaks = Goes
Unbroken (Err (BadLine number)) Goes Breaks = Goes

-- after a run the first holds, or the third where a write ended it; or memory ran out for a packet, and the second holds
abbrev pub Leaves : Result Unit RunError → (Goes Fails Breaks : Type 0) → Type 0
Leaves result Goes Fails Breaks = Unbroken result Goes Breaks ⊎ ((result ≡ Err Memory) × Fails)

-- of a text this is written: all, or a prefix where a write ended the run
abbrev pub IsWritten : Result Unit RunError → (text written : List ℕ) → Type 0
IsWritten result text written =
    Unbroken result (written ≡ text) ((rest : List ℕ) × (text ≡ written ++ rest))

-- what holds unless memory ran out
abbrev pub UnlessOutOfMemory : Result Unit RunError → Type 0 → Type 0
UnlessOutOfMemory (Ok done) Holds = Holds
UnlessOutOfMemory (Err Read) Holds = Holds
UnlessOutOfMemory (Err Write) Holds = Holds
UnlessOutOfMemory (Err WriteZero) Holds = Holds
UnlessOutOfMemory (Err Memory) Holds = Unit {0}
UnlessOutOfMemory (Err TooManyReads) Holds = Holds
UnlessOutOfMemory (Err (Capture error position)) Holds = Holds
UnlessOutOfMemory (Err (BadLine number)) Holds = Holds

-- the error is a write's, of a run that writes, and this holds
abbrev pub BreaksBy : (writes : Bool) → RunError → Type 0 → Type 0
BreaksBy writes Read Breaks = ⊥
BreaksBy writes Write Breaks = (writes ≡ true) × Breaks
BreaksBy writes WriteZero Breaks = (writes ≡ true) × Breaks
BreaksBy writes Memory Breaks = ⊥
BreaksBy writes TooManyReads Breaks = ⊥
BreaksBy writes (Capture error position) Breaks = ⊥
BreaksBy writes (BadLine number) Breaks = ⊥

-- these are the packets up to a limit: as many as the rules permit, or all before one that comes too
-- late; so many were passed over by then
abbrev pub AreUpToLimit : Rules → Skipped → (read : List ℕ) → (given : List Packet) → Type 0
AreUpToLimit rules skipped read given =
    (AreFirst rules.unfit skipped read given × (rules.count ≡ Some (length given)))
    ⊎ ((late : Packet) × AreFirst rules.unfit skipped read (given ++ late ∷ [])
    × (is_late rules.duration (first_time given) late.time ≡ true) × AreFewer rules.count given)

-- a run by these rules with this result has read these bytes, of which it was given these packets,
-- none of them too late: it came to no limit; or to one, and then only a write fails
abbrev pub EndsWithin : (writes : Bool) → Rules → Skipped → (left : Option (List ℕ))
    → (read : List ℕ) → (given : List Packet) → Result Unit RunError → Type 0
EndsWithin writes rules skipped left read given result = AreInTime rules.duration given
    × ((AreFewer rules.count given × EndsBy writes rules.unfit skipped left read given result)
    ⊎ (AreUpToLimit rules skipped read given
    × MatchResult result (λ done. Unit {0}) (λ error. BreaksBy writes error (Unit {0}))))
