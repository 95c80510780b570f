-- What is known of a run over memory.
use Rattle.std.specs.Prelude.{◌≡◌, length, None, Some}
use Rattle.device_runs.specs.Calls.{Call, Reads, Writes}
use Rattle.device_runs.specs.Known.{Known, KnownCall}

-- calls of a device in memory: no read fails, and a write that doesn't fail takes all its bytes
abbrev pub IsInMemory : Call → Type 0
IsInMemory (Reads None) = ⊥
IsInMemory (Reads (Some bytes)) = Unit {0}
IsInMemory (Writes bytes None) = Unit {0}
IsInMemory (Writes bytes (Some n)) = n ≡ length bytes

abbrev pub MemoryCall : Known → Call → Known → Type 0
MemoryCall old call new = KnownCall old call new × IsInMemory call
