-- The lines that request something, as they are written: numbers in decimal, with no leading zero,
-- and hex digits in lower case. No line has its end here.
use Rattle.std.specs.Prelude.{ℕ, ◌/◌, ◌%◌, ◌==◌, if◌then◌else◌, List, [], ◌++◌, codes, decimal}
use Rattle.hex.specs.Hex.{encode_lower}

-- the line that gives a frame on a channel
abbrev pub written_frame : (channel : ℕ) → (frame : List ℕ) → List ℕ
written_frame channel frame =
    codes "frame " ++ decimal channel ++ codes " " ++ encode_lower frame

-- nanoseconds after a time's microseconds, where there are any
abbrev pub nanoseconds_text : ℕ → List ℕ
nanoseconds_text n = if n == 0 then [] else codes " " ++ decimal n

-- a time in nanoseconds after the digits of a frame: its seconds and microseconds
abbrev pub time_text : ℕ → List ℕ
time_text time = codes " " ++ decimal (time / 1000000000) ++ codes " "
    ++ decimal (time / 1000 % 1000000) ++ nanoseconds_text (time % 1000)

-- the line of a frame that was captured at this time
abbrev pub written_timed_frame : (channel : ℕ) → (frame : List ℕ) → (time : ℕ) → List ℕ
written_timed_frame channel frame time = written_frame channel frame ++ time_text time

-- the line that has all datagrams dropped of which no fragment came with the line of this number or
-- after it
abbrev pub written_forget : (number : ℕ) → List ℕ
written_forget number = codes "forget " ++ decimal number
