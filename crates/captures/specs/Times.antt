-- When a packet was captured, in nanoseconds since the year 1970 began. Earlier times are taken as
-- 1970, and later ones than seconds of 32 bits hold as the last of these.
use Rattle.std.specs.Prelude.{ℕ, zero, suc, ◌+◌, ◌-◌, ◌*◌, ◌/◌, ◌^◌, ◌==◌, ◌&&◌, ◌||◌, min, nat_lt, Bool, if◌then◌else◌}
use Rattle.std.specs.Prelude.{List, length, drop, slice_index}
use Rattle.captures.specs.Numbers.{half, word}
use Rattle.captures.specs.declared.byte_order.ByteOrder.{ByteOrder}
use Rattle.captures.specs.declared.byte_order.ByteOrder.TheVariants.{Big, Little}
use Rattle.captures.specs.declared.limits.TheConstants.{TIME_LIMIT}
use Rattle.captures.specs.declared.time.clock.Clock.{Clock}
use Rattle.captures.specs.declared.time.time_unit.TimeUnit.{TimeUnit}
use Rattle.captures.specs.declared.time.time_unit.TimeUnit.TheVariants.{Microseconds, Nanoseconds}

-- ---- classic captures (draft-ietf-opsawg-pcap, sections 4 and 5)

-- the unit of a capture's times, by the magic number
abbrev pub unit_of : ℕ → TimeUnit
unit_of magic = if magic == 0xa1b23c4d then Nanoseconds else Microseconds

abbrev pub nanoseconds_in : TimeUnit → ℕ
nanoseconds_in Microseconds = 1000
nanoseconds_in Nanoseconds = 1

-- seconds and a fraction in this unit
abbrev pub record_time : TimeUnit → (seconds : ℕ) → (parts : ℕ) → ℕ
record_time unit seconds parts =
    min (1000000000 * seconds + nanoseconds_in unit * parts) TIME_LIMIT

-- ---- pcapng files (draft-ietf-opsawg-pcapng, sections 4.2 and 4.3)

-- a count of a clock's units: a power of ten of them make a second, or of two from 128 on
abbrev pub nanoseconds_of : (resolution : ℕ) → (count : ℕ) → ℕ
nanoseconds_of resolution count =
    if nat_lt resolution 10 then count * 10 ^ (9 - resolution)
    else if nat_lt resolution 128 then count / 10 ^ (resolution - 9)
    else 1000000000 * count / 2 ^ (resolution - 128)

-- this many seconds later, or earlier: a signed number of 64 bits
abbrev pub moved : (offset : ℕ) → ℕ → ℕ
moved offset time =
    if nat_lt offset (2 ^ 63) then time + 1000000000 * offset
    else time - 1000000000 * (2 ^ 64 - offset)

abbrev pub clock_time : Clock → (high : ℕ) → (low : ℕ) → ℕ
clock_time clock high low =
    min (moved clock.offset (nanoseconds_of clock.resolution (2 ^ 32 * high + low))) TIME_LIMIT

-- microseconds since 1970: the clock of an interface whose description states no other
abbrev pub usual_clock : Clock
usual_clock = record { resolution = 6; offset = 0 }

-- the number that the eight bytes at an offset encode
abbrev pub long_word : ByteOrder → List ℕ → ℕ → ℕ
long_word Big bytes p = 2 ^ 32 * word Big bytes p + word Big bytes (p + 4)
long_word Little bytes p = word Little bytes p + 2 ^ 32 * word Little bytes (p + 4)

-- an option: its code, the length of its value, and the value, padded to whole words of 4 bytes.
-- Code 0 ends the options, and so does one that isn't whole
abbrev pub ends_options : ByteOrder → List ℕ → Bool
ends_options order bytes =
    nat_lt (length bytes) 4 || (half order bytes 0 == 0)
    || nat_lt (length bytes) (4 + half order bytes 2)

abbrev pub option_len : ByteOrder → List ℕ → ℕ
option_len order bytes = 4 + 4 * ((half order bytes 2 + 3) / 4)

-- the option for the resolution has code 9 and a value of a byte, that for the offset 14 and eight
abbrev pub with_option : ByteOrder → List ℕ → Clock → Clock
with_option order bytes clock =
    if (half order bytes 0 == 9) && (half order bytes 2 == 1)
    then record clock { resolution = slice_index bytes 4 }
    else if (half order bytes 0 == 14) && (half order bytes 2 == 8)
    then record clock { offset = long_word order bytes 4 }
    else clock

-- after this many options at most
abbrev pub clock_by : ℕ → ByteOrder → List ℕ → Clock → Clock
clock_by zero order bytes clock = clock
clock_by (suc n) order bytes clock =
    if ends_options order bytes then clock
    else clock_by n order (drop (option_len order bytes) bytes) (with_option order bytes clock)

-- the clock that the options of an interface's description state
abbrev pub clock_of : ByteOrder → List ℕ → Clock
clock_of order options = clock_by (length options) order options usual_clock
