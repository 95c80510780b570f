-- Why a segment is refused.
use Rattle.std.specs.Prelude.{ℕ, ◌+◌, ◌^◌, nat_lt, Bool, not, ◌&&◌, ◌||◌, if◌then◌else◌, min, max, Option, Some}
use Rattle.std.specs.Prelude.{None, unwrap_or}
use Rattle.std.specs.Prelude.{List}
use Rattle.std.specs.Option.{option_and_then, option_or}
use Rattle.tcp_streams.specs.declared.refusal.Refused.{Refused}
use Rattle.tcp_streams.specs.declared.refusal.Refused.TheVariants.{OutsideWindow, AfterFin, AfterReset}
use Rattle.tcp_streams.specs.PlacedSegments.{Placed, end_of, is_empty, last_end, fin_of, is_reset}

-- the end of the window: it has so many bytes from the first one that isn't taken; no position is
-- greater than 2 to the 63
abbrev pub window_end : (window taken : ℕ) → ℕ
window_end window taken = min (taken + window) (2 ^ 63)

-- it has a byte or FIN after FIN, whose position is known; or its FIN stands before a byte or FIN
abbrev pub fin_refusal : (fin : Option ℕ) → (last : ℕ) → Placed → Option Refused
fin_refusal fin last s = option_or
    (option_and_then (λ end. if nat_lt end (end_of s) && (s.fin || not (is_empty s)) then Some (AfterFin end) else None) fin)
    (if s.fin && nat_lt (end_of s) (max last (unwrap_or fin 0)) then Some (AfterFin (end_of s)) else None)

-- why it is refused, by the end of the window, the position of FIN, the end of the last byte, and
-- whether the connection was reset
abbrev pub refusal_by : (window_end : ℕ) → (fin : Option ℕ) → (last : ℕ) → (reset : Bool) → Placed → Option Refused
refusal_by window_end fin last reset s = (if nat_lt window_end (end_of s) then Some (OutsideWindow window_end)
    else option_or (fin_refusal fin last s) (if reset then Some AfterReset else None))

-- why it is refused after the accepted ones, of whose text so many bytes were taken
abbrev pub refusal_of : (window taken : ℕ) → List Placed → Placed → Option Refused
refusal_of window taken ss s =
    refusal_by (window_end window taken) (fin_of ss) (last_end ss) (is_reset ss) s
