-- Limits of a run over the packets of a capture: how many it takes, and for how long.
use Rattle.std.specs.Prelude.{◌≡◌, ◌⊎◌, ◌<◌, ℕ, Bool, false, List, [], ◌∷◌, length, Option, Some, None}
use Rattle.std.specs.List.{AllByRecursion}
use Rattle.captures.specs.Spans.{have_passed}
use Rattle.captures.specs.declared.packet.Packet.{Packet}

-- when the first of some packets came
abbrev pub first_time : List Packet → Option ℕ
first_time [] = None
first_time (packet ∷ packets) = Some packet.time

-- whether a packet of this time comes so many seconds or more after the first one
abbrev pub is_late : (duration first : Option ℕ) → (time : ℕ) → Bool
is_late None first time = false
is_late (Some seconds) None time = false
is_late (Some seconds) (Some first) time = have_passed seconds first time

-- no packet comes so many seconds or more after the first one
abbrev pub AreInTime : (duration : Option ℕ) → List Packet → Type 0
AreInTime duration [] = Unit {0}
AreInTime duration (first ∷ later) =
    AllByRecursion (λ p. is_late duration (Some first.time) p.time ≡ false) later

-- there are fewer packets than that, or none yet
abbrev pub AreFewer : (count : Option ℕ) → List Packet → Type 0
AreFewer None given = Unit {0}
AreFewer (Some count) given = (given ≡ []) ⊎ (length given < count)
