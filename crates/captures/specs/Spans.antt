-- Spans of packet time, each of at least this many seconds.
use Rattle.std.specs.Prelude.{ℕ, ◌+◌, ◌*◌, ◌<◌, ◌≤◌, ◌⊎◌, nat_le, Bool, if◌then◌else◌, Option, Some, None, List, []}
use Rattle.std.specs.Prelude.{◌∷◌, ◌++◌}
use Rattle.std.specs.List.{AllByRecursion}

-- whether so many seconds have passed since a span began, when a packet of this time comes: none
-- have, not even 0, where it comes before that
abbrev pub have_passed : (seconds begin time : ℕ) → Bool
have_passed seconds begin time = nat_le (begin + 1000000000 * seconds) time

-- when the span began that has passed with a packet of this time, if one has
abbrev pub passed_with : ℕ → Option ℕ → ℕ → Option ℕ
passed_with seconds None time = None
passed_with seconds (Some begin) time = if have_passed seconds begin time then Some begin else None

-- when the one began that lasts then: with the first packet, and with each by which one has passed
abbrev pub begin_with : ℕ → Option ℕ → ℕ → Option ℕ
begin_with seconds None time = Some time
begin_with seconds (Some begin) time =
    if have_passed seconds begin time then Some time else Some begin

-- ---- which spans pass, and what they drop

-- when a packet comes, and the number that separates what came before it from what came after: that
-- of its line, or its time once more
pub record Mark : Type 0 where
  pub time : ℕ
  pub number : ℕ

-- the numbers of the packets with which those spans began that pass with these packets, the first of
-- which began with this one
abbrev pub passed_spans : ℕ → Mark → List Mark → List ℕ
passed_spans seconds span [] = []
passed_spans seconds span (packet ∷ packets) = if have_passed seconds span.time packet.time
    then span.number ∷ passed_spans seconds packet packets
    else passed_spans seconds span packets

-- one of them drops a reassembly whose last fragment has this number
abbrev pub Drops : ℕ → List ℕ → Type 0
Drops own [] = ⊥
Drops own (number ∷ numbers) = (own < number) ⊎ Drops own numbers

-- a fragment comes in a span that began no later by number and has not passed with it: while all
-- packets after it come less than this many seconds later, no span drops its reassembly
abbrev pub SpansKeep : Type 0
SpansKeep = (seconds time own : ℕ) (span : Mark) (later : List Mark)
    → span.number ≤ own → time < span.time + 1000000000 * seconds
    → AllByRecursion (λ p. p.time < time + 1000000000 * seconds) later
    → Drops own (passed_spans seconds span later) → ⊥

-- a fragment comes no earlier than its span began: its reassembly is dropped at the latest with a
-- packet that comes this many seconds after each up to one that comes this many seconds after it.
-- Those packets have greater numbers than the fragment, or come no later
abbrev pub SpansDrop : Type 0
SpansDrop = (seconds time own : ℕ) (span : Mark) (between : List Mark) (next : Mark)
    (later : List Mark) (last : Mark)
    → span.time ≤ time → time + 1000000000 * seconds ≤ next.time → own < next.number
    → AllByRecursion (λ p. (own < p.number) ⊎ (p.time ≤ time)) between
    → AllByRecursion (λ p. p.time + 1000000000 * seconds ≤ last.time) (between ++ next ∷ [])
    → Drops own (passed_spans seconds span ((between ++ next ∷ []) ++ (later ++ last ∷ [])))
