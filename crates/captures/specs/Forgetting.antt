-- Which reassemblies the `forget` lines drop: a reassembly whose last fragment came on a line is
-- dropped by a `forget` line with a greater number.
use Rattle.std.specs.Prelude.{ℕ, ◌+◌, ◌-◌, ◌*◌, ◌^◌, ◌<◌, ◌≤◌, Bool, true, false, List, [], ◌∷◌, ◌++◌}
use Rattle.std.specs.List.{AllByRecursion}
use Rattle.captures.specs.Lines.{Packet, blank, has_passed, noted, noted_all}
pub use Rattle.captures.specs.Spans.{Drops}
use Rattle.captures.specs.declared.extra.Extra.TheVariants.{Forget}
use Rattle.captures.specs.declared.text.ledger.Ledger.{Ledger}

abbrev pub with_forget : Bool → ℕ → List ℕ → List ℕ
with_forget true number numbers = number ∷ numbers
with_forget false number numbers = numbers

-- the numbers in the `forget` lines, among the lines of these packets
abbrev pub forgets : ℕ → Ledger → List Packet → List ℕ
forgets seconds ledger [] = []
forgets seconds ledger (packet ∷ packets) =
    with_forget (has_passed seconds ledger packet.origin.time) ledger.line
    (forgets seconds (noted ledger packet) packets)

-- the ledger after the lines of these packets and of one more, whose own line is the last one then
abbrev pub come_to : ℕ → List Packet → Packet → Ledger
come_to seconds before packet = noted (noted_all (blank (Forget seconds)) before) packet

-- while all packets after one come less than this many seconds later, no line drops its reassembly
abbrev pub ForgetKeeps : Type 0
ForgetKeeps =
    (seconds : ℕ) (before : List Packet) (packet : Packet) (later : List Packet) → 0 < seconds
    → AllByRecursion (λ p. p.origin.time < packet.origin.time + 1000000000 * seconds) later
    → Drops (come_to seconds before packet).lines
    (forgets seconds (come_to seconds before packet) later) → ⊥

-- where no packet before it is later, its reassembly is dropped at the latest with a packet that
-- comes this many seconds after each up to one that comes this many seconds after it
abbrev pub ForgetDrops : Type 0
ForgetDrops =
    (seconds : ℕ) (before : List Packet) (packet : Packet) (between : List Packet) (next : Packet)
    (later : List Packet) (last : Packet)
    → AllByRecursion (λ p. p.origin.time ≤ packet.origin.time) before
    → packet.origin.time + 1000000000 * seconds ≤ next.origin.time
    → AllByRecursion (λ p. p.origin.time + 1000000000 * seconds ≤ last.origin.time)
    (between ++ next ∷ [])
    → (come_to seconds before packet).lines < 2 ^ 64 - 1
    → Drops (come_to seconds before packet).lines
    (forgets seconds (come_to seconds before packet) ((between ++ next ∷ []) ++ (later ++ last ∷ [])))
