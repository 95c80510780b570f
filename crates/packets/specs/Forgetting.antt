-- Which reassemblies spans of time drop.
use Rattle.std.specs.Prelude.{◌≡◌, ℕ, ◌+◌, ◌*◌, ◌<◌, ◌≤◌, List, [], ◌∷◌, ◌++◌, Option, Some, None}
use Rattle.std.specs.List.{AllByRecursion}
use Rattle.captures.specs.declared.packet.Packet.{Packet}
use Rattle.etherparse.specs.PoolCalls.{after_frame}
use Rattle.etherparse.specs.Outcome.{Held}
use Rattle.ep_packet.specs.Class.{FragmentName}
use Rattle.packets.specs.Courses.{Course, class_of, course_after, forgotten, next_course, with_packet}
use Rattle.packets.specs.ReassemblyMemory.{taken}

-- each of these packets comes less than so many seconds after the last fragment of a datagram that
-- was accepted, where nothing is dropped
abbrev pub ComeWithin : ℕ → FragmentName → ℕ → Course → List Packet → Type 0
ComeWithin seconds name channel course [] = Unit {0}
ComeWithin seconds name channel course (packet ∷ packets) =
    (packet.time < (course.lists name channel).time + 1000000000 * seconds)
    × ComeWithin seconds name channel (next_course None course packet) packets

-- with none of these packets the datagrams that are not complete come to take more than they may
abbrev pub Fit : Option ℕ → Course → List Packet → Type 0
Fit seconds course [] = Unit {0}
Fit seconds course (packet ∷ packets) =
    let next = with_packet (forgotten seconds packet.time course) packet in
    (taken next.lists next.order ≤ next.memory) × Fit seconds (next_course seconds course packet) packets

-- a packet is no fragment of a datagram, or one that is refused
abbrev pub PassesBy : FragmentName → ℕ → Packet → Type 0
PassesBy name channel packet = (h : Held)
    → after_frame name channel (class_of packet) packet.time packet.interface h ≡ h

-- where the span that lasts began no later than the last fragment of a datagram came, its
-- reassembly is dropped at the latest with a packet that comes so many seconds after each up to one
-- that comes so many seconds after the fragment
abbrev pub ForgetDrops : Type 0
ForgetDrops =
    (seconds channel : ℕ) (name : FragmentName) (course : Course) (begin : ℕ)
    (between : List Packet) (next : Packet) (later : List Packet) (last : Packet) → 0 < seconds
    → course.begin ≡ Some begin → begin ≤ (course.lists name channel).time
    → (course.lists name channel).time + 1000000000 * seconds ≤ next.time
    → AllByRecursion (λ p. p.time + 1000000000 * seconds ≤ last.time) (between ++ next ∷ [])
    → AllByRecursion (PassesBy name channel) ((between ++ next ∷ []) ++ (later ++ last ∷ []))
    → ((course_after (Some seconds) course ((between ++ next ∷ []) ++ (later ++ last ∷ []))).lists
    name channel).fragments ≡ []
