-- Sequence numbers, and how far they lie from one another.
use Rattle.std.proofs.Common.{◌≡◌, ℕ, ◌+◌, ◌-◌, ◌%◌, ◌^◌, ◌<◌, ◌≤◌, arith}
use Rattle.std.proofs.lemmas.Bool.Decides.{nat_tests}
use Rattle.tcp_streams.specs.declared.sequence_numbers.Distance.TheVariants.{After, Before}
use Rattle.tcp_streams.specs.SequenceNumbers.{distance}

-- of two numbers the later of which is so many after the other
steps_after : (s n d : ℕ) → d < 2 ^ 31
    → ((s + (n + d)) % 2 ^ 32 + (2 ^ 32 - (s + n) % 2 ^ 32)) % 2 ^ 32 ≡ d
steps_after s n d h = omega arith

steps_before : (s n d : ℕ) → 0 < d → d ≤ 2 ^ 31
    → ((s + n) % 2 ^ 32 + (2 ^ 32 - (s + (n + d)) % 2 ^ 32)) % 2 ^ 32 ≡ 2 ^ 32 - d
steps_before s n d some h = omega arith

pub distance-after : (s n d : ℕ) → d < 2 ^ 31
    → distance ((s + n) % 2 ^ 32) ((s + (n + d)) % 2 ^ 32) ≡ After d
distance-after s n d h = rw (steps_after s n d h) (grind (arith, nat_tests))

pub distance-before : (s n d : ℕ) → 0 < d → d ≤ 2 ^ 31
    → distance ((s + (n + d)) % 2 ^ 32) ((s + n) % 2 ^ 32) ≡ Before d
distance-before s n d some h = rw (steps_before s n d some h) (grind (arith, nat_tests))

-- both numbers greater by so many
steps_later : (a b k : ℕ) → ((a + k) % 2 ^ 32 + (2 ^ 32 - (b + k) % 2 ^ 32)) % 2 ^ 32
    ≡ (a % 2 ^ 32 + (2 ^ 32 - b % 2 ^ 32)) % 2 ^ 32
steps_later a b k = omega arith

pub distance-later : (a b k : ℕ) → distance ((b + k) % 2 ^ 32) ((a + k) % 2 ^ 32)
    ≡ distance (b % 2 ^ 32) (a % 2 ^ 32)
distance-later a b k = rw (steps_later a b k)
