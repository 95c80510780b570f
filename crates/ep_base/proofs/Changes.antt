-- What a changed byte does to a text's sum.
use Rattle.std.proofs.Common.{◌≢◌, ◌≡◌, ◌⊎◌, inl, inr, ℕ, ◌+◌, ◌*◌, ◌%◌, ◌<◌, List, [], ◌∷◌, ◌++◌, arith}
use Rattle.ep_base.specs.Sum.{total, OneChangedByte}

-- the total of a text less one of its bytes, and the weight of that byte in it
total-byte : (prefix rest : List ℕ) → (others : ℕ)
    × (((byte : ℕ) → total (prefix ++ byte ∷ rest) ≡ others + 256 * byte)
    ⊎ ((byte : ℕ) → total (prefix ++ byte ∷ rest) ≡ others + byte))
unfolding total
total-byte [] [] = (0, inl (λ byte. omega arith))
total-byte [] (b ∷ rest) = (b + total rest, inl (λ byte. omega arith))
total-byte (a ∷ []) rest = (256 * a + total rest, inr (λ byte. omega arith))
total-byte (a ∷ b ∷ prefix) rest =
    let more = total-byte prefix rest in (
      256 * a + b + more.0,
      grind arith,
    )

-- two numbers that are a little apart aren't both divisible by 65535
apart : (others m n : ℕ) → m < 65535 → n < 65535 → m ≢ n → (others + m) % 65535 ≡ 0
    → (others + n) % 65535 ≡ 0 → ⊥
apart others m n p q other first second = other (omega arith)

pub one_changed_byte : OneChangedByte
one_changed_byte prefix rest old new p q other h =
    let parts = total-byte prefix rest in
    grind arith
