-- How many packets there are of each size.
use Rattle.std.specs.Prelude.{◌≡◌, ℕ, zero, suc, ◌<◌, ◌^◌, ◌==◌, ◌&&◌, nat_le, nat_lt, Bool, List, count_by}
use Rattle.std.specs.Prelude.{slice_index}
use Rattle.captures.specs.Numbers.{capped}
use Rattle.packets.specs.declared.outline.Outline.{Outline}
use Rattle.packets.specs.declared.summary.sizes.Sizes.{Sizes}
use Rattle.packets.specs.declared.summary.sizes.TheConstants.{SIZE_COUNT}

-- whether a number has so many binary digits, 0 having none
abbrev pub has_digits : ℕ → ℕ → Bool
has_digits zero n = n == 0
has_digits (suc more) n = nat_le (2 ^ more) n && nat_lt n (2 ^ suc more)

-- of each number of digits the packets are counted whose length has so many
abbrev pub CountsSizes : Sizes → List Outline → Type 0
CountsSizes sizes packets = (digits : ℕ) → digits < SIZE_COUNT → slice_index sizes.counts digits
    ≡ capped (count_by (λ packet. has_digits digits packet.len) packets)
