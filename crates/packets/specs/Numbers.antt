-- IP packets by the number of the protocol they carry.
use Rattle.std.specs.Prelude.{◌≡◌, ℕ, ◌<◌, List}
use Rattle.std.specs.List.{slice_index_or}
use Rattle.packets.specs.Headers.{carries}
use Rattle.packets.specs.Table.{no_tally}
use Rattle.packets.specs.Tally.{tally_of}
use Rattle.packets.specs.declared.outline.Outline.{Outline}
use Rattle.packets.specs.declared.summary.numbers.NumberTallies.{NumberTallies}
use Rattle.packets.specs.declared.summary.tally.Tally.{Tally}

abbrev pub number_tally : NumberTallies → ℕ → Tally
number_tally numbers number = slice_index_or numbers.tallies number no_tally

-- of each number the packets are counted that carry its protocol
abbrev pub CountsNumbers : NumberTallies → List Outline → Type 0
CountsNumbers numbers packets = (number : ℕ) → number < 256 → number_tally numbers number
    ≡ tally_of (λ packet. carries packet.headers.net number) packets
