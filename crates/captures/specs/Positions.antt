-- Where in a capture it is refused: at a unit that can't be taken, or that its end cuts off.
use Rattle.std.specs.Prelude.{◌≡◌, ℕ, ◌+◌, ◌-◌, ◌==◌, ◌&&◌, nat_le, if◌then◌else◌, List, length, Option, Some, None}
use Rattle.captures.specs.Numbers.{capped, word}
use Rattle.captures.specs.Pcapng.{section_header}
use Rattle.captures.specs.Units.{seen_in}
use Rattle.captures.specs.declared.byte_order.ByteOrder.TheVariants.{Big}
use Rattle.captures.specs.declared.position.Position.{Position}
use Rattle.captures.specs.declared.state.State.{State}
use Rattle.captures.specs.declared.state.State.TheVariants.{Start, Classic, Pcapng}

-- the type of the block that bytes begin, where it is known: nothing has one in a classic capture,
-- and a section header has the same in both byte orders
abbrev pub block_type : State → List ℕ → Option ℕ
block_type (Start unfit) bytes =
    if nat_le 4 (length bytes) && (word Big bytes 0 == section_header)
    then Some section_header else None
block_type (Classic order time_unit link passing) bytes = None
block_type (Pcapng section) bytes =
    if nat_le 4 (length bytes) then Some (word section.order bytes 0) else None

-- the position of the unit in this state, of which the rest was read: the number of the next packet
-- in the capture, from 1, how many bytes are before the unit, and its block type
pub record IsPosition (state : State) (bytes rest : List ℕ) (position : Position) : Type 0 where
  pub packet : position.packet ≡ capped (seen_in state + 1)
  pub offset : position.offset ≡ capped (length bytes - length rest)
  pub block : position.block ≡ block_type state rest
