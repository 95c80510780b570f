-- What a run no longer holds of the bytes that it has read: a prefix of a long block, which is
-- skipped.
use Rattle.std.specs.Prelude.{◌≡◌, ℕ, ◌+◌, ◌-◌, ◌%◌, ◌<◌, ◌≤◌, List, [], ◌++◌, length, drop, Option, Some, None}
use Rattle.captures.specs.Numbers.{word}
use Rattle.captures.specs.Pcapng.{IsSkipped}
use Rattle.captures.specs.Units.{HasUnit, IsIncomplete, Refuses, Takes}
use Rattle.captures.specs.declared.capture_error.CaptureError.{CaptureError}
use Rattle.captures.specs.declared.capture_error.CaptureError.TheVariants.{BadBlock}
use Rattle.captures.specs.declared.origin.Origin.{Origin}
use Rattle.captures.specs.declared.pcapng.long_block.Following.{Following}
use Rattle.captures.specs.declared.pcapng.long_block.Following.TheVariants.{Held, Refused, Passed}
use Rattle.captures.specs.declared.pcapng.long_block.LongBlock.{LongBlock}
use Rattle.captures.specs.declared.pcapng.section.Section.{Section}
use Rattle.captures.specs.declared.state.State.{State}
use Rattle.captures.specs.declared.state.State.TheVariants.{Pcapng}
use Rattle.captures.specs.declared.text.ledger.Ledger.{Ledger}

-- a prefix of such a block in a section, which ends before its second length
pub record IsPrefixOfBlock (block : LongBlock) (section : Section) (dropped : List ℕ) : Type 0 where
  pub order : block.order ≡ section.order
  pub skipped : IsSkipped section.order dropped
  pub kind : word section.order dropped 0 ≡ block.kind
  pub size : 12 ≤ length dropped
  pub words : block.len % 4 ≡ 0
  pub reported : word section.order dropped 4 ≡ block.len
  pub left : length dropped + block.left + 4 ≡ block.len

-- after the whole units of a capture, in this state, these bytes are dropped: none, or a prefix of
-- a long block
abbrev pub IsDropped : State → Option LongBlock → List ℕ → Type 0
IsDropped state None dropped = dropped ≡ []
IsDropped state (Some block) dropped = (section : Section) × (state ≡ Pcapng section)
    × IsPrefixOfBlock block section dropped

-- how many bytes are dropped of such a block
abbrev pub dropped_len : Option LongBlock → ℕ
dropped_len None = 0
dropped_len (Some block) = block.len - 4 - block.left

-- the last n bytes
abbrev pub last_of : ℕ → List ℕ → List ℕ
last_of n bytes = drop (length bytes - n) bytes

-- of bytes that follow what is dropped of a long block, all but the last `left` are dropped too
pub record DropsMore (state : State) (dropped bytes : List ℕ) (started : LongBlock) (left : ℕ)
    : Type 0 where
  pub prefix : List ℕ
  pub parts : bytes ≡ prefix ++ last_of left bytes
  pub is_dropped : IsDropped state (Some started) (dropped ++ prefix)

-- what happens to the block: it is still incomplete, or is refused for its second length, or it is
-- a unit without a packet, and `left` bytes follow it
abbrev pub ComesAfter : State → LongBlock → (dropped bytes : List ℕ) → Following → Type 0
ComesAfter state block dropped bytes (Held started left) =
    DropsMore state dropped bytes started left × IsIncomplete state (dropped ++ bytes)
ComesAfter state block dropped bytes (Refused started left) =
    DropsMore state dropped bytes started left × Refuses state (dropped ++ bytes) BadBlock
ComesAfter state block dropped bytes (Passed left) = (origin : Origin)
    × HasUnit state (dropped ++ bytes) state origin [] (last_of left bytes)
    × (length dropped + length bytes ≡ block.len + left)

-- this many of some bytes are left, and fewer than a second length has, where they are held
abbrev pub IsWithin : ℕ → Following → Type 0
IsWithin len (Held started left) = (left ≤ len) × (left < 4)
IsWithin len (Refused started left) = left ≤ len
IsWithin len (Passed left) = left ≤ len

-- all whole units of the bytes are taken, their lines are this text, and of what is left some bytes
-- are dropped and the rest is held
pub record Leaves (ledger : Ledger) (state : State) (bytes : List ℕ) (after : State)
    (started : Option LongBlock) (rest text : List ℕ) (refusal : Option CaptureError) (noted : Ledger)
    : Type 0 where
  pub dropped : List ℕ
  pub is_dropped : IsDropped after started dropped
  pub takes : Takes ledger state bytes after (dropped ++ rest) text refusal noted
