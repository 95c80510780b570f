use Rattle.std.proofs.Common.{◌≡◌, ◌-◌, ◌++◌, List, ℕ, None}
use Rattle.std.specs.Io.KnownBytes.{Consumes}
use Rattle.captures.specs.Readers.{HasRead}
use Rattle.device_runs.specs.declared.limits.TheConstants.{READ_COUNT_LIMIT}
use Rattle.captures.specs.declared.packet.Packet.{Packet}
use Rattle.captures.specs.declared.unfit.Unfit.{Unfit}
use Rattle.captures.proofs.reading.packet_reader.PacketReader.advance.Given as goal

-- The reader has read more bytes, no packet among them, and has not ended.
abbrev pub invariant-reads : goal.invariant-reads
invariant-reads g l = record {
  goes : (unfit : Unfit) (read : List ℕ) (given : List Packet) → HasRead unfit l.fn.self read given
      → (more : List ℕ)
      × Consumes (g.R.Read.remaining l.fn.self.reader) (g.R.Read.remaining l.self.reader) more
      × HasRead unfit l.self (read ++ more) given;
  began : l.fn.self.ended ≡ None;
  going : l.self.ended ≡ None;
  found : l.self.found ≡ None;
}

abbrev pub decreases-reads : goal.decreases-reads
decreases-reads g l = READ_COUNT_LIMIT - l.self.reads
