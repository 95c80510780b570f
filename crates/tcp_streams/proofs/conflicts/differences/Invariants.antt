use Rattle.std.proofs.Common.{◌≡◌, take}
use Rattle.tcp_streams.specs.PlacedSegments.{byte_from, clashes}
use Rattle.tcp_streams.specs.SparseBytes.{counted}
use Rattle.tcp_streams.proofs.conflicts.differences.Given as goal

abbrev pub invariant-loop-index : goal.invariant-loop-index
invariant-loop-index l =
    l.conflicts ≡ counted (clashes (byte_from l.position l.held) l.position (take l.index l.bytes))
