use Rattle.std.proofs.Common.{◌≡◌, ◌++◌, drop}
use Rattle.packets.specs.Escaped.{escaped}
use Rattle.packets.proofs.report.escape.append_escaped.Given as goal

abbrev pub invariant-loop-byte : goal.invariant-loop-byte
invariant-loop-byte l = l.out.items ++ escaped (drop l.byte-index l.text)
    ≡ l.fn.out.items ++ escaped l.text
