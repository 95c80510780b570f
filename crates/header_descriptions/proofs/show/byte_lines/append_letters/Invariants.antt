use Rattle.std.proofs.Common.{◌≡◌, ◌++◌, drop, map}
use Rattle.header_descriptions.specs.ByteLines.{letter_of}
use Rattle.header_descriptions.proofs.show.byte_lines.append_letters.Given as goal

abbrev pub invariant-loop-byte : goal.invariant-loop-byte
invariant-loop-byte l = l.out.items ++ map letter_of (drop l.byte-index l.bytes)
    ≡ l.fn.out.items ++ map letter_of l.bytes
