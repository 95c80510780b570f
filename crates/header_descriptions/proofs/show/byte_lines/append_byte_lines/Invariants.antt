use Rattle.std.proofs.Common.{◌≡◌, ◌++◌, ◌-◌, ◌*◌, length}
use Rattle.std.specs.Int.{div_ceil}
use Rattle.header_descriptions.specs.ByteLines.{byte_lines, lines_from}
use Rattle.header_descriptions.proofs.show.byte_lines.append_byte_lines.Given as goal

abbrev pub invariant-loop-line : goal.invariant-loop-line
invariant-loop-line l = l.out.items
    ++ lines_from (div_ceil (length l.bytes) 16 - l.line) (16 * l.line) l.left
    ≡ l.fn.out.items ++ byte_lines l.bytes
