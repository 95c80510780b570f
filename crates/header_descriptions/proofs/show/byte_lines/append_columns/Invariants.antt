use Rattle.std.proofs.Common.{◌≡◌, ◌++◌, ◌-◌}
use Rattle.header_descriptions.specs.ByteLines.{pair_columns}
use Rattle.header_descriptions.proofs.show.byte_lines.append_columns.Given as goal

abbrev pub invariant-loop-column : goal.invariant-loop-column
invariant-loop-column l = l.out.items ++ pair_columns (8 - l.column) l.left
    ≡ l.fn.out.items ++ pair_columns 8 l.bytes
