use Rattle.std.proofs.Common.{arith, rules}
use Rattle.header_descriptions.proofs.ByteLemmas.{column_more, columns_end}
use Rattle.header_descriptions.proofs.show.byte_lines.append_columns.Goals as goal

pub loop-column-preserved : goal.loop-column-preserved
loop-column-preserved c = column_more 8 _ _ _ _ _ _ (omega arith) c.loop-column.invariant c.in_ok-append_column.ensures (search rules)

pub returns : goal.returns
returns c = columns_end 8 _ _ _ _ (omega arith) c.loop-column.invariant
