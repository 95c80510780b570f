use Rattle.std.specs.Prelude.{[]}
use Rattle.ep_ext.proofs.Rows.{row_more, slots_more, bytes_more}
use Rattle.ep_ext.proofs.laws.chains.row_grows_by_a_header.Goals as goal

pub returns-clause-row : goal.returns-clause-row
returns-clause-row c = λ order first pieces last slot header row free piece. row_more order
    [] first pieces last slot header row free piece

pub returns-clause-slots : goal.returns-clause-slots
returns-clause-slots c = slots_more

pub returns-clause-bytes : goal.returns-clause-bytes
returns-clause-bytes c = bytes_more
