use Rattle.std.proofs.Common.{refl}
use Rattle.std.specs.Fmt.{digits}
use Rattle.hex.specs.Hex.{encode_with, decode_pairs}
use Rattle.etherparse.specs.base.Sum.{total}
use Rattle.etherparse.specs.packet.Tags.{tags_in}
use Rattle.netlines.specs.Answers.{answer_after}
use Rattle.line_grammar.specs.Commands.{command_of}
use Rattle.netlines.proofs.laws.examples.lines_have_answers.Goals as goal

pub returns-clause-good : goal.returns-clause-good
unfolding answer_after command_of decode_pairs tags_in encode_with total digits
returns-clause-good c earlier = refl

pub returns-clause-bad : goal.returns-clause-bad
unfolding answer_after command_of decode_pairs tags_in encode_with total digits
returns-clause-bad c earlier = refl

pub returns-clause-none : goal.returns-clause-none
unfolding answer_after command_of decode_pairs tags_in encode_with total digits
returns-clause-none c earlier = refl

pub returns-clause-other : goal.returns-clause-other
unfolding answer_after command_of decode_pairs tags_in
returns-clause-other c earlier = refl

pub returns-clause-refused : goal.returns-clause-refused
unfolding answer_after command_of decode_pairs tags_in
returns-clause-refused c earlier = refl

pub returns-clause-bad_line : goal.returns-clause-bad_line
unfolding answer_after command_of
returns-clause-bad_line c earlier = refl
