use Rattle.std.proofs.Common.{refl}
use Rattle.std.specs.Fmt.{digits}
use Rattle.hex.specs.Hex.{encode_with, decode_pairs}
use Rattle.etherparse.specs.base.Sum.{total}
use Rattle.etherparse.specs.ipslice.Ipv6Walk.{pieces_within}
use Rattle.etherparse.specs.packet.Tags.{tags_in}
use Rattle.netlines.specs.Answers.{answer_after}
use Rattle.line_grammar.specs.Commands.{command_of}
use Rattle.netlines.proofs.laws.examples.segments_have_answers.Goals as goal

pub returns-clause-v4 : goal.returns-clause-v4
unfolding answer_after command_of decode_pairs tags_in encode_with total digits
returns-clause-v4 c earlier = refl

pub returns-clause-v6 : goal.returns-clause-v6
unfolding answer_after command_of decode_pairs tags_in encode_with total digits pieces_within
returns-clause-v6 c earlier = refl

pub returns-clause-zero : goal.returns-clause-zero
unfolding answer_after command_of decode_pairs tags_in encode_with total digits
returns-clause-zero c earlier = refl

pub returns-clause-refused : goal.returns-clause-refused
unfolding answer_after command_of decode_pairs tags_in
returns-clause-refused c earlier = refl
