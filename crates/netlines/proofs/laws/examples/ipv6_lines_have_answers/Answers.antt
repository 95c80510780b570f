use Rattle.std.proofs.Common.{refl}
use Rattle.std.specs.Fmt.{digits}
use Rattle.hex.specs.Hex.{encode_with, decode_pairs}
use Rattle.etherparse.specs.base.Sum.{total}
use Rattle.etherparse.specs.ipslice.Ipv6Walk.{pieces_within}
use Rattle.etherparse.specs.packet.Tags.{tags_in}
use Rattle.netlines.specs.Answers.{answer_after}
use Rattle.netlines.specs.Arrivals.{lists_after_lines}
use Rattle.line_grammar.specs.Commands.{command_of}
use Rattle.netlines.proofs.laws.examples.ipv6_lines_have_answers.Goals as goal

pub returns-clause-after_options : goal.returns-clause-after_options
unfolding answer_after command_of decode_pairs tags_in encode_with total digits pieces_within
returns-clause-after_options c earlier = refl

pub returns-clause-fragment : goal.returns-clause-fragment
unfolding answer_after lists_after_lines command_of decode_pairs tags_in pieces_within
returns-clause-fragment c = refl

pub returns-clause-cut_off : goal.returns-clause-cut_off
unfolding answer_after command_of decode_pairs tags_in pieces_within
returns-clause-cut_off c earlier = refl
