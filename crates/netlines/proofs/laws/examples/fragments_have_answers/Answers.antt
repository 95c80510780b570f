use Rattle.std.proofs.Common.{refl}
use Rattle.std.specs.Fmt.{digits}
use Rattle.hex.specs.Hex.{encode_with, decode_pairs}
use Rattle.etherparse.specs.base.Sum.{total}
use Rattle.etherparse.specs.packet.Tags.{tags_in}
use Rattle.netlines.specs.Answers.{answer_after}
use Rattle.netlines.specs.Arrivals.{lists_after_lines}
use Rattle.line_grammar.specs.Commands.{command_of}
use Rattle.netlines.proofs.laws.examples.fragments_have_answers.Goals as goal

pub returns-clause-alone : goal.returns-clause-alone
unfolding answer_after lists_after_lines command_of decode_pairs tags_in
returns-clause-alone c = refl

pub returns-clause-whole : goal.returns-clause-whole
unfolding answer_after lists_after_lines command_of decode_pairs tags_in encode_with total digits
returns-clause-whole c = refl

pub returns-clause-kept : goal.returns-clause-kept
unfolding answer_after lists_after_lines command_of decode_pairs tags_in encode_with total digits
returns-clause-kept c = refl

pub returns-clause-dropped : goal.returns-clause-dropped
unfolding answer_after lists_after_lines command_of decode_pairs tags_in
returns-clause-dropped c = refl

pub returns-clause-channels : goal.returns-clause-channels
unfolding answer_after lists_after_lines command_of decode_pairs tags_in
returns-clause-channels c = refl

pub returns-clause-unaligned : goal.returns-clause-unaligned
unfolding answer_after lists_after_lines command_of decode_pairs tags_in
returns-clause-unaligned c = refl

pub returns-clause-ok : goal.returns-clause-ok
unfolding answer_after command_of
returns-clause-ok c earlier = refl

pub returns-clause-too_great : goal.returns-clause-too_great
unfolding answer_after command_of
returns-clause-too_great c earlier = refl
