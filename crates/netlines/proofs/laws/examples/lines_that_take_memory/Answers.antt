use Rattle.std.proofs.Common.{refl}
use Rattle.hex.specs.Hex.{decode_pairs}
use Rattle.etherparse.specs.packet.Tags.{tags_in}
use Rattle.netlines.specs.Answers.{takes_memory}
use Rattle.netlines.specs.Arrivals.{lists_after_lines}
use Rattle.line_grammar.specs.Commands.{command_of}
use Rattle.netlines.proofs.laws.examples.lines_that_take_memory.Goals as goal

pub returns-clause-fragment : goal.returns-clause-fragment
unfolding takes_memory lists_after_lines command_of decode_pairs tags_in
returns-clause-fragment c = refl

pub returns-clause-second : goal.returns-clause-second
unfolding takes_memory lists_after_lines command_of decode_pairs tags_in
returns-clause-second c = refl

pub returns-clause-ended : goal.returns-clause-ended
unfolding takes_memory lists_after_lines command_of decode_pairs tags_in
returns-clause-ended c = refl

pub returns-clause-alone : goal.returns-clause-alone
unfolding takes_memory lists_after_lines command_of decode_pairs tags_in
returns-clause-alone c = refl

pub returns-clause-unaligned : goal.returns-clause-unaligned
unfolding takes_memory lists_after_lines command_of decode_pairs tags_in
returns-clause-unaligned c = refl

pub returns-clause-forget : goal.returns-clause-forget
unfolding takes_memory command_of
returns-clause-forget c = λ earlier. refl

pub returns-clause-whole : goal.returns-clause-whole
unfolding takes_memory command_of decode_pairs tags_in
returns-clause-whole c = λ earlier. refl

pub returns-clause-other : goal.returns-clause-other
unfolding takes_memory command_of decode_pairs tags_in
returns-clause-other c = λ earlier. refl

pub returns-clause-refused : goal.returns-clause-refused
unfolding takes_memory command_of decode_pairs tags_in
returns-clause-refused c = λ earlier. refl

pub returns-clause-bad_line : goal.returns-clause-bad_line
unfolding takes_memory command_of
returns-clause-bad_line c = λ earlier. refl
