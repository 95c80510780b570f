use Rattle.std.proofs.Common.{refl}
use Rattle.hex.specs.Hex.{decode_pairs}
use Rattle.line_grammar.specs.Commands.{command_of}
use Rattle.line_grammar.specs.TimedLines.{timed_frame_of}
use Rattle.captures.proofs.laws.examples.frame_lines.faults_of_lines.Goals as goal

pub returns-clause-seconds : goal.returns-clause-seconds
unfolding timed_frame_of command_of decode_pairs
returns-clause-seconds c = refl

pub returns-clause-word : goal.returns-clause-word
unfolding timed_frame_of command_of decode_pairs
returns-clause-word c = refl

pub returns-clause-space : goal.returns-clause-space
unfolding timed_frame_of command_of decode_pairs
returns-clause-space c = refl

pub returns-clause-eleven_digits : goal.returns-clause-eleven_digits
unfolding timed_frame_of command_of decode_pairs
returns-clause-eleven_digits c = refl

pub returns-clause-million : goal.returns-clause-million
unfolding timed_frame_of command_of decode_pairs
returns-clause-million c = refl

pub returns-clause-thousand : goal.returns-clause-thousand
unfolding timed_frame_of command_of decode_pairs
returns-clause-thousand c = refl

pub returns-clause-beyond : goal.returns-clause-beyond
unfolding timed_frame_of command_of decode_pairs
returns-clause-beyond c = refl

pub returns-clause-more : goal.returns-clause-more
unfolding timed_frame_of command_of decode_pairs
returns-clause-more c = refl

pub returns-clause-half_a_byte : goal.returns-clause-half_a_byte
unfolding timed_frame_of command_of decode_pairs
returns-clause-half_a_byte c = refl

pub returns-clause-no_byte : goal.returns-clause-no_byte
unfolding timed_frame_of command_of decode_pairs
returns-clause-no_byte c = refl

pub returns-clause-channel : goal.returns-clause-channel
unfolding timed_frame_of command_of decode_pairs
returns-clause-channel c = refl

pub returns-clause-other : goal.returns-clause-other
unfolding timed_frame_of command_of decode_pairs
returns-clause-other c = refl

pub returns-clause-empty : goal.returns-clause-empty
unfolding timed_frame_of command_of decode_pairs
returns-clause-empty c = refl
