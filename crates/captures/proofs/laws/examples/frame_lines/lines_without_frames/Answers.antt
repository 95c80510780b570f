use Rattle.std.proofs.Common.{refl}
use Rattle.hex.specs.Hex.{decode_pairs}
use Rattle.line_grammar.specs.Commands.{command_of}
use Rattle.line_grammar.specs.TimedLines.{timed_frame_of}
use Rattle.captures.specs.CapturedFrames.{captured_frame_of}
use Rattle.captures.proofs.laws.examples.frame_lines.lines_without_frames.Goals as goal

pub returns-clause-seconds : goal.returns-clause-seconds
unfolding captured_frame_of timed_frame_of command_of decode_pairs
returns-clause-seconds c = refl

pub returns-clause-word : goal.returns-clause-word
unfolding captured_frame_of timed_frame_of command_of decode_pairs
returns-clause-word c = refl

pub returns-clause-more : goal.returns-clause-more
unfolding captured_frame_of timed_frame_of command_of decode_pairs
returns-clause-more c = refl

pub returns-clause-half_a_byte : goal.returns-clause-half_a_byte
unfolding captured_frame_of timed_frame_of command_of decode_pairs
returns-clause-half_a_byte c = refl

pub returns-clause-other : goal.returns-clause-other
unfolding captured_frame_of timed_frame_of command_of decode_pairs
returns-clause-other c = refl

pub returns-clause-empty : goal.returns-clause-empty
unfolding captured_frame_of timed_frame_of command_of decode_pairs
returns-clause-empty c = refl
