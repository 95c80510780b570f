use Rattle.std.proofs.Common.{refl}
use Rattle.hex.specs.Hex.{decode_pairs}
use Rattle.line_grammar.specs.Commands.{command_of}
use Rattle.line_grammar.specs.TimedLines.{timed_frame_of}
use Rattle.captures.specs.CapturedFrames.{captured_frame_of}
use Rattle.captures.proofs.laws.examples.frame_lines.lengths_of_lines.Goals as goal

pub returns-clause-same : goal.returns-clause-same
unfolding captured_frame_of timed_frame_of command_of decode_pairs
returns-clause-same c = refl

pub returns-clause-greater : goal.returns-clause-greater
unfolding captured_frame_of timed_frame_of command_of decode_pairs
returns-clause-greater c = refl

pub returns-clause-less : goal.returns-clause-less
unfolding captured_frame_of timed_frame_of command_of decode_pairs
returns-clause-less c = refl

pub returns-clause-none : goal.returns-clause-none
unfolding captured_frame_of timed_frame_of command_of decode_pairs
returns-clause-none c = refl

pub returns-clause-greatest : goal.returns-clause-greatest
unfolding captured_frame_of timed_frame_of command_of decode_pairs
returns-clause-greatest c = refl

pub returns-clause-beyond : goal.returns-clause-beyond
unfolding captured_frame_of timed_frame_of command_of decode_pairs
returns-clause-beyond c = refl

pub returns-clause-ten_digits : goal.returns-clause-ten_digits
unfolding captured_frame_of timed_frame_of command_of decode_pairs
returns-clause-ten_digits c = refl

pub returns-clause-eleven_digits : goal.returns-clause-eleven_digits
unfolding captured_frame_of timed_frame_of command_of decode_pairs
returns-clause-eleven_digits c = refl
