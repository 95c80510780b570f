use Rattle.std.proofs.Common.{refl}
use Rattle.hex.specs.Hex.{decode_pairs}
use Rattle.line_grammar.specs.Commands.{command_of}
use Rattle.line_grammar.specs.TimedLines.{timed_frame_of}
use Rattle.captures.specs.CapturedFrames.{captured_frame_of}
use Rattle.captures.proofs.laws.examples.frame_lines.frames_of_lines.Goals as goal

pub returns-clause-alone : goal.returns-clause-alone
unfolding captured_frame_of timed_frame_of command_of decode_pairs
returns-clause-alone c = refl

pub returns-clause-microseconds : goal.returns-clause-microseconds
unfolding captured_frame_of timed_frame_of command_of decode_pairs
returns-clause-microseconds c = refl

pub returns-clause-nanoseconds : goal.returns-clause-nanoseconds
unfolding captured_frame_of timed_frame_of command_of decode_pairs
returns-clause-nanoseconds c = refl

pub returns-clause-length : goal.returns-clause-length
unfolding captured_frame_of timed_frame_of command_of decode_pairs
returns-clause-length c = refl
