-- What the code returns for a line.
use Rattle.std.specs.Prelude.{ℕ, length}
use Rattle.line_grammar.specs.Commands.{Command}
use Rattle.line_grammar.specs.Commands.Command.{Frame, Forget, Bad}
use Rattle.line_grammar.specs.declared.request.Request.{Request}
use Rattle.line_grammar.specs.declared.request.Request.TheVariants as requested

abbrev pub as_command : Request → Command
as_command (requested.Frame frame) = Frame frame.channel frame.bytes.now
as_command (requested.Forget number) = Forget number
as_command requested.Bad = Bad

abbrev pub frame_len : Request → ℕ
frame_len (requested.Frame frame) = length frame.bytes.now
frame_len (requested.Forget number) = 0
frame_len requested.Bad = 0
