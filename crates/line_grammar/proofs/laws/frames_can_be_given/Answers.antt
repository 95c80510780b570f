use Rattle.std.proofs.Common.{refl}
use Rattle.hex.specs.Hex.{decode_pairs, encode_lower, encode_upper}
use Rattle.hex.proofs.HexLemmas.{decode_of-encode_lower, decode_of-encode_upper}
use Rattle.line_grammar.specs.Commands.{command_of}
use Rattle.line_grammar.proofs.CommandLaws.{frame_has_line}
use Rattle.line_grammar.proofs.laws.frames_can_be_given.Goals as goal

pub returns-clause-lower : goal.returns-clause-lower
returns-clause-lower c channel frame fits bytes some short =
    frame_has_line channel (encode_lower frame) frame fits (decode_of-encode_lower frame bytes) some
    short

pub returns-clause-upper : goal.returns-clause-upper
returns-clause-upper c channel frame fits bytes some short =
    frame_has_line channel (encode_upper frame) frame fits (decode_of-encode_upper frame bytes) some
    short

pub returns-clause-worked : goal.returns-clause-worked
unfolding command_of decode_pairs
returns-clause-worked c = (refl, refl)
