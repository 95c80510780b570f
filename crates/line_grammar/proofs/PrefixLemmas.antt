-- Prefixes of lines.
use Rattle.std.proofs.Common.{◌≡◌, ◌∙◌, sym, ap, ℕ, ◌+◌, ◌<◌, ◌≤◌, List, ◌++◌, length, arith, [], length-append}
use Rattle.std.proofs.Common.{append_assoc, append-nil}
use Rattle.hex.specs.Hex.{decode_of}
use Rattle.line_grammar.specs.Commands.{Command, command_of, frame_on}
use Rattle.line_grammar.specs.Commands.Command.{Frame, Forget, Bad}
use Rattle.line_grammar.specs.Prefixes.{IsFramePrefix, IsWrong}
use Rattle.lines.specs.declared.limits.TheConstants.{LINE_LIMIT}
use Rattle.line_grammar.proofs.CommandLaws.{frame_text}
use Rattle.line_grammar.proofs.CommandLemmas.{command_of-long}

-- ---- a prefix with the head of a line that gives a frame

pub more_prefix : (prefix : List ℕ) (channel : ℕ) (digits more : List ℕ)
    → IsFramePrefix prefix channel digits → IsFramePrefix (prefix ++ more) channel (digits ++ more)
more_prefix prefix channel digits more f = record {
  number = f.number;
  parts = grind (arith, append_assoc);
  fits = f.fits;
  value = f.value;
}

pub prefix_command : (prefix : List ℕ) (channel : ℕ) (digits : List ℕ)
    → IsFramePrefix prefix channel digits → length prefix ≤ LINE_LIMIT
    → command_of prefix ≡ frame_on channel (decode_of digits)
prefix_command prefix channel digits f short = grind (arith, frame_text)

-- ---- what requests neither

pub neither : (c : Command) → ((channel : ℕ) (bytes : List ℕ) → c ≡ Frame channel bytes → ⊥)
    → ((number : ℕ) → c ≡ Forget number → ⊥) → c ≡ Bad
neither c no_frame no_forget = grind arith

-- ---- a line that is too long, and one that goes on

pub long_line : (prefix more : List ℕ) → LINE_LIMIT < length prefix + length more
    → IsWrong (prefix ++ more)
long_line prefix more long rest = grind (arith, command_of-long, length-append)

pub wrong_more : (prefix more : List ℕ) → IsWrong prefix → IsWrong (prefix ++ more)
wrong_more prefix more wrong rest = ap command_of (append_assoc prefix more rest)
    ∙ wrong (more ++ rest)

pub wrong_line : (prefix : List ℕ) → IsWrong prefix → command_of prefix ≡ Bad
wrong_line prefix wrong = ap command_of (sym (append-nil prefix)) ∙ wrong []
