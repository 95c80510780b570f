-- What a line does to a message, and the accepted fragments of each message after lines: a line
-- with a fragment of the message adds it as its outcome says, a `forget` line drops what came
-- before a line, and no other line matters.
use Rattle.std.specs.Prelude.{◌≡◌, ℕ, ◌+◌, List, [], ◌∷◌, ◌++◌}
use Rattle.etherparse.specs.Fragments.{Fragment}
use Rattle.etherparse.specs.Outcome.{Held}
use Rattle.etherparse.specs.PoolCalls.{Lists, after_frame, no_lists, retained_from}
use Rattle.etherparse.specs.packet.Class.{FragmentName, class_of}
use Rattle.etherparse.specs.packet.Class.Class.{Cut}
use Rattle.line_grammar.specs.Commands.{Command, command_of}
use Rattle.line_grammar.specs.Commands.Command.{Frame, Forget, Bad}
use Rattle.lines.specs.LineAnswers.{number_after}

-- the line has a frame on this channel, which is this fragment of the message with this name
pub record HasFragment (line : List ℕ) (name : FragmentName) (channel : ℕ)
    (f : Fragment) : Type 0 where
  pub bytes : List ℕ
  pub frame : command_of line ≡ Frame channel bytes
  pub as_fragment : class_of bytes ≡ Cut name f.offset f.more f.bytes

-- what is held of a message after a line of this number with this command
abbrev pub held_with_line : FragmentName → (channel number : ℕ) → Command → Held → Held
held_with_line name channel number (Frame other bytes) h =
    after_frame name channel (class_of bytes) number other h
held_with_line name channel number (Forget line) h = retained_from line h
held_with_line name channel number Bad h = h

-- after these lines, which come after so many others
abbrev pub held_after_more : FragmentName → (channel count : ℕ) → Held → List (List ℕ) → Held
held_after_more name channel count h [] = h
held_after_more name channel count h (line ∷ lines) =
    held_after_more name channel (count + 1)
    (held_with_line name channel (count + 1) (command_of line) h) lines

-- the accepted fragments of each message after a line of this number with this command
abbrev pub lists_with_line : Lists → ℕ → Command → Lists
lists_with_line lists number command name channel =
    held_with_line name channel number command (lists name channel)

-- the same after these lines, the first of which is line 1
unfoldable pub lists_after_lines : List (List ℕ) → Lists
lists_after_lines lines name channel = held_after_more name channel 0 (no_lists name channel) lines

-- the line of the fragment of a message that was accepted last: the list of the message is that
-- before this line with its fragment at the end, and the time of the list is the number of the line
pub record LastAccepted (lines : List (List ℕ)) (name : FragmentName) (channel : ℕ) : Type 0 where
  pub before : List (List ℕ)
  pub line : List ℕ
  pub later : List (List ℕ)
  pub parts : lines ≡ before ++ line ∷ later
  pub fragment : Fragment
  pub has_fragment : HasFragment line name channel fragment
  pub last : (lists_after_lines lines name channel).fragments
      ≡ (lists_after_lines before name channel).fragments ++ fragment ∷ []
  pub time : (lists_after_lines lines name channel).time ≡ number_after before
