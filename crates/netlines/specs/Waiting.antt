-- The lines of one message among others, and those whose fragments wait for the rest of it.
use Rattle.std.specs.Prelude.{◌≡◌, ◌⊎◌, ℕ, ◌+◌, ◌&&◌, ◌==◌, nat_lt, if◌then◌else◌, Option, Some, None, List, [], ◌∷◌}
use Rattle.std.specs.Prelude.{◌++◌, codes, map}
use Rattle.etherparse.specs.Fragments.{Fragment}
use Rattle.etherparse.specs.IpFragId.{fragment_in, rule_over, same_name}
use Rattle.etherparse.specs.Joined.{IsJoined}
use Rattle.etherparse.specs.Outcome.{Held, Outcome, outcome}
use Rattle.etherparse.specs.Outcome.Outcome.{Clash, Completed, Refusal, Waiting}
use Rattle.etherparse.specs.PoolCalls.{no_lists, outcome_at}
use Rattle.etherparse.specs.packet.Class.{FragmentName, class_of}
use Rattle.line_grammar.specs.Commands.{Command, command_of}
use Rattle.line_grammar.specs.Commands.Command.{Frame, Forget, Bad}
use Rattle.netlines.specs.Alone.{texts_that_matter}
use Rattle.netlines.specs.Answers.{message_answer, outcome_answer}
use Rattle.netlines.specs.ChangedWord.{DifferAt}
use Rattle.netlines.specs.Arrivals.{HasFragment, held_with_line, lists_after_lines}
use Rattle.checksum_verdicts.specs.declared.verdict.Verdict.{Verdict}

-- of texts, one for each of these lines, those for the lines that matter to a message, without the
-- numbers of these lines
abbrev pub texts_for : FragmentName → (channel : ℕ) → (lines texts : List (List ℕ))
    → List (List ℕ)
texts_for name channel lines texts =
    map (λ text. text.1) (texts_that_matter name channel lines texts)

-- those lines themselves
abbrev pub lines_for : FragmentName → (channel : ℕ) → (lines : List (List ℕ)) → List (List ℕ)
lines_for name channel lines = texts_for name channel lines lines

-- what is answered where the fragments of this message, which came under this name, are complete
abbrev pub line_of_message : FragmentName → (message : List ℕ) → List ℕ
line_of_message name message =
    outcome_answer name.addresses name.number (Completed message)

-- the answer that returns a message, or the one to a message that can't be read
abbrev pub ReturnsMessage : (answer : List ℕ) → Type 0
ReturnsMessage answer =
    ((number : ℕ) × (verdict : Verdict) × (text : List ℕ)
    × (answer ≡ message_answer number verdict text))
    ⊎ (answer ≡ codes "refused message")

-- the line has a fragment that completes the message of this name, which is this text
pub record Completes (earlier : List (List ℕ)) (line : List ℕ) (name : FragmentName) (channel : ℕ)
    (text : List ℕ) : Type 0 where
  pub fragment : Fragment
  pub has_fragment : HasFragment line name channel fragment
  pub becomes : outcome_at (lists_after_lines earlier) name channel fragment ≡ Completed text

-- the lines whose fragments wait for the rest of a message, after a line with a fragment of it: a
-- refused one leaves them, a complete message leaves none, and neither does an overlap
abbrev pub waiting_with : (waiting : List (List ℕ)) → (line : List ℕ) → Outcome
    → List (List ℕ)
waiting_with waiting line (Refusal error) = waiting
waiting_with waiting line (Clash error) = []
waiting_with waiting line (Waiting fs) = waiting ++ line ∷ []
waiting_with waiting line (Completed text) = []

abbrev pub waiting_with_fragment : FragmentName → (channel : ℕ) → Option (FragmentName × Fragment)
    → (other : ℕ) → Held → (line : List ℕ) → (waiting : List (List ℕ)) → List (List ℕ)
waiting_with_fragment name channel None other h line waiting = waiting
waiting_with_fragment name channel (Some reported) other h line waiting =
    if same_name reported.0 name && (other == channel)
    then waiting_with waiting line (outcome (rule_over name.addresses) h.fragments reported.1)
    else waiting

-- after a line with this command, where this is held of the message before it
abbrev pub waiting_with_line : FragmentName → (channel : ℕ) → Held → (line : List ℕ)
    → (waiting : List (List ℕ)) → Command → List (List ℕ)
waiting_with_line name channel h line waiting (Frame other bytes) =
    waiting_with_fragment name channel (fragment_in (class_of bytes)) other h line waiting
waiting_with_line name channel h line waiting (Forget number) =
    if nat_lt h.time number then [] else waiting
waiting_with_line name channel h line waiting Bad = waiting

-- after these lines, which come after so many others
abbrev pub waiting_after : FragmentName → (channel count : ℕ) → Held
    → (waiting lines : List (List ℕ)) → List (List ℕ)
waiting_after name channel count h waiting [] = waiting
waiting_after name channel count h waiting (line ∷ lines) =
    waiting_after name channel (count + 1)
    (held_with_line name channel (count + 1) (command_of line) h)
    (waiting_with_line name channel h line waiting (command_of line)) lines

-- after these lines, the first of which is line 1: in their order the lines whose fragments of the
-- message were accepted and are neither returned nor dropped
abbrev pub waiting_lines : FragmentName → (channel : ℕ) → (lines : List (List ℕ))
    → List (List ℕ)
waiting_lines name channel lines =
    waiting_after name channel 0 (no_lists name channel) [] lines

-- an answer returned a message, and these answers to lines that wait and one more return one that
-- is the same, or differs from it in one word at this offset
pub record ReturnsChanged (name : FragmentName) (position : ℕ) (answer : List ℕ)
    (waiting answers : List (List ℕ)) : Type 0 where
  pub old : List ℕ
  pub new : List ℕ
  pub was : answer ≡ line_of_message name old
  pub is : answers ≡ map (λ _. codes "wait") waiting ++ line_of_message name new ∷ []
  pub differ : DifferAt position old new

-- a message is returned that is joined from some of these fragments, no two of which hold the same
-- byte
pub record ReturnsJoined (name : FragmentName) (fs : List Fragment) (answer : List ℕ)
    : Type 0 where
  pub text : List ℕ
  pub reported : answer ≡ line_of_message name text
  pub joined : IsJoined fs text
