-- The lines that matter to one message, and the answers to them.
use Rattle.std.specs.Prelude.{◌≡◌, ◌⊎◌, ℕ, ◌+◌, ◌&&◌, ◌==◌, not, Bool, true, false, if◌then◌else◌, List, [], ◌∷◌, ◌++◌}
use Rattle.std.specs.Prelude.{codes, length}
use Rattle.etherparse.specs.IpFragId.{same_name}
use Rattle.etherparse.specs.packet.Class.{Class, FragmentName, class_of}
use Rattle.etherparse.specs.packet.Class.Class.{Whole, Cut, Other, Refused}
use Rattle.line_grammar.specs.Commands.{Command, command_of}
use Rattle.line_grammar.specs.Commands.Command.{Frame, Forget, Bad}
use Rattle.netlines.specs.Answers.{answer_after}

-- the answers to lines after earlier ones, one for each
abbrev pub answers_after : (earlier lines : List (List ℕ)) → List (List ℕ)
answers_after earlier [] = []
answers_after earlier (line ∷ lines) =
    answer_after earlier line ∷ answers_after (earlier ++ line ∷ []) lines

-- the answers to all lines of an input
abbrev pub answers_to : (lines : List (List ℕ)) → List (List ℕ)
answers_to lines = answers_after [] lines

-- whether a frame of this class on the other channel is a fragment of the message with this name
-- and channel; below, whether it is a fragment of another message
abbrev pub is_fragment : FragmentName → (channel : ℕ) → Class → (other : ℕ) → Bool
is_fragment name channel (Whole addresses number bytes message) other = false
is_fragment name channel (Cut own offset more bytes) other = same_name own name && (other == channel)
is_fragment name channel Other other = false
is_fragment name channel Refused other = false

abbrev pub is_fragment_of_another : FragmentName → (channel : ℕ) → Class → (other : ℕ) → Bool
is_fragment_of_another name channel (Whole addresses number bytes message) other = false
is_fragment_of_another name channel (Cut own offset more bytes) other =
    not (same_name own name && (other == channel))
is_fragment_of_another name channel Other other = false
is_fragment_of_another name channel Refused other = false

-- a line matters to a message where it has a fragment of it or is a `forget` line
abbrev pub command_matters : FragmentName → (channel : ℕ) → Command → Bool
command_matters name channel (Frame other bytes) = is_fragment name channel (class_of bytes) other
command_matters name channel (Forget number) = true
command_matters name channel Bad = false

abbrev pub matters : FragmentName → (channel : ℕ) → (line : List ℕ) → Bool
matters name channel line = command_matters name channel (command_of line)

-- of texts, one for each of these lines, those for the lines that matter to a message, each with
-- the number of its line, where so many lines come before
abbrev pub matter_after : FragmentName → (channel count : ℕ) → (lines texts : List (List ℕ))
    → List (ℕ × List ℕ)
matter_after name channel count [] texts = []
matter_after name channel count (line ∷ lines) [] = []
matter_after name channel count (line ∷ lines) (text ∷ texts) =
    if matters name channel line
    then (count + 1, text) ∷ matter_after name channel (count + 1) lines texts
    else matter_after name channel (count + 1) lines texts

-- those lines themselves, and the texts for them
abbrev pub lines_that_matter : FragmentName → (channel : ℕ) → (lines : List (List ℕ))
    → List (ℕ × List ℕ)
lines_that_matter name channel lines = matter_after name channel 0 lines lines

abbrev pub texts_that_matter : FragmentName → (channel : ℕ) → (lines texts : List (List ℕ))
    → List (ℕ × List ℕ)
texts_that_matter name channel lines texts = matter_after name channel 0 lines texts

-- whether a line has a fragment of another message
abbrev pub command_of_another : FragmentName → (channel : ℕ) → Command → Bool
command_of_another name channel (Frame other bytes) =
    is_fragment_of_another name channel (class_of bytes) other
command_of_another name channel (Forget number) = false
command_of_another name channel Bad = false

-- the lines, with this bad one instead of each of those
abbrev pub alone : (bad : List ℕ) → FragmentName → (channel : ℕ) → (lines : List (List ℕ))
    → List (List ℕ)
alone bad name channel [] = []
alone bad name channel (line ∷ lines) =
    (if command_of_another name channel (command_of line) then bad else line)
    ∷ alone bad name channel lines

-- no line is a `forget` line
abbrev pub HasNoForget : (lines : List (List ℕ)) → Type 0
HasNoForget [] = Unit {0}
HasNoForget (line ∷ lines) = ((number : ℕ) → command_of line ≡ Forget number → ⊥)
    × HasNoForget lines

-- of texts, one for each of these lines, those for the lines with a frame on a channel
abbrev pub command_on : (channel : ℕ) → Command → Bool
command_on channel (Frame other bytes) = other == channel
command_on channel (Forget number) = false
command_on channel Bad = false

abbrev pub on_channel : (channel : ℕ) → (lines texts : List (List ℕ)) → List (List ℕ)
on_channel channel [] texts = []
on_channel channel (line ∷ lines) [] = []
on_channel channel (line ∷ lines) (text ∷ texts) =
    if command_on channel (command_of line) then text ∷ on_channel channel lines texts
    else on_channel channel lines texts

-- a frame or a fragment is refused, or isn't looked into
abbrev pub IsRefused : (answer : List ℕ) → Type 0
IsRefused answer = (answer ≡ codes "other") ⊎ ((answer ≡ codes "refused frame")
    ⊎ ((answer ≡ codes "refused long") ⊎ ((answer ≡ codes "refused unaligned")
    ⊎ (answer ≡ codes "refused end"))))

-- two lists are the same but for the element after the first so many
pub record SameBut {X : Type 0} (count : ℕ) (xs ys : List X) : Type 0 where
  pub prefix : List X
  pub x : X
  pub y : X
  pub rest : List X
  pub counted : length prefix ≡ count
  pub xs_is : xs ≡ prefix ++ x ∷ rest
  pub ys_is : ys ≡ prefix ++ y ∷ rest

-- a bad line instead of this line leaves every other answer as it is
abbrev pub IsInert : (earlier : List (List ℕ)) → (line : List ℕ) → Type 0
IsInert earlier line = (later : List (List ℕ)) (bad : List ℕ) → command_of bad ≡ Bad
    → SameBut (length earlier) (answers_to (earlier ++ line ∷ later))
    (answers_to (earlier ++ bad ∷ later))
