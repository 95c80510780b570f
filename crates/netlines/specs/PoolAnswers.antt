-- What the code writes in answer to a line, and what its pool shows then.
use Rattle.std.specs.Prelude.{◌≡◌, ℕ, true, is_some, MatchResult, Result, List, take}
use Rattle.etherparse.specs.PoolCalls.{Lists, ShowsLists, lists_with_frame, memory_error_at_frame}
use Rattle.etherparse.specs.ReassemblyTable.{Pool}
use Rattle.etherparse.specs.declared.defrag.ip_frag_id.IpFragId.{IpFragId}
use Rattle.etherparse.specs.packet.Class.{Class}
use Rattle.netlines.specs.Answers.{class_answer, command_answer, command_takes_memory}
use Rattle.netlines.specs.Arrivals.{lists_with_line}
use Rattle.line_grammar.specs.Commands.{Command}

-- a frame of a class that came on a channel, in the line of this number, is answered by a prefix of
-- a text, and the pool shows the lists after the frame; or it is out of memory, for a frame that
-- may take some
abbrev pub AnswersClass : {E : Type 0} → (old new : Pool (IpFragId ℕ) ℕ) → (number : ℕ)
    → Class → (channel : ℕ)
    → (text : List ℕ) → Result ℕ E → Type 0
AnswersClass old new number class channel text result = (lists : Lists) → ShowsLists old lists
    → MatchResult result
    (λ end. (take end text ≡ class_answer lists class channel)
    × ShowsLists new (lists_with_frame lists class number channel))
    (λ e. is_some (memory_error_at_frame lists class channel) ≡ true)

-- the same of the command of a line
abbrev pub AnswersCommand : {E : Type 0} → (old new : Pool (IpFragId ℕ) ℕ) → (number : ℕ) → Command
    → (text : List ℕ) → Result ℕ E → Type 0
AnswersCommand old new number command text result = (lists : Lists) → ShowsLists old lists
    → MatchResult result
    (λ end. (take end text ≡ command_answer lists command)
    × ShowsLists new (lists_with_line lists number command))
    (λ e. command_takes_memory lists command ≡ true)
