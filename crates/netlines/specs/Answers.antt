-- The answer to a line after others, and the answers to a list of bytes line by line.
use Rattle.std.specs.Prelude.{ℕ, ◌==◌, Bool, false, if◌then◌else◌, is_some, Result, Ok, Err, List, [], ◌∷◌, ◌++◌}
use Rattle.std.specs.Prelude.{length, codes, decimal}
use Rattle.hex.specs.Hex.{encode_lower}
use Rattle.etherparse.specs.Fragments.{fragment}
use Rattle.etherparse.specs.Outcome.{Outcome}
use Rattle.etherparse.specs.Outcome.Outcome.{Clash, Completed, Refusal, Waiting}
use Rattle.etherparse.specs.PoolCalls.{Lists, outcome_at, memory_error_at_frame}
use Rattle.etherparse.specs.declared.defrag.ip_defrag_error.IpDefragError.TheVariants.{AllocationFailure}
use Rattle.etherparse.specs.declared.defrag.ip_defrag_error.IpDefragError.TheVariants.{ConflictingEnd}
use Rattle.etherparse.specs.declared.defrag.ip_defrag_error.IpDefragError.TheVariants.{OverlappingFragment}
use Rattle.etherparse.specs.declared.defrag.ip_defrag_error.IpDefragError.TheVariants.{SegmentTooBig}
use Rattle.etherparse.specs.declared.defrag.ip_defrag_error.IpDefragError.TheVariants.{UnalignedFragmentPayloadLen}
use Rattle.etherparse.specs.packet.Class.{Class, class_of}
use Rattle.etherparse.specs.packet.Class.Class.{Whole, Cut, Other, Refused}
use Rattle.etherparse.specs.packet.Readable.{ReadMessage, message_at}
use Rattle.etherparse.specs.packet.declared.addresses.Addresses.{Addresses}
use Rattle.etherparse.specs.packet.declared.err.packet.slice_error.SliceError.{SliceError}
use Rattle.netlines.specs.Arrivals.{lists_after_lines}
use Rattle.line_grammar.specs.Commands.{Command, command_of}
use Rattle.line_grammar.specs.Commands.Command.{Frame, Forget, Bad}
use Rattle.lines.specs.LineAnswers.{Meaning, answers_to_later, answers_to_ended}
use Rattle.lines.specs.Lines.{lines_of}
use Rattle.checksum_verdicts.specs.Verdict.{verdict_of}
use Rattle.checksum_verdicts.specs.declared.verdict.Verdict.{Verdict}
use Rattle.checksum_verdicts.specs.declared.verdict.Verdict.TheVariants as verdict

abbrev pub verdict_word : Verdict → List ℕ
verdict_word verdict.Good = codes "good"
verdict_word verdict.Bad = codes "bad"
verdict_word verdict.None = codes "none"

-- a message in lower case hex, or a dash where it has no bytes
abbrev pub message_answer : ℕ → Verdict → List ℕ → List ℕ
message_answer number verdict message =
    codes "message " ++ decimal number ++ codes " " ++ verdict_word verdict
    ++ codes " " ++ (if length message == 0 then codes "-" else encode_lower message)

-- the answer to the fragment that completes a message, by how the message is read
abbrev pub completed_answer : Addresses → ℕ → List ℕ → Result ReadMessage SliceError → List ℕ
completed_answer addresses number message (Ok read) =
    message_answer number (verdict_of addresses read) message
completed_answer addresses number message (Err e) = codes "refused message"

-- the answer to a fragment of a message between these addresses, by what becomes of it; none where
-- it is out of memory
abbrev pub outcome_answer : Addresses → (number : ℕ) → Outcome → List ℕ
outcome_answer addresses number (Refusal (SegmentTooBig offset payload_len max)) = codes "refused long"
outcome_answer addresses number (Refusal (UnalignedFragmentPayloadLen offset payload_len)) =
    codes "refused unaligned"
outcome_answer addresses number (Refusal (ConflictingEnd previous_end conflicting_end)) =
    codes "refused end"
outcome_answer addresses number (Refusal (AllocationFailure len)) = []
outcome_answer addresses number (Refusal (OverlappingFragment offset payload_len)) =
    codes "refused overlap"
outcome_answer addresses number (Clash error) = codes "refused overlap"
outcome_answer addresses number (Waiting fs) = codes "wait"
outcome_answer addresses number (Completed text) =
    completed_answer addresses number text (message_at number text)

-- the answer to a frame of a class that came on a channel, where these are the accepted fragments
-- of each message
abbrev pub class_answer : Lists → Class → ℕ → List ℕ
class_answer lists (Whole addresses number bytes message) channel =
    message_answer number (verdict_of addresses message) bytes
class_answer lists (Cut name offset more bytes) channel =
    outcome_answer name.addresses name.number (outcome_at lists name channel (fragment offset more bytes))
class_answer lists Other channel = codes "other"
class_answer lists Refused channel = codes "refused frame"

abbrev pub command_answer : Lists → Command → List ℕ
command_answer lists (Frame channel bytes) = class_answer lists (class_of bytes) channel
command_answer lists (Forget number) = codes "ok"
command_answer lists Bad = codes "bad line"

-- the answer to a line after others
unfoldable pub answer_after : List (List ℕ) → List ℕ → List ℕ
answer_after earlier line = command_answer (lists_after_lines earlier) (command_of line)

-- the answers to the fragments that end at these cuts: each waits for the rest of its message
abbrev pub wait_lines : (cuts : List ℕ) → List ℕ
wait_lines [] = []
wait_lines (cut ∷ cuts) = codes "wait" ++ 10 ∷ wait_lines cuts

-- a frame may take memory where it is a fragment that isn't refused after those before it
abbrev pub command_takes_memory : Lists → Command → Bool
command_takes_memory lists (Frame channel bytes) =
    is_some (memory_error_at_frame lists (class_of bytes) channel)
command_takes_memory lists (Forget number) = false
command_takes_memory lists Bad = false

unfoldable pub takes_memory : List (List ℕ) → List ℕ → Bool
takes_memory earlier line = command_takes_memory (lists_after_lines earlier) (command_of line)

-- the answers to all lines, each ended by 0a
abbrev pub answers_of : List ℕ → List ℕ
answers_of bytes =
    answers_to_later (λ earlier line. answer_after earlier line ++ 10 ∷ []) [] (lines_of bytes)

-- the meaning of lines: their answers, as lines, and which of them may take memory
abbrev pub frame_meaning : Meaning
frame_meaning = record {
  answer = λ earlier line. answer_after earlier line ++ 10 ∷ [];
  takes_memory = takes_memory;
}

-- the answers to the lines that 0a ends
abbrev pub ended_answers_of : List ℕ → List ℕ
ended_answers_of bytes = answers_to_ended frame_meaning bytes
